-- The plain data that what was settled and said stands for.
use Rattle.std.specs.Prelude.{List, map}
use Rattle.log_items.specs.Plain.{items_of}
use Rattle.hub_store.specs.declared.trail.Settled as rows
use Rattle.hub_store.specs.declared.trail.Said as requests
use Rattle.hub_store.specs.Trail.{Settled, Said}

abbrev pub settled_of : rows.Settled → Settled
settled_of row = record { partition = row.partition; entry = record { position = row.position; incarnation = row.incarnation; items = items_of row.items }; at = row.at }

abbrev pub trail_of : List rows.Settled → List Settled
trail_of = map settled_of

abbrev pub said_of : requests.Said → Said
said_of request = record { client = request.client; number = request.number }

abbrev pub told_of : List requests.Said → List Said
told_of = map said_of
