-- The line that answers a request.
use Rattle.std.specs.Prelude.{ℕ, List, Option, None, Result, Ok, Err}
use Rattle.std.specs.Option.{option_map}
use Rattle.client_port.specs.Lines.{line_of}
use Rattle.dura_model.specs.Entries.{placed}
use Rattle.dura_model.specs.Partition.{Partition}
use Rattle.dura_value.specs.Ids.{client, home}
use Rattle.hub_store.specs.Trail.{Settled, Said, of_part}
use Rattle.many_rules.specs.Rules.{Rules}

abbrev pub line_in : Said → Result Partition ℕ → Option (List ℕ)
line_in one (Ok p) = option_map (line_of one.client one.number) (p.answers (client one.client) one.number)
line_in one (Err n) = None

-- as the home of its client has it, once this was settled
abbrev pub answer : Rules → List Settled → Said → Option (List ℕ)
answer rules trail one = let place = home rules.count (client one.client) in line_in one (placed rules.flows rules.count (rules.begin place) (of_part place trail))
