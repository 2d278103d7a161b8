-- An instance as it is kept after a delivery or an event.
use Rattle.std.specs.Prelude.{ℕ, List, Option, option_map}
use Rattle.dura_value.specs.Ids.{Id}
use Rattle.flow_syntax.specs.Machine.{Event}
use Rattle.dura_value.specs.ById.{at_id}
use Rattle.dura_model.specs.Partition.{Row, Partition, history_of, with_event, post_all, asked_in, given_up_in}
use Rattle.part_rows.specs.Reactions.{Reaction}

-- the row of an instance for whose end these wait, after a delivery or an event at this stamp
abbrev pub next_row : Option Row → ℕ → Option Event → List (Id × ℕ) → Row
next_row row stamp event waiting = record { stamp = stamp; history = with_event (history_of row) stamp event; waiting = waiting }

-- an instance stands as a reaction at this stamp makes it
abbrev pub kept_in : ℕ → Partition → Id → ℕ → Reaction → Partition
kept_in count p id stamp r =
    post_all count (asked_in (given_up_in (record p { instances = at_id p.instances id (option_map (next_row (p.instances id) stamp r.event) r.waiting) }) id r.gives_up) id r.asked) r.sent
