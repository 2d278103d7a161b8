-- Where a call begins, and what a crash leaves of it, by example.
use Rattle.std.specs.Prelude.{ℕ, List, [], ◌∷◌, ◌++◌, take, slice_set, codes, Option, Some, None}
use Rattle.dura_model.specs.Legal.{after}
use Rattle.dura_model.specs.World.{World, empty}
use Rattle.dura_value.specs.Ids.{client, orchestration}
use Rattle.dura_value.specs.Items.{Entry, took, ran}
use Rattle.flow_syntax.specs.Syntax.{Flows}
use Rattle.hub_store.specs.Origin.{Log, Origin}
use Rattle.hub_store.specs.Trail.{Settled, Said}
use Rattle.part_items.specs.Examples.{digest, request, taking, taking_frame, taking_log}
use Rattle.part_items.specs.Logs.{first_log}
use Rattle.dura_model.specs.Entries.{labels_in}
use Rattle.run_laws.specs.Begins.{header_with}
use Rattle.run_rules.specs.Examples.{rules_with}
use Rattle.run_rules.specs.Rules.{Rules}

-- the log of partition 0 lies in its first file and has no entries, and nothing happened outside
abbrev pub empty_log : Log
empty_log = record { file = first_log 0; header = header_with digest; payloads = []; entries = [] }

abbrev pub empty_origin : Origin
empty_origin = record { count = 1; logs = λ partition. empty_log; steps = [] }

-- a file of no flows, whose call has client a's request for one
abbrev pub no_flows : Flows
no_flows = record { flows = []; classes = [] }

abbrev pub rules : Rules
rules = rules_with no_flows

-- the entry by which it is taken, and answered: there is no such flow
abbrev pub answering : Entry
answering = record {
  position = 0;
  incarnation = 0;
  items = took request ∷ ran (client (codes "a")) (orchestration (codes "Sum") (codes "x")) 0 ∷ ran (orchestration (codes "Sum") (codes "x")) (client (codes "a")) 0 ∷ [];
}

-- a log that had an entry without items, which no file keeps
abbrev pub odd_origin : Origin
odd_origin = record empty_origin { logs = λ partition. record empty_log { entries = record { position = 0; incarnation = 0; items = [] } ∷ [] } }

-- the entry by which client a's request is taken was settled; and then another, by which it is taken again
abbrev pub taken_once : List Settled
taken_once = record { partition = 0; entry = taking 0; at = 0 } ∷ []

abbrev pub taken_twice : List Settled
taken_twice = record { partition = 0; entry = taking 0; at = 0 } ∷ record { partition = 0; entry = taking 1; at = 0 } ∷ []

-- a log with both
abbrev pub twice_log : List ℕ
twice_log = take 76 taking_log ++ 0xC3 ∷ slice_set taking_frame 13 1 ++ 0 ∷ []

abbrev pub world_in : Option World → World
world_in None = empty
world_in (Some world) = world

abbrev pub answered_world : World
answered_world = world_in (after no_flows (labels_in (answering ∷ [])))

abbrev pub first_said : Said
first_said = record { client = codes "a"; number = 1 }
