-- What each fact about entries and lines keeps out, by example.
use Rattle.std.specs.Prelude.{ℕ, pos, [], ◌∷◌, codes, Some}
use Rattle.dura_model.specs.Partition.{Partition}
use Rattle.dura_value.specs.ById.{at_id, at_number}
use Rattle.dura_value.specs.Ids.{client}
use Rattle.dura_value.specs.Items.{Entry, took, ran, ended, fired}
use Rattle.dura_value.specs.Messages.{Message, start, to_request, was_started}
use Rattle.dura_value.specs.declared.data.Value.TheVariants as values
use Rattle.dura_value.specs.declared.data.Scalar.TheVariants as scalars
use Rattle.dura_value.specs.declared.outcome.Outcome.{Outcome}
use Rattle.dura_value.specs.declared.outcome.Outcome.TheVariants as outcomes
use Rattle.flow_syntax.specs.Syntax.{Flows}
use Rattle.flow_syntax.specs.Syntax.Block.{nothing, first_then}
use Rattle.flow_syntax.specs.Syntax.Statement.{call, return}
use Rattle.flow_syntax.specs.Syntax.Expression.{scalar}
use Rattle.part_items.specs.Examples.{request}
use Rattle.run_rules.specs.Rules.{Rules}
use Rattle.run_rules.specs.Examples.{rules_with, started, summing, adding}

-- to start Sum/x with 1, which nobody asks for
abbrev pub other_start : Message
other_start = record request { body = start (values.Int (pos 1)) (to_request 1) }

-- an entry in which a timer fires at this stamp
abbrev pub firing : (stamp : ℕ) → Entry
firing stamp = record { position = 0; incarnation = 0; items = fired summing 3 stamp ∷ [] }

-- an instance is there that has asked by its task 3 for the sum of null
abbrev pub asking : Partition
asking = record adding { instances = at_id adding.instances summing (Some (record { stamp = 0; history = []; waiting = [] })) }

abbrev pub asking_rules : Flows → Rules
asking_rules flows = record (rules_with flows) { begin = asking }

-- what has no sum fails so
abbrev pub no_sum : Outcome
no_sum = outcomes.Failed (codes "type")

-- a workflow that calls the activity
abbrev pub sum_flows : Flows
sum_flows = record {
  flows = record { name = codes "Sum"; it = first_then (call (codes "s") (codes "add") (scalar scalars.Null)) (first_then (return (scalar scalars.Null)) nothing) } ∷ [];
  classes = [];
}

-- an entry in which Sum/x is started and asks for the sum by its task 0, and one in which that ends
abbrev pub starting : Entry
starting = record { position = 0; incarnation = 0; items = took request ∷ ran request.from request.to 5 ∷ [] }

abbrev pub ending_first : Entry
ending_first = record { position = 1; incarnation = 0; items = ended summing 0 no_sum ∷ [] }

-- both requests of the client have an answer
abbrev pub both_answered : Partition
both_answered = record started { answers = at_number started.answers (client (codes "a")) 2 (Some was_started) }

abbrev pub answered_rules : Flows → Rules
answered_rules flows = record (rules_with flows) { begin = both_answered }
