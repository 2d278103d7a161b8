-- What a call may commit and say, by example.
use Rattle.std.specs.Prelude.{ℕ, [], ◌∷◌, codes, Some}
use Rattle.dura_model.specs.Partition.{Partition, fresh}
use Rattle.dura_value.specs.ById.{at_number}
use Rattle.dura_value.specs.Ids.{Id, client, orchestration}
use Rattle.dura_value.specs.Items.{Entry, ended}
use Rattle.dura_value.specs.Messages.{Message, wait, was_started}
use Rattle.dura_value.specs.declared.data.Value.TheVariants as values
use Rattle.dura_value.specs.declared.outcome.Outcome.{Outcome}
use Rattle.flow_syntax.specs.Syntax.{Flows}
use Rattle.part_items.specs.Examples.{request}
use Rattle.request_reader.specs.Line.{Request}
use Rattle.run_rules.specs.Rules.{Rules, Told}

-- the request was taken, and is under way
abbrev pub request_taken : Partition
request_taken = record (fresh 0) { position = 1; taken = at_number (fresh 0).taken request.from 1 (Some request); queue = request ∷ [] }

-- client a asks to start Sum/x, and then waits for its end
abbrev pub waiting : Message
waiting = record { from = client (codes "a"); to = orchestration (codes "Sum") (codes "x"); body = wait 2 }

abbrev pub first_asked : Request
first_asked = record { client = codes "a"; number = 1; message = request }

abbrev pub then_asked : Request
then_asked = record { client = codes "a"; number = 2; message = waiting }

-- a call in a first incarnation, where nothing happened before
abbrev pub rules_with : Flows → Rules
rules_with flows = record { flows = flows; begin = fresh 0; incarnation = 0; requests = first_asked ∷ then_asked ∷ [] }

-- one more incarnation, in which nobody asks for anything
abbrev pub later_rules : Flows → Rules
later_rules flows = record (rules_with flows) { incarnation = 1 }

abbrev pub silent_rules : Flows → Rules
silent_rules flows = record (rules_with flows) { requests = [] }

-- the first request was answered
abbrev pub told_once : Told
told_once = (codes "a", 1) ∷ []

-- a call that finds the answer to it
abbrev pub started : Partition
started = record (fresh 0) { answers = at_number (fresh 0).answers (client (codes "a")) 1 (Some was_started) }

abbrev pub answering_rules : Flows → Rules
answering_rules flows = record (rules_with flows) { begin = started }

abbrev pub summing : Id
summing = orchestration (codes "Sum") (codes "x")

-- an instance has asked for an activity by its task 3
abbrev pub adding : Partition
adding = record (fresh 0) { activities = at_number (fresh 0).activities summing 3 (Some (record { name = codes "add"; argument = values.Null })) }

-- an entry in which the activity of task 3 ends
abbrev pub ending : (position : ℕ) → Outcome → Entry
ending position outcome = record { position = position; incarnation = 0; items = ended summing 3 outcome ∷ [] }
