-- Calls of two partitions, by example: client a lives in partition 1, and so does Sum/x; Sum/y lives in 0.
use Rattle.std.specs.Prelude.{ℕ, true, false, List, [], ◌∷◌, ◌++◌, ◌==◌, codes, slice_set, if◌then◌else◌, Option, Some, None}
use Rattle.dura_model.specs.Legal.{after}
use Rattle.dura_model.specs.Partition.{Partition, fresh, with_part}
use Rattle.dura_model.specs.World.{World, empty}
use Rattle.dura_value.specs.ById.{at_number}
use Rattle.dura_value.specs.Ids.{client, orchestration}
use Rattle.dura_value.specs.Items.{Entry, took, ran, ended, fired, trim}
use Rattle.dura_value.specs.Messages.{wait, was_started}
use Rattle.dura_value.specs.declared.data.Value.TheVariants as values
use Rattle.dura_value.specs.declared.outcome.Outcome.TheVariants as outcomes
use Rattle.flow_syntax.specs.Syntax.{Flows}
use Rattle.hub_store.specs.Origin.{Log, Origin}
use Rattle.hub_store.specs.Trail.{Settled, Said}
use Rattle.many_examples.specs.Pairs.{asks, request, entry_at, commit_at, first_entry, taking}
use Rattle.many_examples.specs.Placings.{states_of, asking_states, taken_of}
use Rattle.many_logs.specs.Labels.{labels_of_commits}
use Rattle.many_logs.specs.Placing.{Commit, of_partition}
use Rattle.many_rules.specs.Leaves.{header_at}
use Rattle.many_rules.specs.Rules.{Rules}
use Rattle.part_items.specs.Examples.{digest}
use Rattle.part_items.specs.Logs.{first_log}
use Rattle.request_reader.specs.Line.{Request}
use Rattle.run_rules.specs.Examples.{summing}
use Rattle.run_rules.specs.FieldExamples.{no_sum, starting, sum_flows}
use Rattle.site_model.specs.History.{Step, on, wrote}

-- ---- what is asked

-- client a asks to start Sum/y, and then waits for its end
abbrev pub first_asked : Request
first_asked = record { client = codes "a"; number = 1; message = request 1 }

abbrev pub then_asked : Request
then_asked = record {
  client = codes "a";
  number = 2;
  message = record { from = client (codes "a"); to = orchestration (codes "Sum") (codes "y"); body = wait 2 };
}

-- client a asks to start Sum/x
abbrev pub asked_for_x : Request
asked_for_x = record { client = codes "a"; number = 1; message = asks (codes "a") (codes "x") 1 }

-- a call of two partitions in their first incarnations, where nothing happened before
abbrev pub rules_with : Flows → Rules
rules_with flows = record {
  flows = flows;
  count = 2;
  recovered = [];
  begin = fresh;
  incarnations = λ partition. 0;
  since = 0;
  most = 64;
  requests = first_asked ∷ then_asked ∷ [];
  serves = true;
}

-- one in which Sum/x is asked for
abbrev pub taking_rules : Flows → Rules
taking_rules flows = record (rules_with flows) { requests = asked_for_x ∷ [] }

-- one in which partition 0 is in one more incarnation, and one in which nobody asks
abbrev pub later_rules : Flows → Rules
later_rules flows = record (rules_with flows) { incarnations = λ partition. if partition == 0 then 1 else 0 }

abbrev pub silent_rules : Flows → Rules
silent_rules flows = record (rules_with flows) { requests = [] }

-- one whose partitions' states are of a later incarnation than its first entries may be
abbrev pub aged_rules : Flows → Rules
aged_rules flows = record (rules_with flows) { begin = λ partition. record (fresh partition) { incarnation = 1 } }

-- one that serves nobody
abbrev pub free_rules : Flows → Rules
free_rules flows = record (silent_rules flows) { serves = false }

-- one whose logs keep this entry
abbrev pub recovering : Flows → Commit → Rules
recovering flows one = record (rules_with flows) { recovered = one ∷ [] }

-- one that begins where an instance of partition 1 has asked for the sum of null
abbrev pub asking_rules : Flows → Rules
asking_rules flows = record (rules_with flows) { begin = asking_states }

-- one that finds the answer to the first request in this partition
abbrev pub answered_in : (partition : ℕ) → ℕ → Partition
answered_in partition = with_part fresh partition (record (fresh partition) { answers = at_number (fresh partition).answers (client (codes "a")) 1 (Some was_started) })

abbrev pub answering_rules : Flows → (partition : ℕ) → Rules
answering_rules flows partition = record (rules_with flows) { begin = answered_in partition }

-- one that finds an answer to the second request, though the first is still to be answered
abbrev pub second_rules : Flows → Rules
second_rules flows = record (rules_with flows) { begin = with_part fresh 1 (record (fresh 1) { answers = at_number (fresh 1).answers (client (codes "a")) 2 (Some was_started) }) }

-- one that serves nobody, and finds the answer to the second request
abbrev pub unserved_rules : Flows → Rules
unserved_rules flows = record (second_rules flows) { serves = false }

-- ---- what comes

-- an entry of a partition is settled
abbrev pub settled : Commit → Settled
settled one = record { partition = one.partition; entry = one.entry; at = 0 }

abbrev pub taken_once : List Settled
taken_once = settled taking ∷ []

-- an entry in which a timer fires at this stamp
abbrev pub firing : (stamp : ℕ) → Entry
firing stamp = entry_at 0 (fired summing 3 stamp)

abbrev pub first_said : Said
first_said = record { client = codes "a"; number = 1 }

abbrev pub second_said : Said
second_said = record { client = codes "a"; number = 2 }

-- the entry of partition 1 in which Sum/x is started, and asks for the sum by its task 0
abbrev pub starting_sum : Commit
starting_sum = record { partition = 1; entry = starting }

-- the same entry, in which the activity ends as well
abbrev pub at_once : Commit
at_once = record { partition = 1; entry = record starting { items = starting.items ++ ended summing 0 no_sum ∷ [] } }

-- partition 1 lets go of nothing, as read by an entry of partition 0 that never was
abbrev pub letting_unknown : Commit
letting_unknown = commit_at 1 0 (trim (first_entry 0) 0)

-- ---- where a call begins

-- the logs of both lie in their first files and have no entries, and nothing happened outside
abbrev pub empty_log : (partition : ℕ) → Log
empty_log partition = record { file = first_log partition; header = header_at 2 digest partition; payloads = []; entries = [] }

abbrev pub empty_origin : Origin
empty_origin = record { count = 2; logs = empty_log; steps = [] }

-- the sum of null was asked for, and then it was done
abbrev pub sum_done : List Commit
sum_done = starting_sum ∷ record { partition = 1; entry = record { position = 1; incarnation = 0; items = ended summing 0 (outcomes.Done values.Null) ∷ [] } } ∷ []

abbrev pub sum_done_origin : Origin
sum_done_origin = record empty_origin { logs = λ partition. record (empty_log partition) { entries = of_partition partition sum_done } }

abbrev pub sum_done_rules : Rules
sum_done_rules = record (rules_with sum_flows) { recovered = sum_done; begin = states_of sum_flows sum_done }

-- ---- what a crash leaves

-- a file of no flows, whose client asks for one by an instance that lives where the client does
abbrev pub no_flows : Flows
no_flows = record { flows = []; classes = [] }

abbrev pub unknown_rules : Rules
unknown_rules = record (rules_with no_flows) { requests = record { client = codes "a"; number = 1; message = asks (codes "a") (codes "x") 1 } ∷ then_asked ∷ [] }

-- the entry by which the request is taken, and answered at this stamp: there is no such flow
abbrev pub answering_at : (stamp : ℕ) → Commit
answering_at stamp = record {
  partition = 1;
  entry = record {
    position = 0;
    incarnation = 0;
    items = took (asks (codes "a") (codes "x") 1) ∷ ran (client (codes "a")) summing stamp ∷ ran summing (client (codes "a")) stamp ∷ [];
  };
}

abbrev pub answering : Commit
answering = answering_at 0

-- the frame of a request of client a was written to the log of partition 1, and then its gate
abbrev pub gate_written : List Step
gate_written = on (first_log 1) (wrote 33 1 (0xC3 ∷ [])) ∷ on (first_log 1) (wrote 0 77 (slice_set (taken_of 1) 33 0)) ∷ []

abbrev pub world_in : Option World → World
world_in None = empty
world_in (Some world) = world

abbrev pub answered_world : World
answered_world = world_in (after no_flows (labels_of_commits (answering ∷ [])))
