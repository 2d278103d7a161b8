-- States, entries and files of two partitions, by example.
use Rattle.std.specs.Prelude.{ℕ, List, [], ◌∷◌, ◌==◌, codes, slice_set, if◌then◌else◌, Option, Some, None}
use Rattle.dura_model.specs.Partition.{Partition, fresh, with_part}
use Rattle.dura_value.specs.Items.{Item, Entry, got, took, ended, trim, Posted}
use Rattle.dura_value.specs.declared.outcome.Outcome.{Outcome}
use Rattle.flow_syntax.specs.Syntax.{Flows}
use Rattle.many_examples.specs.Pairs.{asks, request, entry_at, commit_at, first_entry}
use Rattle.many_logs.specs.Placing.{Commit, states_after}
use Rattle.part_items.specs.Examples.{empty_log, taking_log, taking}
use Rattle.run_rules.specs.Examples.{summing}
use Rattle.run_rules.specs.FieldExamples.{asking}

-- the states that entries of two partitions made, if they made any
abbrev pub made_or_fresh : Option (ℕ → Partition) → ℕ → Partition
made_or_fresh None = fresh
made_or_fresh (Some states) = states

abbrev pub states_of : Flows → List Commit → ℕ → Partition
states_of flows run = made_or_fresh (states_after flows 2 fresh run)

-- the request of client a, as the stream from its partition has it
abbrev pub first_posted : Posted
first_posted = record { entry = first_entry 1; message = request 1 }

-- what comes in as the first message of partition 1, which sent another
abbrev pub other_coming : Entry
other_coming = entry_at 0 (got (first_entry 1) 0 (request 2))

-- a request that is taken, and behind it the first message of partition 1
abbrev pub two_coming : Entry
two_coming = record { position = 0; incarnation = 0; items = took (asks (codes "b") (codes "y") 1) ∷ got (first_entry 1) 0 (request 1) ∷ [] }

-- the first message of partition 1, as if its entry of this incarnation and at this position had sent it
abbrev pub first_from : (incarnation position : ℕ) → Item
first_from incarnation position = got (record { partition = 1; incarnation = incarnation; position = position }) 0 (request 1)

-- the second request of client a is taken, and of the two messages the first is let go
abbrev pub taking_second : Commit
taking_second = commit_at 1 1 (took (request 2))

abbrev pub letting_first_go : Commit
letting_first_go = commit_at 1 2 (trim (first_entry 0) 1)

abbrev pub second_posted : Posted
second_posted = record { entry = record { partition = 1; incarnation = 0; position = 1 }; message = request 2 }

-- an instance of partition 1 has asked by its task 3 for the sum of null
abbrev pub asking_states : ℕ → Partition
asking_states = with_part fresh 1 (record asking { number = 1 })

-- the activity of that task ends
abbrev pub ending_sum : Outcome → Commit
ending_sum outcome = commit_at 1 0 (ended summing 3 outcome)

-- the entry of one partition, and none of the other
abbrev pub log_of : Commit → ℕ → List Entry
log_of one partition = if partition == one.partition then one.entry ∷ [] else []

-- ---- files

-- of all files this one alone has bytes
abbrev pub one_file : (file : ℕ) → List ℕ → ℕ → List ℕ
one_file file bytes number = if number == file then bytes else []

-- the logs of two partitions without an entry, and with client a's request to start Sum/x taken
abbrev pub none_of : (partition : ℕ) → List ℕ
none_of partition = slice_set (slice_set empty_log 12 partition) 16 2

abbrev pub taken_of : (partition : ℕ) → List ℕ
taken_of partition = slice_set (slice_set taking_log 12 partition) 16 2

-- it is taken by the partition in which the client lives
abbrev pub taking_x : Commit
taking_x = record { partition = 1; entry = taking 0 }

-- an entry without items of a partition that isn't there
abbrev pub beyond : Commit
beyond = record { partition = 2; entry = record { position = 0; incarnation = 0; items = [] } }
