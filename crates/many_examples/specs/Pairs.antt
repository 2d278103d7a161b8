-- What entries of two and of three partitions make of their states, by example. Of two, client a lives in partition 1 and Sum/y in 0,
-- client b in 0 and Sum/x in 1; of three, clients g, a and c live in 0, 1 and 2.
use Rattle.std.specs.Prelude.{◌==◌, ℕ, List, [], ◌∷◌, map, codes, Bool, if◌then◌else◌, Option, option_map}
use Rattle.dura_value.specs.declared.data.Value.TheVariants as values
use Rattle.dura_value.specs.Ids.{orchestration, client}
use Rattle.dura_value.specs.Items.{Identity, Item, took, got, trim, Entry}
use Rattle.dura_value.specs.Messages.{start, to_request, Message}
use Rattle.flow_syntax.specs.Syntax.{Flows}
use Rattle.dura_model.specs.Partition.{Partition, fresh}
use Rattle.many_logs.specs.Placing.{Commit, placed, states_after, has_sent, stands_at}
use Rattle.many_logs.specs.Unplaced.{Unplaced, unplaced}

-- a client's request with this number, to start an instance of Sum with null
abbrev pub asks : (name key : List ℕ) → (number : ℕ) → Message
asks name key number = record { from = client name; to = orchestration (codes "Sum") key; body = start values.Null (to_request number) }

-- client a's request with this number, to start Sum/y
abbrev pub request : ℕ → Message
request number = asks (codes "a") (codes "y") number

abbrev pub entry_at : (position : ℕ) → Item → Entry
entry_at position item = record { position = position; incarnation = 0; items = item ∷ [] }

abbrev pub commit_at : (partition position : ℕ) → Item → Commit
commit_at partition position item = record { partition = partition; entry = entry_at position item }

-- the first entry of a partition
abbrev pub first_entry : ℕ → Identity
first_entry partition = record { partition = partition; incarnation = 0; position = 0 }

-- ---- two logs that need each other

-- Partition 1 took the request, and lets the message go; partition 0 took it in, as this one.
abbrev pub logs_with : Message → ℕ → List Entry
logs_with message partition = if partition == 0 then entry_at 0 (got (first_entry 1) 0 message) ∷ [] else entry_at 0 (took (request 1)) ∷ entry_at 1 (trim (first_entry 0) 1) ∷ []

-- the entries of two partitions that are left of these logs
abbrev pub left_of : Flows → (ℕ → List Entry) → List (List Entry)
left_of flows logs = map (placed flows 2 logs).left (0 ∷ 1 ∷ [])

-- why they are
abbrev pub reason_of : Flows → (ℕ → List Entry) → Option Unplaced
reason_of flows logs = unplaced flows 2 (placed flows 2 logs)

-- partition 1 took in the request of client b that partition 0, whose log is empty, sent by its first entry
abbrev pub emptied : ℕ → List Entry
emptied partition = if partition == 0 then [] else entry_at 0 (got (first_entry 0) 0 (asks (codes "b") (codes "x") 1)) ∷ []

-- partition 0 took a request of client a, who lives in 1
abbrev pub astray : ℕ → List Entry
astray partition = if partition == 0 then entry_at 0 (took (request 1)) ∷ [] else []

-- partition 1 lets go of what partition 0 hasn't taken in
abbrev pub let_go_early : ℕ → List Entry
let_go_early partition = if partition == 0 then [] else entry_at 0 (took (request 1)) ∷ entry_at 1 (trim (first_entry 0) 1) ∷ []

-- ---- in an order

abbrev pub taking : Commit
taking = commit_at 1 0 (took (request 1))

abbrev pub coming_in : (position : ℕ) → Commit
coming_in position = commit_at 0 position (got (first_entry 1) 0 (request 1))

abbrev pub letting_go : Commit
letting_go = commit_at 1 1 (trim (first_entry 0) 1)

-- how many entries each of so many partitions has placed once these are committed
abbrev pub positions : Flows → (count : ℕ) → List ℕ → List Commit → Option (List ℕ)
positions flows count partitions commits = option_map (λ states. map (λ p. (states p).position) partitions) (states_after flows count fresh commits)

-- whether partition 1's stream to partition 0 has sent the request under number 0, and whether it stands there
abbrev pub sent_first : Flows → List Commit → Option Bool
sent_first flows commits = option_map (λ states. has_sent ((states 1).outboxes 0) (first_entry 1) 0 (request 1)) (states_after flows 2 fresh commits)

abbrev pub stands_first : Flows → List Commit → Option Bool
stands_first flows commits = option_map (λ states. stands_at ((states 1).outboxes 0) (first_entry 1) 0 (request 1)) (states_after flows 2 fresh commits)

-- ---- three partitions

-- each takes a request of its own client
abbrev pub of_g : Commit
of_g = commit_at 0 0 (took (asks (codes "g") (codes "x") 1))

abbrev pub of_a : Commit
of_a = commit_at 1 0 (took (asks (codes "a") (codes "x") 1))

abbrev pub of_c : Commit
of_c = commit_at 2 0 (took (asks (codes "c") (codes "x") 1))

abbrev pub orders : List (List Commit)
orders =
    (of_g ∷ of_a ∷ of_c ∷ []) ∷ (of_g ∷ of_c ∷ of_a ∷ []) ∷ (of_a ∷ of_g ∷ of_c ∷ [])
    ∷ (of_a ∷ of_c ∷ of_g ∷ []) ∷ (of_c ∷ of_g ∷ of_a ∷ []) ∷ (of_c ∷ of_a ∷ of_g ∷ []) ∷ []

-- ---- frames under way

-- partition 0 takes in what is settled of partition 1, and partition 1 takes another request
abbrev pub frames : (first second : Bool) → ℕ → List Entry
frames first second partition =
    if partition == 0 then (if first then (coming_in 0).entry ∷ [] else []) else (if second then entry_at 1 (took (request 2)) ∷ [] else [])
