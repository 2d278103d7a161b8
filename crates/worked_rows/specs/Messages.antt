-- One spelling of each kind of answer and body, and broken ones.
use Rattle.std.specs.Prelude.{ℕ, List, [], ◌∷◌, codes}
use Rattle.dura_value.specs.declared.data.Value.TheVariants as values
use Rattle.dura_value.specs.Ids.{orchestration, client}
use Rattle.dura_value.specs.Messages.{to_nobody, to_task, to_request, Answer, is_done, has_failed, was_started, was_there, is_unknown, was_raised, has_ended, is_missing, is_running, is_value, Body, start, raise, query, wait, result, operate, lock, granted, release, Message}

abbrev pub answer_rows : List (List ℕ × Answer)
answer_rows =
    (0 ∷ 0 ∷ [], is_done values.Null)
    ∷ (1 ∷ 0 ∷ 2 ∷ 0x6E ∷ 0x6F ∷ [], has_failed (codes "no"))
    ∷ (2 ∷ [], was_started)
    ∷ (3 ∷ [], was_there)
    ∷ (4 ∷ [], is_unknown)
    ∷ (5 ∷ [], was_raised)
    ∷ (6 ∷ [], has_ended)
    ∷ (7 ∷ [], is_missing)
    ∷ (8 ∷ [], is_running)
    ∷ (9 ∷ 2 ∷ [], is_value values.True)
    ∷ []

-- no such kind; done without its value; failed with a text's byte missing; a value of no kind
abbrev pub answer_faults : List (List ℕ × ℕ)
answer_faults =
    (10 ∷ [], 0)
    ∷ (0 ∷ [], 1)
    ∷ (1 ∷ 0 ∷ 2 ∷ 0x6E ∷ [], 3)
    ∷ (9 ∷ 6 ∷ [], 1)
    ∷ []

-- start with null for request 1; raise go with true by request 2; query and wait by request 1; done null for task 0; operation
-- put with null for nobody; a lock of Sum/x, task 2, of @Pot/0 and @Pot/1, at its second; granted for task 2; release
abbrev pub body_rows : List (List ℕ × Body)
body_rows =
    (0x10 ∷ 0 ∷ 2 ∷ 0 ∷ 0 ∷ 0 ∷ 1 ∷ [], start values.Null (to_request 1))
    ∷ (0x11 ∷ 2 ∷ 0x67 ∷ 0x6F ∷ 2 ∷ 0 ∷ 0 ∷ 0 ∷ 2 ∷ [], raise (codes "go") values.True 2)
    ∷ (0x12 ∷ 0 ∷ 0 ∷ 0 ∷ 1 ∷ [], query 1)
    ∷ (0x13 ∷ 0 ∷ 0 ∷ 0 ∷ 1 ∷ [], wait 1)
    ∷ (0x14 ∷ 1 ∷ 0 ∷ 0 ∷ 0 ∷ 0 ∷ 0 ∷ 0 ∷ [], result (to_task 0) (is_done values.Null))
    ∷ (0x15 ∷ 3 ∷ 0x70 ∷ 0x75 ∷ 0x74 ∷ 0 ∷ 0 ∷ [], operate (codes "put") values.Null to_nobody)
    ∷ (
      0x16 ∷ 1 ∷ 3 ∷ 0x53 ∷ 0x75 ∷ 0x6D ∷ 1 ∷ 0x78 ∷ 0 ∷ 0 ∷ 0 ∷ 2 ∷ 2 ∷ 3 ∷ 0x50 ∷ 0x6F ∷ 0x74 ∷ 1 ∷ 0x30 ∷ 3 ∷ 0x50 ∷ 0x6F ∷ 0x74 ∷ 1 ∷ 0x31 ∷ 1 ∷ [],
      lock (orchestration (codes "Sum") (codes "x")) 2 (record { class = codes "Pot"; key = codes "0" } ∷ record { class = codes "Pot"; key = codes "1" } ∷ []) 1,
    )
    ∷ (0x17 ∷ 0 ∷ 0 ∷ 0 ∷ 2 ∷ [], granted 2)
    ∷ (0x18 ∷ [], release)
    ∷ []

-- no such kind, below and above; start without its reply; raise by request 0; query by request 0; wait by three bytes; a result
-- without its answer; an operation without a name; a lock of 17 entities, of one entity that lacks, and without its place;
-- granted without its task
abbrev pub body_faults : List (List ℕ × ℕ)
body_faults =
    (0x0F ∷ [], 0)
    ∷ (0x19 ∷ [], 0)
    ∷ (0x10 ∷ 0 ∷ [], 2)
    ∷ (0x11 ∷ 2 ∷ 0x67 ∷ 0x6F ∷ 2 ∷ 0 ∷ 0 ∷ 0 ∷ 0 ∷ [], 5)
    ∷ (0x12 ∷ 0 ∷ 0 ∷ 0 ∷ 0 ∷ [], 1)
    ∷ (0x13 ∷ 0 ∷ 0 ∷ 0 ∷ [], 1)
    ∷ (0x14 ∷ 0 ∷ [], 2)
    ∷ (0x15 ∷ 0 ∷ [], 1)
    ∷ (0x16 ∷ 3 ∷ 1 ∷ 0x61 ∷ 0 ∷ 0 ∷ 0 ∷ 0 ∷ 17 ∷ [], 8)
    ∷ (0x16 ∷ 3 ∷ 1 ∷ 0x61 ∷ 0 ∷ 0 ∷ 0 ∷ 0 ∷ 1 ∷ [], 9)
    ∷ (0x16 ∷ 3 ∷ 1 ∷ 0x61 ∷ 0 ∷ 0 ∷ 0 ∷ 0 ∷ 0 ∷ [], 9)
    ∷ (0x17 ∷ [], 1)
    ∷ []

-- client a starts Sum/x with null for its request 1
abbrev pub message_rows : List (List ℕ × Message)
message_rows = (
  3 ∷ 1 ∷ 0x61 ∷ 1 ∷ 3 ∷ 0x53 ∷ 0x75 ∷ 0x6D ∷ 1 ∷ 0x78 ∷ 0x10 ∷ 0 ∷ 2 ∷ 0 ∷ 0 ∷ 0 ∷ 1 ∷ [],
  record { from = client (codes "a"); to = orchestration (codes "Sum") (codes "x"); body = start values.Null (to_request 1) },
)
    ∷ []

-- a receiver of no kind; a body of no kind
abbrev pub message_faults : List (List ℕ × ℕ)
message_faults =
    (3 ∷ 1 ∷ 0x61 ∷ 0 ∷ [], 3)
    ∷ (3 ∷ 1 ∷ 0x61 ∷ 3 ∷ 1 ∷ 0x62 ∷ 0x20 ∷ [], 6)
    ∷ []
