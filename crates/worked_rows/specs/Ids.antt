-- One spelling of each kind of id and reply, and broken ones.
use Rattle.std.specs.Prelude.{ℕ, List, [], ◌∷◌, codes}
use Rattle.dura_value.specs.Ids.{Id, orchestration, entity, client}
use Rattle.dura_value.specs.Messages.{Reply, to_nobody, to_task, to_request}

-- `Sum/x`, `@Pot/0`, `#a`
abbrev pub id_rows : List (List ℕ × Id)
id_rows =
    (1 ∷ 3 ∷ 0x53 ∷ 0x75 ∷ 0x6D ∷ 1 ∷ 0x78 ∷ [], orchestration (codes "Sum") (codes "x"))
    ∷ (2 ∷ 3 ∷ 0x50 ∷ 0x6F ∷ 0x74 ∷ 1 ∷ 0x30 ∷ [], entity (codes "Pot") (codes "0"))
    ∷ (3 ∷ 1 ∷ 0x61 ∷ [], client (codes "a"))
    ∷ []

-- no such kind, below and above; an empty name; a length past 64; a name that begins with a digit; a key missing; a key with a
-- slash; a name with a byte missing
abbrev pub id_faults : List (List ℕ × ℕ)
id_faults =
    (0 ∷ 1 ∷ 0x61 ∷ [], 0)
    ∷ (4 ∷ 1 ∷ 0x61 ∷ [], 0)
    ∷ (3 ∷ 0 ∷ [], 1)
    ∷ (3 ∷ 65 ∷ 0x61 ∷ [], 1)
    ∷ (3 ∷ 1 ∷ 0x30 ∷ [], 2)
    ∷ (1 ∷ 3 ∷ 0x53 ∷ 0x75 ∷ 0x6D ∷ [], 5)
    ∷ (2 ∷ 3 ∷ 0x50 ∷ 0x6F ∷ 0x74 ∷ 1 ∷ 0x2F ∷ [], 6)
    ∷ (3 ∷ 2 ∷ 0x61 ∷ [], 2)
    ∷ []

-- nobody; task 0; request 1
abbrev pub reply_rows : List (List ℕ × Reply)
reply_rows =
    (0 ∷ [], to_nobody)
    ∷ (1 ∷ 0 ∷ 0 ∷ 0 ∷ 0 ∷ [], to_task 0)
    ∷ (2 ∷ 0 ∷ 0 ∷ 0 ∷ 1 ∷ [], to_request 1)
    ∷ []

-- no such kind; a task of three bytes; request 0
abbrev pub reply_faults : List (List ℕ × ℕ)
reply_faults =
    (3 ∷ [], 0)
    ∷ (1 ∷ 0 ∷ 0 ∷ 0 ∷ [], 1)
    ∷ (2 ∷ 0 ∷ 0 ∷ 0 ∷ 0 ∷ [], 1)
    ∷ []
