-- Small histories, what files keep, and lives in which little happened.
use Rattle.std.specs.Prelude.{◌≡◌, ◌⊎◌, ◌==◌, ℕ, List, [], ◌∷◌, ◌++◌, take, slice_set, if◌then◌else◌}
use Rattle.dura_value.specs.Items.{Entry, Identity, trim}
use Rattle.flow_syntax.specs.Syntax.{Flows}
use Rattle.join_laws.specs.Joined.{Life, WentOn}
use Rattle.many_logs.specs.Placing.{Commit}
use Rattle.open_logs.specs.Moments.{OpensOnly}
use Rattle.part_items.specs.Examples.{empty_log}
use Rattle.site_model.specs.History.{Step, on, said, wrote}

-- ---- histories

-- a byte was written, and wasn't made safe
abbrev pub byte_written : List Step
byte_written = on 0 (wrote 0 1 (7 ∷ [])) ∷ []

-- a byte was open to a crash, and none was written
abbrev pub byte_open : List Step
byte_open = on 0 (wrote 0 1 []) ∷ []

-- a byte was written, and none was open to a crash
abbrev pub byte_beyond : List Step
byte_beyond = on 0 (wrote 0 0 (7 ∷ [])) ∷ []

-- ---- what files keep

-- the first entry of a partition, which does nothing
abbrev pub first_of : (partition : ℕ) → Commit
first_of partition = record { partition = partition; entry = record { position = 0; incarnation = 0; items = [] } }

-- the entry that never was: partition 0 has none
abbrev pub never_was : Identity
never_was = record { partition = 0; incarnation = 0; position = 0 }

-- of two partitions the second lets go of nothing, as read by that entry
abbrev pub letting : Entry
letting = record { position = 0; incarnation = 0; items = trim never_was 0 ∷ [] }

abbrev pub letting_go : Commit
letting_go = record { partition = 1; entry = letting }

-- the frame of it
abbrev pub letting_frame : List ℕ
letting_frame =
    0 ∷ 0 ∷ 0 ∷ 49
    ∷ 0 ∷ 1 ∷ 0 ∷ 0 ∷ 0 ∷ 0 ∷ 0 ∷ 0 ∷ 0 ∷ 0 ∷ 0 ∷ 0 ∷ 0 ∷ 0 ∷ 0 ∷ 0 ∷ 0 ∷ 0 ∷ 0 ∷ 1
    ∷ 0x25 ∷ 0 ∷ 0 ∷ 0 ∷ 0 ∷ 0 ∷ 0 ∷ 0 ∷ 0 ∷ 0 ∷ 0 ∷ 0 ∷ 0 ∷ 0 ∷ 0 ∷ 0 ∷ 0 ∷ 0 ∷ 0 ∷ 0 ∷ 0 ∷ 0 ∷ 0 ∷ 0 ∷ 0 ∷ 0 ∷ 0 ∷ 0 ∷ 0 ∷ []

-- the log of the second of two partitions, with that frame
abbrev pub letting_log : List ℕ
letting_log = take 33 (slice_set (slice_set empty_log 12 1) 16 2) ++ 0xC3 ∷ letting_frame ++ 0 ∷ []

-- the only file with bytes
abbrev pub letting_files : ℕ → List ℕ
letting_files file = if file == 20 then letting_log else []

-- ---- lives

-- nothing happened
abbrev pub quiet : (moment : ℕ) → Life
quiet moment = record { old = []; new = []; trail = []; moment = moment }

-- it began where a byte had been said
abbrev pub behind_byte : (moment : ℕ) → Life
behind_byte moment = record { old = said 66 ∷ []; new = said 66 ∷ []; trail = []; moment = moment }

-- an entry was settled at moment 1
abbrev pub settles_first : (moment : ℕ) → Life
settles_first moment = record { old = []; new = said 66 ∷ []; trail = record { partition = 0; entry = (first_of 0).entry; at = 1 } ∷ []; moment = moment }

-- an entry was settled, and nothing happened
abbrev pub never_lived : Life
never_lived = record { old = []; new = []; trail = record { partition = 0; entry = (first_of 0).entry; at = 0 } ∷ []; moment = 0 }

-- a call went on, or logs were opened and nothing was settled
abbrev pub WasOrOpened : Flows → (count digest : ℕ) → Life → Type 0
WasOrOpened flows count digest life = WentOn flows count digest life.old life.new life.trail ⊎ (OpensOnly flows count digest life.old life.new × (life.trail ≡ []))
