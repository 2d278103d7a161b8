-- How far the frame of each partition has come.
use Rattle.std.specs.Prelude.{◌≡◌, ℕ, Bool, true, false, List, [], ◌∷◌, ◌++◌, length, Option, Some, None, Ok, slice_index_or}
use Rattle.site_model.specs.History.{Change, wrote, synced, reads}
use Rattle.commit_log.specs.declared.header.Header.{Header}
use Rattle.commit_log.specs.Segment.{first_gate, segment, reading_of}
use Rattle.commit_log.specs.States.{IsResting, IsBodied, IsSynced, IsGated, IsBrokenBody, IsBrokenGate}
use Rattle.dura_value.specs.Items.{Entry}
use Rattle.log_items.specs.Plain.{entries_of}
use Rattle.part_items.specs.Spelling.{spell_frame}
use Rattle.part_items.specs.Kept.{first_of, decoded}
use Rattle.hub_store.specs.declared.way.Way.{Way}
use Rattle.hub_store.specs.declared.way.Way.TheVariants.{Resting, Bodied, Synced, Gated, Safe, BrokenBody, BrokenGate, Away}
use Rattle.hub_store.specs.declared.way.Stage.{Stage}
use Rattle.hub_store.specs.declared.way.Stage.TheVariants as stages
use Rattle.hub_store.specs.Origin.{Log}

-- the call that the frame has come to
abbrev pub stage_of : Way → Stage
stage_of (Resting log) = stages.Resting
stage_of (Bodied log frame) = stages.Bodied
stage_of (Synced log frame) = stages.Synced
stage_of (Gated log frame) = stages.Gated
stage_of (Safe log frame) = stages.Safe
stage_of (BrokenBody log frame) = stages.BrokenBody
stage_of (BrokenGate log frame) = stages.BrokenGate
stage_of Away = stages.BrokenBody

-- a frame is under way whose gate was tried
abbrev pub is_tried : Stage → Bool
is_tried stages.Resting = false
is_tried stages.Bodied = false
is_tried stages.Synced = false
is_tried stages.Gated = true
is_tried stages.Safe = true
is_tried stages.BrokenBody = false
is_tried stages.BrokenGate = true

-- one is under way whose gate was written open, and no call on it failed
abbrev pub is_open : Stage → Bool
is_open stages.Gated = true
is_open stages.Safe = true
is_open other = false

-- one is under way whose gate was not
abbrev pub is_untried : Stage → Bool
is_untried stages.Resting = false
is_untried stages.Bodied = true
is_untried stages.Synced = true
is_untried stages.Gated = false
is_untried stages.Safe = false
is_untried stages.BrokenBody = true
is_untried stages.BrokenGate = false

-- the entries of the frame that is under way
abbrev pub going_in : Way → Option (List Entry)
going_in (Resting log) = None
going_in (Bodied log frame) = Some (entries_of frame)
going_in (Synced log frame) = Some (entries_of frame)
going_in (Gated log frame) = Some (entries_of frame)
going_in (Safe log frame) = Some (entries_of frame)
going_in (BrokenBody log frame) = Some (entries_of frame)
going_in (BrokenGate log frame) = Some (entries_of frame)
going_in Away = None

-- how many they are
abbrev pub due_in : Way → ℕ
due_in (Resting log) = 0
due_in (Bodied log frame) = length frame
due_in (Synced log frame) = length frame
due_in (Gated log frame) = length frame
due_in (Safe log frame) = length frame
due_in (BrokenBody log frame) = length frame
due_in (BrokenGate log frame) = length frame
due_in Away = 0

-- where the gate stands up to which the file holds what is settled
abbrev pub gate_of : Way → ℕ
gate_of (Resting log) = log.gate
gate_of (Bodied log frame) = log.gate
gate_of (Synced log frame) = log.gate
gate_of (Gated log frame) = log.gate
gate_of (Safe log frame) = log.gate
gate_of (BrokenBody log frame) = log.gate
gate_of (BrokenGate log frame) = log.gate
gate_of Away = 0

-- how far the frame of a partition has come
abbrev pub way_of : List Way → ℕ → Way
way_of ways partition = slice_index_or ways partition Away

-- the last change of the file was a write of the byte at this gate, up to which it read as these payloads
abbrev pub JustWrote : Header → List (List ℕ) → ℕ → List Change → Type 0
JustWrote h payloads gate changes = (bytes : List ℕ) × (before : List Change) × (changes ≡ wrote gate 1 bytes ∷ before) × (reading_of (reads before) ≡ segment h payloads gate)

-- The gate before a frame was just written, and synced since: it may read open still and no more, and the log rests behind the frame.
pub record IsSafe (changes : List Change) (h : Header) (payloads : List (List ℕ)) (payload : List ℕ) (gate next : ℕ) : Type 0 where
  pub opened : IsGated changes h payloads payload gate next
  pub rests : IsResting changes h (payloads ++ payload ∷ []) next
  pub before : List Change
  pub was : changes ≡ synced ∷ before
  pub wrote : JustWrote h payloads gate before

-- how the file stands, where these payloads are settled in it
abbrev pub WayFits : (file : ℕ) → Header → List (List ℕ) → List Change → Way → Type 0
WayFits file h payloads changes (Resting log) = (log.file ≡ file) × IsResting changes h payloads log.gate
WayFits file h payloads changes (Bodied log frame) = (log.file ≡ file) × IsBodied changes h payloads (spell_frame (entries_of frame)) log.gate log.next
WayFits file h payloads changes (Synced log frame) = (log.file ≡ file) × IsSynced changes h payloads (spell_frame (entries_of frame)) log.gate log.next
WayFits file h payloads changes (Gated log frame) = (log.file ≡ file) × IsGated changes h payloads (spell_frame (entries_of frame)) log.gate log.next × JustWrote h payloads log.gate changes
WayFits file h payloads changes (Safe log frame) = (log.file ≡ file) × IsSafe changes h payloads (spell_frame (entries_of frame)) log.gate log.next
WayFits file h payloads changes (BrokenBody log frame) = (log.file ≡ file) × IsBrokenBody changes h payloads log.gate
WayFits file h payloads changes (BrokenGate log frame) = (log.file ≡ file) × IsBrokenGate changes h payloads (spell_frame (entries_of frame)) log.gate log.next
WayFits file h payloads changes Away = ⊥

-- with the frame that is under way these payloads keep its entries too
abbrev pub WayGoesOn : Header → List (List ℕ) → List Entry → Option (List Entry) → Type 0
WayGoesOn h payloads entries None = Unit {0}
WayGoesOn h payloads entries (Some going) = decoded first_gate (first_of h) (payloads ++ spell_frame going ∷ []) ≡ Ok (entries ++ going)

-- a log, where these entries are settled in this call: its payloads keep what it had and these
pub record LogFits (log : Log) (entries : List Entry) (changes : List Change) (way : Way) : Type 0 where
  pub payloads : List (List ℕ)
  pub kept : decoded first_gate (first_of log.header) payloads ≡ Ok (log.entries ++ entries)
  pub next : WayGoesOn log.header payloads (log.entries ++ entries) (going_in way)
  pub fits : WayFits log.file log.header payloads changes way
