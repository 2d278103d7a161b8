-- How long a log is that a call wrote.
use Rattle.std.specs.Prelude.{◌≡◌, ◌≢◌, ◌⊎◌, ◌<◌, ◌+◌, ℕ, max, List, []}
use Rattle.commit_log.specs.declared.header.Header.{Header}
use Rattle.commit_log.specs.Segment.{segment, reading_of}
use Rattle.dura_value.specs.Items.{Entry}
use Rattle.hub_store.specs.Ways.{stage_of}
use Rattle.hub_store.specs.declared.way.Way.{Way}
use Rattle.hub_store.specs.declared.way.Way.TheVariants.{Resting, Bodied, Synced, Gated, Safe, BrokenBody, BrokenGate, Away}
use Rattle.hub_store.specs.declared.way.Stage.TheVariants as stages

-- how long the log may be up to a closed gate and with it, whatever becomes of the frame that is under way
abbrev pub reach_of : Way → ℕ
reach_of (Resting log) = log.gate + 1
reach_of (Bodied log frame) = max log.gate log.next + 1
reach_of (Synced log frame) = max log.gate log.next + 1
reach_of (Gated log frame) = max log.gate log.next + 1
reach_of (Safe log frame) = max log.gate log.next + 1
reach_of (BrokenBody log frame) = max log.gate log.next + 1
reach_of (BrokenGate log frame) = max log.gate log.next + 1
reach_of Away = 0

-- nothing is under way and nothing was settled, or the log stays below the segment's length
abbrev pub KeepsShort : (segment_length : ℕ) → (settled : List Entry) → Way → Type 0
KeepsShort segment_length settled way = ((stage_of way ≡ stages.Resting) × (settled ≡ [])) ⊎ (reach_of way < segment_length)

-- where something was settled, the file reads as a log that ends below the segment's length
abbrev pub IsShort : (segment_length : ℕ) → (settled : List Entry) → (content : List ℕ) → Type 0
IsShort segment_length settled content = (h : Header) (payloads : List (List ℕ)) (gate : ℕ) → reading_of content ≡ segment h payloads gate → settled ≢ [] → gate + 1 < segment_length
