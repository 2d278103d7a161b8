-- Frames whose files one device call makes safe.
use Rattle.std.specs.Prelude.{◌≡◌, ℕ, Bool, true, false, List, [], ◌∷◌, length}
use Rattle.site_model.specs.History.{Change, synced}
use Rattle.commit_log.specs.declared.header.Header.{Header}
use Rattle.hub_store.specs.Short.{reach_of}
use Rattle.hub_store.specs.Ways.{stage_of, going_in, due_in, way_of, WayFits}
use Rattle.hub_store.specs.declared.way.Way.{Way}
use Rattle.hub_store.specs.declared.way.Way.TheVariants.{Bodied, Gated}
use Rattle.hub_store.specs.declared.way.Stage.{Stage}
use Rattle.hub_store.specs.declared.way.Stage.TheVariants as stages

-- a frame was written, or its gate was, and that is to be made safe
abbrev pub waits : Stage → Bool
waits stages.Bodied = true
waits stages.Gated = true
waits other = false

-- the files of those that wait, in the order of the partitions
abbrev pub waiting : List Way → List ℕ
waiting [] = []
waiting (Bodied log frame ∷ ways) = log.file ∷ waiting ways
waiting (Gated log frame ∷ ways) = log.file ∷ waiting ways
waiting (other ∷ ways) = waiting ways

-- what a frame comes to where all were made safe, and where that failed
abbrev pub stage_behind : (safe : Bool) → Stage → Stage
stage_behind true stages.Bodied = stages.Synced
stage_behind true stages.Gated = stages.Safe
stage_behind false stages.Bodied = stages.BrokenBody
stage_behind false stages.Gated = stages.BrokenGate
stage_behind safe other = other

-- Where all were made safe, the file of one that waits was synced; where that failed, it was or it wasn't.
abbrev pub FitsBehind : (safe : Bool) → (file : ℕ) → Header → List (List ℕ) → List Change → Way → Type 0
FitsBehind true file h payloads changes way = WayFits file h payloads (synced ∷ changes) way
FitsBehind false file h payloads changes way = WayFits file h payloads changes way × WayFits file h payloads (synced ∷ changes) way

-- A frame went on by such a call, or it didn't wait and stays.
pub record IsBehind (safe : Bool) (old new : Way) : Type 0 where
  pub stage : stage_of new ≡ stage_behind safe (stage_of old)
  pub going : going_in new ≡ going_in old
  pub due : due_in new ≡ due_in old
  pub reach : reach_of new ≡ reach_of old
  pub stays : waits (stage_of old) ≡ false → new ≡ old
  pub fits : waits (stage_of old) ≡ true → (file : ℕ) (h : Header) (payloads : List (List ℕ)) (changes : List Change) → WayFits file h payloads changes old → FitsBehind safe file h payloads changes new

-- so did the frames of all partitions
pub record AreBehind (safe : Bool) (old new : List Way) : Type 0 where
  pub count : length new ≡ length old
  pub each : (partition : ℕ) → IsBehind safe (way_of old partition) (way_of new partition)
