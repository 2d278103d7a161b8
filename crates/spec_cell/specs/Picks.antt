-- A frame of the first entries.
use Rattle.std.specs.Prelude.{◌≡◌, ◌⊎◌, ℕ, ◌+◌, ◌<◌, ◌≤◌, List, [], length, take, map, Option, Some, None}
use Rattle.std.specs.List.{All, Contains}
use Rattle.std.specs.declared.alloc.Global.{Global}
use Rattle.std.specs.declared.vec.Vec.{Vec}
use Rattle.commit_gate.specs.declared.ledger.Sending.{Sending}
use Rattle.dura_model.specs.Partition.{Partition}
use Rattle.dura_value.specs.Dependencies.{Ready}
use Rattle.dura_value.specs.Items.{Identity, Entry}
use Rattle.flow_syntax.specs.Syntax.{Flows}
use Rattle.log_items.specs.Plain.{entries_of}
use Rattle.log_items.specs.declared.frames.Entry.{Entry as OwnEntry}
use Rattle.cell_steps.specs.Depends.{identity_in}
use Rattle.spec_cell.specs.Moves.{dependencies_in}
use Rattle.spec_cell.specs.Sends.{FrameSends}
use Rattle.spec_cell.specs.Views.{CellView, IsBase}
use Rattle.spec_tracker.specs.Marks.{floors_of, length_in}
use Rattle.spec_tracker.specs.declared.marks.Marks.{Marks}

abbrev pub identities : (number : ℕ) → List Entry → List Identity
identities number = map (identity_in number)

-- each is ready, or in the frame
abbrev pub AreReadyIn : Marks → (frame : List Identity) → List Identity → Type 0
AreReadyIn marks frame = All (λ e. Ready (length_in marks) (floors_of marks) e ⊎ Contains frame e)

-- of the first so many entries each one's dependencies are ready, or among them
abbrev pub MayGo : Marks → (base : Partition) → CellView → (n : ℕ) → Type 0
MayGo marks base c n = All (AreReadyIn marks (identities base.number (take n c.entries))) (take n (dependencies_in c base))

-- The first entries are out: as many as may go, up to 64; with what they send.
pub record HasPicked (flows : Flows) (count : ℕ) (begin : Partition) (marks : Marks) (old : CellView) (frame : List Entry) (sending : List Sending) (new : CellView) : Type 0 where
  pub base : Partition
  pub is_base : IsBase flows count begin old base
  pub rests : old.out ≡ 0
  pub some : 0 < length frame
  pub few : length frame ≤ 64
  pub first : frame ≡ take (length frame) old.entries
  pub go : MayGo marks base old (length frame)
  pub most : length frame < 64 → length frame < length old.entries → MayGo marks base old (length frame + 1) → ⊥
  pub sends : FrameSends flows count begin old (length frame) sending
  pub becomes : new ≡ record old { out = length frame }

-- A frame is out, nothing is unsettled, or the first entry has a dependency that isn't ready.
pub record CantPick (flows : Flows) (count : ℕ) (begin : Partition) (marks : Marks) (old new : CellView) : Type 0 where
  pub base : Partition
  pub is_base : IsBase flows count begin old base
  pub cause : (0 < old.out) ⊎ ((old.entries ≡ []) ⊎ (MayGo marks base old 1 → ⊥))
  pub same : new ≡ old

abbrev pub Picks : Flows → (count : ℕ) → (begin : Partition) → Marks → (old : CellView) → Option (List OwnEntry × Vec Sending Global) → (new : CellView) → Type 0
Picks flows count begin marks old None new = CantPick flows count begin marks old new
Picks flows count begin marks old (Some picked) new = HasPicked flows count begin marks old (entries_of picked.0) picked.1.items new
