-- A node takes a partition over.
use Rattle.std.specs.Prelude.{◌≡◌, ◌⊎◌, ℕ, Bool, true, false, List, [], ◌++◌, Ok}
use Rattle.cell_frames.specs.Joined.{StoreView}
use Rattle.cell_frames.specs.Owns.{Opens, GivesUp}
use Rattle.cell_frames.specs.Settles.{IsOnTrail}
use Rattle.cell_frames.specs.declared.owning.Reopened.{Reopened}
use Rattle.cell_frames.specs.declared.owning.Reopened.TheVariants as reopenings
use Rattle.cell_steps.specs.declared.mode.Mode.{Mode}
use Rattle.commit_gate.specs.Ledgers.{log_length}
use Rattle.hub_store.specs.Trail.{of_part}
use Rattle.log_items.specs.declared.items.Packet.{Packet}
use Rattle.many_rules.specs.Ledgers.{ledgers}
use Rattle.many_rules.specs.Rules.{Rules}
use Rattle.spec_cell.specs.Views.{CellView}
use Rattle.spec_cell.specs.declared.moving.CellReset.TheVariants as resets
use Rattle.world_steps.specs.declared.taking_over.Taken.{Taken}
use Rattle.world_steps.specs.declared.taking_over.Taken.TheVariants as takings

-- The log was opened again, and its frame settled or dropped; then all was given up that wasn't settled, and the node is another.
pub record TakesOver (rules : Rules) (mode : Mode) (partition node : ℕ) (old new : StoreView) (reopened : Reopened) (c after : CellView) : Type 0 where
  pub between : StoreView
  pub mid : CellView
  pub last : CellView
  pub opens : Opens rules partition mode old between c (Ok reopened) mid
  pub gives_up : GivesUp partition (log_length (ledgers rules partition (of_part partition between.trail))) between new mid resets.Done last
  pub rest : new ≡ record between { floors = new.floors }
  pub owned : after ≡ record last { owner = node }

-- The log was opened again, but no number is left for another incarnation.
pub record CantTakeOver (rules : Rules) (mode : Mode) (partition : ℕ) (old new : StoreView) (reopened : Reopened) (number : ℕ) (c after : CellView) : Type 0 where
  pub between : StoreView
  pub mid : CellView
  pub opens : Opens rules partition mode old between c (Ok reopened) mid
  pub spent : GivesUp partition (log_length (ledgers rules partition (of_part partition between.trail))) between new mid (resets.Spent number) after
  pub rest : new ≡ record between { floors = new.floors }

-- the log was opened again, and the cell has a state
abbrev pub IsTaken : Taken → Type 0
IsTaken (takings.Done reopened) = Unit {0}
IsTaken (takings.Spent reopened number) = Unit {0}
IsTaken other = ⊥

abbrev pub TakenBy : Rules → Mode → (partition node : ℕ) → (old new : StoreView) → (c : CellView) → Taken → (after : CellView) → Type 0
TakenBy rules mode partition node old new c (takings.Done reopened) after = TakesOver rules mode partition node old new reopened c after
TakenBy rules mode partition node old new c (takings.Spent reopened number) after = CantTakeOver rules mode partition old new reopened number c after
TakenBy rules mode partition node old new c takings.SiteFault after = (new.trail ≡ old.trail) × (new.told ≡ old.told)
TakenBy rules mode partition node old new c takings.Memory after = (new.trail ≡ old.trail) ⊎ IsOnTrail partition old new c
