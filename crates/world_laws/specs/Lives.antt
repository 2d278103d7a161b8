-- Lives, from their first worlds on.
use Rattle.std.specs.Prelude.{◌≡◌, ℕ, false, List, [], ◌∷◌, ◌++◌, Some}
use Rattle.std.specs.List.{Contains, slice_get}
use Rattle.cell_steps.specs.declared.mode.Mode.{Mode}
use Rattle.many_rules.specs.Rules.{Rules}
use Rattle.spec_cell.specs.Views.{CellView}
use Rattle.spec_tracker.specs.declared.marks.Marks.{Marks}
use Rattle.world_core.specs.Happens.{Happens}
use Rattle.world_core.specs.World.{WorldView, Stands}
use Rattle.world_steps.specs.Known.{AreMarksOf}
use Rattle.world_core.specs.declared.answer.Answer.{Answer}
use Rattle.world_core.specs.declared.event.Event.{Event}
use Rattle.world_laws.specs.Made.{MarksHold, IsGrounded}

-- A life begins: its cells have no entries, and nothing waits; no packet was sent; and what is known of the logs is true.
pub record IsNewLife (rules : Rules) (w : WorldView) : Type 0 where
  pub settled : (partition : ℕ) (c : CellView) → slice_get w.cells partition ≡ Some c → c.slot.mine ≡ []
  pub held : (partition : ℕ) (c : CellView) → slice_get w.cells partition ≡ Some c → c.entries ≡ []
  pub waits : (partition : ℕ) (c : CellView) → slice_get w.cells partition ≡ Some c → c.waits ≡ []
  pub packets : w.packets ≡ []
  pub marks : (marks : Marks) → Contains w.marks marks → MarksHold rules w.store marks

-- what is known of the logs last is as they are
abbrev pub IsCurrent : Rules → WorldView → Type 0
IsCurrent rules w = (before : List Marks) × (marks : Marks) × (w.marks ≡ before ++ marks ∷ []) × AreMarksOf rules w.store marks

-- a world stands, and while it goes on what stands under it is known
pub record IsWell (rules : Rules) (w : WorldView) : Type 0 where
  pub stands : Stands rules w
  pub ground : w.ended ≡ false → IsGrounded rules w

-- Each event happened to the world that the one before it left, and left another; this is what came of each.
pub data GoesOn (rules : Rules) (mode : Mode) (nodes : ℕ) (first : WorldView) : List Answer → WorldView → Type 0 where
  nothing : GoesOn rules mode nodes first [] first
  one_more : {came : List Answer} {old : WorldView} → GoesOn rules mode nodes first came old → (event : Event) (answer : Answer) (new : WorldView) → Happens rules mode nodes old event answer new → IsWell rules new
      → GoesOn rules mode nodes first (came ++ answer ∷ []) new
