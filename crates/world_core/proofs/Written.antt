-- A frame that would make its log too long.
use Rattle.std.proofs.Common.{◌≡◌, ℕ, Bool, List, Result, Ok, Err, sym, ◌∙◌, subst}
use Rattle.cell_frames.specs.Joined.{StoreView}
use Rattle.cell_frames.specs.Writes.{Writes, IsFull}
use Rattle.dura_value.proofs.Basics.{some_same}
use Rattle.hub_store.specs.declared.refusal.BodyRefusal.{BodyRefusal}
use Rattle.hub_store.specs.declared.refusal.BodyRefusal.TheVariants as refusals
use Rattle.hub_store.specs.declared.way.Way.{Way}
use Rattle.many_rules.specs.Rules.{Rules}
use Rattle.spec_cell.specs.Views.{CellView}
use Rattle.spec_tracker.specs.declared.marks.Marks.{Marks}
use Rattle.world_steps.specs.Cells.{CellBecomes}

module _ (rules : Rules) (p : ℕ) (marks : Marks) (old new : StoreView) (cells later : List CellView) (segment : ℕ) (way : Way) where
  -- the same cell would make it so long
  pub full_written : (r : Result Bool BodyRefusal) (at length : ℕ) → r ≡ Err (refusals.Full at length) → CellBecomes p cells later (λ c after. Writes rules p marks old new c after r) → CellBecomes p cells later (λ c after. IsFull rules p marks c segment way length)
      → CellBecomes p cells later (λ c after. Writes rules p marks old new c after (Err (refusals.Full p length)) × IsFull rules p marks c segment way length)
  full_written r at length is writes full =
      let same : full.cell ≡ writes.cell = some_same (sym full.there ∙ writes.there) in
      let written : Writes rules p marks old new writes.cell writes.after (Err (refusals.Full at length)) = subst (Writes rules p marks old new writes.cell writes.after) is writes.does in
      record {
        cell = writes.cell;
        after = writes.after;
        there = writes.there;
        becomes = writes.becomes;
        does = (subst (λ (n : ℕ). Writes rules p marks old new writes.cell writes.after (Err (refusals.Full n length))) written.0 written, subst (λ (v : CellView). IsFull rules p marks v segment way length) same full.does);
      }

pub full_is_no_fault : (r : Result Bool BodyRefusal) (at length : ℕ) → r ≡ Err (refusals.Full at length) → r ≡ Err refusals.SiteFault → ⊥
full_is_no_fault r at length is fault = cc (sym is ∙ fault)

-- a call said this
pub written : (rules : Rules) (p : ℕ) (marks : Marks) (old new : StoreView) (cells later : List CellView) (r : Result Bool BodyRefusal) (b : Bool) → r ≡ Ok b → CellBecomes p cells later (λ c after. Writes rules p marks old new c after r) → CellBecomes p cells later (λ c after. Writes rules p marks old new c after (Ok b))
written rules p marks old new cells later r b is writes = record { cell = writes.cell; after = writes.after; there = writes.there; becomes = writes.becomes; does = subst (Writes rules p marks old new writes.cell writes.after) is writes.does }
