use Rattle.std.proofs.Common.{◌≡◌, ◌≢◌, ◌<◌, ◌≤◌, ◌∙◌, inl, inr, ℕ, List, [], ◌∷◌, Some, length, slice_get, refl, sym, ap, subst, arith}
use Rattle.std.proofs.lemmas.Bool.{cases_eq}
use Rattle.std.proofs.lemmas.Option.{slice_get_within}
use Rattle.dura_value.specs.Items.{Entry}
use Rattle.spec_cell.specs.Views.{CellView}
use Rattle.world_steps.proofs.Cells.{there_at}
use Rattle.engine_rounds.proofs.pumping.holds_some.Goals as goal

none_of : (entries : List Entry) → length entries ≤ 0 → entries ≡ []
none_of [] none = refl
none_of (e ∷ entries) none = absurd (omega (arith, none))

pub parts-preserved : goal.parts-preserved
parts-preserved g c = λ p one is low. elim (cases_eq p c.parts.part) [
  | inl same ↦
      let here : slice_get c.args.cells.now c.parts.part ≡ Some one = subst (λ (k : ℕ). slice_get c.args.cells.now k ≡ Some one) same is in
      let there = there_at c.args.cells.now c.parts.part c.index-cells-part.result (let test = c.parts-test.true in omega (arith, test)) c.index-cells-part.is in
      let this : Some c.index-cells-part.result ≡ Some one = sym there ∙ here in
      let cell : c.index-cells-part.result ≡ one = cc this in
      let none = c.if-held-gt0.false in
      let held = c.held.ensures in
      subst (λ (v : CellView). v.entries ≡ []) cell (none_of c.index-cells-part.result.entries (omega (arith, none, held)))
  | inr apart ↦ c.parts.invariant p one is (omega (arith, low, apart))
]

pub returns : goal.returns
returns g c = λ none p one is.
    let low : p < length c.args.cells.now = slice_get_within c.args.cells.now p one is in
    let test = c.parts-test.false in
    c.parts.invariant p one is (omega (arith, low, test))
