-- Each time that something is given up, the cells hold fewer entries.
use Rattle.std.proofs.Common.{◌≡◌, ◌<◌, ◌≤◌, ◌∙◌, inl, inr, ℕ, zero, suc, ◌+◌, ◌&&◌, true, false, List, [], ◌∷◌, length, take, Some, Bool, refl, sym, ap, subst, arith, slice_get, slice_set}
use Rattle.std.proofs.lemmas.Bool.{cases_Bool}
use Rattle.cell_steps.specs.declared.mode.Mode.{Mode}
use Rattle.dura_value.specs.Items.{Entry}
use Rattle.many_rules.specs.Rules.{Rules}
use Rattle.spec_cell.specs.Views.{CellView}
use Rattle.world_steps.specs.Cells.{CellBecomes}
use Rattle.world_core.specs.Happens.{HasJudged, Happens}
use Rattle.world_core.specs.Unmet.{is_unmet, place_ago}
use Rattle.world_core.specs.World.{WorldView}
use Rattle.world_core.specs.declared.answer.Answer.{Answer}
use Rattle.world_core.specs.declared.answer.Answer.TheVariants as answers
use Rattle.world_core.specs.declared.event.Event.TheVariants as events
use Rattle.world_judges.specs.Judging.{is_kept, is_judged, Pass}
use Rattle.world_judges.specs.Judging.Pass.{begins, goes_on}

-- how many entries cells hold
abbrev pub held : List CellView → ℕ
held [] = 0
held (c ∷ cells) = length c.entries + held cells

-- one cell became another: all hold as many fewer as it does
held_set : (cells : List CellView) (k : ℕ) (c after : CellView) → slice_get cells k ≡ Some c → held (slice_set cells k after) + length c.entries ≡ held cells + length after.entries
held_set [] k c after there = absurd (cc there)
held_set (first ∷ cells) zero c after there =
    let same : first ≡ c = cc there in
    let long : length first.entries ≡ length c.entries = ap (λ (v : CellView). length v.entries) same in
    let sums : (length after.entries + held cells) + length c.entries ≡ (length first.entries + held cells) + length after.entries = omega (arith, long) in
    sums
held_set (first ∷ cells) (suc k) c after there =
    let rest = held_set cells k c after there in
    let sums : (length first.entries + held (slice_set cells k after)) + length c.entries ≡ (length first.entries + held cells) + length after.entries = omega (arith, rest) in
    sums

held_then : (p : ℕ) (Does : CellView → CellView → Type 0) (old new : List CellView) → (b : CellBecomes p old new Does) → held new + length b.cell.entries ≡ held old + length b.after.entries
held_then p Does old new b = subst (λ (l : List CellView). held l + length b.cell.entries ≡ held old + length b.after.entries) (sym b.becomes) (held_set old p b.cell b.after b.there)

-- the cells hold no more entries than before, and fewer unless nothing was given up
pub record HoldsLess (kept : Bool) (old new : WorldView) : Type 0 where
  pub most : held new.cells ≤ held old.cells
  pub less : kept ≡ false → held new.cells < held old.cells

module _ (rules : Rules) (mode : Mode) (nodes : ℕ) where
  judged_less : (p place : ℕ) (old new : WorldView) (answer : Answer) → is_judged answer ≡ true → HasJudged rules p place old new answer → HoldsLess (is_kept answer) old new
  judged_less p place old new answers.Kept judged has =
      let b = has.1.2 in
      let same : length b.after.entries ≡ length b.cell.entries = ap (λ (v : CellView). length v.entries) b.does.0.becomes in
      let all = held_then p _ old.cells new.cells b in
      record { most = omega (arith, all, same); less = λ not. absurd (cc not) }
  judged_less p place old new (answers.Rewound floor dep) judged has =
      let b = has.2 in
      let is = b.does.0 in
      let left : length b.after.entries ≡ length (take is.kept b.cell.entries) = ap (λ (v : CellView). length v.entries) is.becomes in
      let fewer : length (take is.kept b.cell.entries) ≤ is.kept = short is.kept b.cell.entries in
      let inside = is.inside in
      let all = held_then p _ old.cells new.cells b in
      record { most = omega (arith, all, left, fewer, inside); less = λ not. omega (arith, all, left, fewer, inside) }
    where
      short : (n : ℕ) (entries : List Entry) → length (take n entries) ≤ n
      short zero entries = omega arith
      short (suc n) [] = omega arith
      short (suc n) (entry ∷ entries) = let rest = short n entries in omega (arith, rest)
  judged_less p place old new (answers.Spent number) judged has = absurd (cc judged)
  judged_less p place old new answers.Memory judged has = absurd (cc judged)
  judged_less p place old new other judged has = absurd has

  -- a cell that was judged could be
  pub can_judge : (p : ℕ) (old new : WorldView) (answer : Answer) → is_judged answer ≡ true → Happens rules mode nodes old (events.Judge p 0) answer new → is_unmet rules.count nodes old (events.Judge p 0) ≡ false
  can_judge p old new answer judged happens = elim (cases_Bool (is_unmet rules.count nodes old (events.Judge p 0))) [
    | inl unmet ↦ elim (happens.unmet unmet) [
      | inl none ↦ absurd (let same : is_judged answer ≡ is_judged answers.Unmet = ap is_judged none.0 in cc (same, judged))
      | inr ends ↦ absurd (cc ends.0)
    ]
    | inr met ↦ met
  ]

  -- and this came of it
  pub judged_met : (p : ℕ) (old new : WorldView) (answer : Answer) → is_judged answer ≡ true → Happens rules mode nodes old (events.Judge p 0) answer new → HasJudged rules p (place_ago old.marks 0) old new answer
  judged_met p old new answer judged happens = (happens.met (can_judge p old new answer judged happens)).1

  -- where all cells were judged they hold no more entries, and fewer unless nothing was given up
  pub pass_holds : (first : WorldView) {judged : ℕ} {kept : Bool} (new : WorldView) → Pass rules mode nodes first judged kept new → HoldsLess kept first new
  pass_holds first _ begins = record { most = omega arith; less = λ not. absurd (cc not) }
  pass_holds first _ (goes_on {judged} {kept} {old} before answer new is happens well) =
      let so_far = pass_holds first old before in
      let then = judged_less judged (place_ago old.marks 0) old new answer is (judged_met judged old new answer is happens) in
      let most = so_far.most in
      let most_then = then.most in
      record {
        most = omega (arith, most, most_then);
        less = λ not. elim (cases_Bool kept) [
          | inl all ↦ let less = then.less (sym (ap (λ (b : Bool). b && is_kept answer) all) ∙ not) in omega (arith, most, less)
          | inr some ↦ let less = so_far.less some in omega (arith, most_then, less)
        ];
      }

  pub pass_holds_less : (first : WorldView) {judged : ℕ} (new : WorldView) → Pass rules mode nodes first judged false new → held new.cells < held first.cells
  pass_holds_less first new pass = (pass_holds first new pass).less refl

  pub pass_holds_no_more : (first : WorldView) {judged : ℕ} {kept : Bool} (new : WorldView) → Pass rules mode nodes first judged kept new → held new.cells ≤ held first.cells
  pass_holds_no_more first new pass = (pass_holds first new pass).most
