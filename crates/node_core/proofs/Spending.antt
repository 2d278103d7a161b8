-- A cell came to a number past the last that there is.
use Rattle.std.proofs.Common.{◌≡◌, ◌<◌, ◌+◌, ◌∙◌, inl, inr, ℕ, List, length, Some, sym, ap, subst, arith, slice_get, slice_set}
use Rattle.std.proofs.lemmas.List.{length-set, get_or-set_same}
use Rattle.std.proofs.lemmas.Option.{slice_get_within, slice_get-get_or}
use Rattle.cell_frames.specs.Joined.{StoreView}
use Rattle.cell_frames.specs.Judges.{Judges}
use Rattle.cell_frames.specs.declared.owning.Reopened.{Reopened}
use Rattle.cell_steps.specs.declared.mode.Mode.{Mode}
use Rattle.gated_store.specs.declared.local.Gated as gated_types
use Rattle.gated_store.specs.declared.store.GatedStore.{GatedStore}
use Rattle.hub_store.specs.Origin.{Origin}
use Rattle.hub_store.specs.declared.start.Start as starts
use Rattle.many_rules.specs.Rules.{Rules}
use Rattle.node_core.specs.Halts.{ComesTo, IsInner, IsPast, IsSpent}
use Rattle.node_core.specs.Running.{IsRunning}
use Rattle.node_core.specs.Stepping.{TurnsPart}
use Rattle.node_core.specs.declared.halt.Halt.{Halt}
use Rattle.node_core.specs.declared.halt.Halt.TheVariants as halts
use Rattle.node_core.specs.declared.stepping.Stepped.TheVariants as steps
use Rattle.site_model.specs.declared.site.Site as sites
use Rattle.spec_cell.specs.Views.{CellView}
use Rattle.spec_cell.specs.declared.moving.CellRewind.TheVariants as rewinds
use Rattle.spec_tracker.specs.declared.marks.Marks.{Marks}
use Rattle.world_steps.specs.Cells.{AllJoined, CellBecomes}
use Rattle.world_steps.specs.TakesOver.{TakenBy}
use Rattle.world_steps.specs.declared.taking_over.Taken.TheVariants as takings

there_now : {X : Type 0} (xs : List X) (i : ℕ) (was x : X) → slice_get xs i ≡ Some was → slice_get (slice_set xs i x) i ≡ Some x
there_now {X} xs i was x has =
    let low : i < length xs = slice_get_within xs i was has in
    slice_get-get_or (slice_set xs i x) i x (omega (arith, low, length-set xs i x)) ∙ ap (λ (y : X). Some y) (get_or-set_same xs i x x low)

became : (p : ℕ) (cells later : List CellView) (Does : CellView → CellView → Type 0) (b : CellBecomes p cells later Does) → slice_get later p ≡ Some b.after
became p cells later Does b = subst (λ (l : List CellView). slice_get l p ≡ Some b.after) (sym b.becomes) (there_now cells p b.cell b.after b.there)

-- in a turn
pub turned_spent : (rules : Rules) (mode : Mode) (limit p : ℕ) (old new : List CellView) (number : ℕ) → TurnsPart rules mode limit p old new (steps.Spent number) → (s : StoreView) → AllJoined rules s new → IsSpent rules s new p number
turned_spent rules mode limit p old new number b s joined =
    let spent = b.does.1 in
    let there = became p old new _ b in
    let comes : ComesTo rules b.cell number = elim spent.number_is [
      | inl at ↦ inl (spent.is_begun.ahead, spent.is_begun.is_ahead, at)
      | inr own ↦ inr (inl own)
    ] in
    record { cell = b.after; there = there; joined = (joined p b.after there).1; comes = subst (λ (v : CellView). ComesTo rules v number) (sym spent.becomes) comes; past = spent.past }

-- where what was made of lost entries would be given up
pub judged_spent : (rules : Rules) (p : ℕ) (marks : Marks) (old s : StoreView) (cells later : List CellView) (number : ℕ) → CellBecomes p cells later (λ c after. Judges rules p marks old s c (rewinds.Spent number) after) → AllJoined rules s later → IsSpent rules s later p number
judged_spent rules p marks old s cells later number b joined =
    let past = b.does.0 in
    let there = became p cells later _ b in
    let next : number ≡ b.after.incarnation + 1 = let is = past.1 in let same = ap (λ (v : CellView). v.incarnation) past.0 in omega (arith, is, same) in
    record { cell = b.after; there = there; joined = (joined p b.after there).1; comes = inr (inr next); past = past.2 }

-- where a node takes the partition over
pub taken_spent : (rules : Rules) (mode : Mode) (p node : ℕ) (old s : StoreView) (cells later : List CellView) (reopened : Reopened) (number : ℕ) → CellBecomes p cells later (λ c after. TakenBy rules mode p node old s c (takings.Spent reopened number) after) → AllJoined rules s later → IsSpent rules s later p number
taken_spent rules mode p node old s cells later reopened number b joined =
    let past = b.does.spent.0 in
    let there = became p cells later _ b in
    let next : number ≡ b.after.incarnation + 1 = let is = past.1 in let same = ap (λ (v : CellView). v.incarnation) past.0 in omega (arith, is, same) in
    record { cell = b.after; there = there; joined = (joined p b.after there).1; comes = inr (inr next); past = past.2 }

-- ---- what is done with cells alone

pub inner_then : (rules : Rules) (old mid new : List CellView) (halt : Halt) → ((s : StoreView) → AllJoined rules s old → AllJoined rules s mid) → IsInner rules mid new halt → IsInner rules old new halt
inner_then rules old mid new halts.SiteFault joined inner = absurd inner
inner_then rules old mid new halts.SayFault joined inner = absurd inner
inner_then rules old mid new (halts.Full partition length) joined inner = absurd inner
inner_then rules old mid new (halts.Spent partition number) joined inner = λ s all. inner s (joined s all)
inner_then rules old mid new halts.ClockFault joined inner = absurd inner
inner_then rules old mid new halts.Memory joined inner = tt

pub inner_past : {V L : Type 0} {G : sites.Ghosts V} {K : starts.Ghosts (gated_types.Gated L)} (o : Origin) (rules : Rules) (store : GatedStore V L G K) (old new : List CellView) (halt : Halt) → IsRunning o rules store old → IsInner rules old new halt → IsPast rules store new halt
inner_past o rules store old new halts.SiteFault r inner = absurd inner
inner_past o rules store old new halts.SayFault r inner = absurd inner
inner_past o rules store old new (halts.Full partition length) r inner = absurd inner
inner_past o rules store old new (halts.Spent partition number) r inner = inner _ r.joined
inner_past o rules store old new halts.ClockFault r inner = absurd inner
inner_past o rules store old new halts.Memory r inner = tt
