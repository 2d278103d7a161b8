-- The world stands when a life begins.
use Rattle.std.proofs.Common.{Vec, Global, ◌≡◌, ◌≤◌, ◌<◌, ◌∙◌, ◌∷◌, ℕ, false, List, [], sym, ap, subst, arith, length, inl, inr}
use Rattle.std.specs.List.{Contains}
use Rattle.std.proofs.Math.Nat.{le_of_eq}
use Rattle.std.proofs.lemmas.List.Elements.{Contains-push_cases}
use Rattle.call_begins.specs.Begins.{AllBegun, IsUntouched, BeginsWith}
use Rattle.call_begins.proofs.Begins.{all_joined}
use Rattle.cell_frames.specs.Joined.{StoreView, view_of}
use Rattle.commit_gate.specs.Views.{floors_of}
use Rattle.commit_gate.specs.declared.ledger.Ledger.{Ledger}
use Rattle.gated_store.specs.declared.local.Gated as gated_types
use Rattle.gated_store.specs.declared.store.GatedStore.{GatedStore}
use Rattle.hub_store.specs.Changes.{stage_at, trail_in, told_in}
use Rattle.hub_store.specs.Trail.{Settled, of_part}
use Rattle.hub_store.specs.declared.start.Start as starts
use Rattle.log_items.specs.declared.items.Packet.{Packet}
use Rattle.many_rules.specs.Ledgers.{ledgers}
use Rattle.many_rules.specs.Rules.{Rules}
use Rattle.part_steps.specs.declared.state.PartState.{PartState}
use Rattle.site_model.specs.declared.site.Site as sites
use Rattle.spec_cell.specs.Views.{CellView}
use Rattle.spec_tracker.specs.declared.marks.Marks.{Marks}
use Rattle.world_core.specs.World.{AreHeard, Stands, world}
use Rattle.world_steps.specs.Known.{AreMarksOf}

same_untouched : {V L : Type 0} {G : sites.Ghosts V} {K : starts.Ghosts (gated_types.Gated L)} (count : ℕ) (old new : GatedStore V L G K) → new.logs ≡ old.logs → new.ledgers ≡ old.ledgers → IsUntouched count old → IsUntouched count new
same_untouched count old new logs same untouched = record {
  trail = ap trail_in logs ∙ untouched.trail;
  told = ap told_in logs ∙ untouched.told;
  rest = λ p below. ap (λ l. stage_at l p) logs ∙ untouched.rest p below;
  floors = λ p. ap (λ (l : Vec Ledger Global). floors_of l.items p) same ∙ untouched.floors p;
  going = ap (λ l. l.halted) logs ∙ untouched.going;
  whole = ap (λ l. l.cut) logs ∙ untouched.whole;
}

-- of what is known of the logs first no more is told than was read
first_heard : (rules : Rules) (s : StoreView) (first : Marks) → AreMarksOf rules s first → AreHeard rules s (first ∷ [])
first_heard rules s first known marks read inside there = elim (Contains-push_cases [] first marks inside) [
  | inl none ↦ absurd (let e : none.0 < 0 = none.1 in omega arith)
  | inr same ↦ le_of_eq (known.reads read (subst (λ (m : Marks). Contains m.reads.items read) (sym same) there))
]

pub stands_first : {V L : Type 0} {G : sites.Ghosts V} {K : starts.Ghosts (gated_types.Gated L)} (rules : Rules) (old new : GatedStore V L G K) (states : List PartState) (incarnations : List ℕ) (cells : List CellView) (packets : List Packet) (first : Marks) (marks : List Marks)
    → BeginsWith rules states incarnations → rules.since ≡ 0 → 64 ≤ rules.most → old.logs.latest ≡ 0 → IsUntouched rules.count old → new.logs ≡ old.logs → new.ledgers ≡ old.ledgers → length cells ≡ rules.count → AllBegun incarnations 0 cells → AreMarksOf rules (view_of old) first → marks ≡ first ∷ []
    → Stands rules (world new cells packets marks false)
stands_first rules old new states incarnations cells packets first marks begins since most latest untouched logs same many begun known marks_are =
    let now = same_untouched rules.count old new logs same untouched in
    let heard : AreHeard rules (view_of old) marks = subst (AreHeard rules (view_of old)) (sym marks_are) (first_heard rules (view_of old) first known) in
    record {
      some = begins.some;
      few = begins.few;
      most = most;
      many = many;
      going = λ on. now.going;
      whole = λ on. now.whole;
      joined = λ on. all_joined rules new incarnations cells now many begins.from (ap (λ l. l.latest) logs ∙ latest ∙ sym since) (subst (λ (n : ℕ). AllBegun incarnations n cells) (sym since) begun);
      heard = λ one read inside there.
          subst (λ (t : List Settled). read.next ≤ (ledgers rules read.reader (of_part read.reader t)).nexts read.source) (sym (ap trail_in logs)) (heard one read inside there);
    }
