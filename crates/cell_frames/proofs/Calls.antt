-- Calls of the store on the frame of a partition, by what joins cells to it.
use Rattle.std.proofs.Common.{◌≡◌, ◌≢◌, inl, inr, ◌<◌, ◌≤◌, ℕ, List, ◌++◌, take, Some, None, Result, Ok, Err, refl, sym, ap, subst, ◌∙◌, arith}
use Rattle.std.specs.Prelude.{OnOk, IfOk}
use Rattle.std.proofs.lemmas.List.{length-take}
use Rattle.cell_frames.proofs.Cells.{base_long}
use Rattle.cell_frames.proofs.Stays.{StaysFor, goes_still, joined_still, same_reads, others_then, more_read}
use Rattle.cell_frames.specs.Begun.{HasBegun}
use Rattle.cell_frames.specs.Joined.{StoreView, GoesOnFrom, Joined, IsOut, view_of}
use Rattle.cell_frames.specs.Unlost.{floor_of}
use Rattle.cell_frames.specs.Writes.{KeepsOthers}
use Rattle.commit_gate.specs.Ledgers.{log_length}
use Rattle.commit_gate.specs.Views.{floors_of}
use Rattle.dura_model.specs.Entries.{placed}
use Rattle.dura_model.specs.Partition.{Partition}
use Rattle.dura_value.specs.Items.{Entry, Floor}
use Rattle.gated_store.specs.Keeps.{KeepsGate}
use Rattle.gated_store.specs.Kept.{IsKept, IsMade, count_under_way}
use Rattle.gated_store.specs.declared.local.Gated as gated_types
use Rattle.gated_store.specs.declared.store.GatedStore.{GatedStore}
use Rattle.hub_store.specs.Changes.{stage_at, going_at, trail_in, told_in}
use Rattle.hub_store.specs.Origin.{Origin}
use Rattle.hub_store.specs.Trail.{of_part, settling}
use Rattle.hub_store.specs.Ways.{stage_of, going_in}
use Rattle.hub_store.specs.declared.start.Start as starts
use Rattle.hub_store.specs.declared.way.Stage.TheVariants as stages
use Rattle.hub_store.specs.declared.way.Way.{Way}
use Rattle.hub_store.specs.declared.way.Way.TheVariants.{Resting, Bodied, Synced, Gated, Safe, BrokenBody, BrokenGate, Away}
use Rattle.many_rules.proofs.Meeting.{below_or}
use Rattle.many_rules.specs.Ledgers.{ledgers, readers}
use Rattle.many_rules.specs.Makes.{Makes}
use Rattle.many_rules.specs.Rules.{Rules}
use Rattle.site_model.specs.declared.site.Site as sites
use Rattle.spec_cell.specs.Views.{CellView}
use Rattle.trail_states.proofs.States.{makes_states}
use Rattle.trail_states.specs.HaveMade.{HaveMade}

-- no frame is under way where a log rests
pub rests_none : (way : Way) → stage_of way ≡ stages.Resting → going_in way ≡ None
rests_none (Resting log) is = refl
rests_none (Bodied log frame) is = absurd (cc is)
rests_none (Synced log frame) is = absurd (cc is)
rests_none (Gated log frame) is = absurd (cc is)
rests_none (Safe log frame) is = absurd (cc is)
rests_none (BrokenBody log frame) is = absurd (cc is)
rests_none (BrokenGate log frame) is = absurd (cc is)
rests_none Away is = absurd (cc is)

-- what is known where a call went well
pub on_ok : {A E : Type 0} (X : Type 0) (r : Result A E) (value : A) → r ≡ Ok value → OnOk r X → X
on_ok X (Ok other) value is known = known
on_ok X (Err error) value is known = absurd (cc is)

pub if_ok : {A E : Type 0} (P : A → Type 0) (r : Result A E) (value : A) → r ≡ Ok value → IfOk r P → P value
if_ok P (Ok other) value is known = let same : other ≡ value = cc is in subst P same known
if_ok P (Err error) value is known = absurd (cc is)

-- the frame under way is what is out
pub going_is : (s : StoreView) (p : ℕ) (c : CellView) (going : List Entry) → IsOut s p c → s.going p ≡ Some going → going ≡ take c.out c.entries
going_is s p c going out is = elim (below_or 0 c.out) [
  | inl some ↦ let there = out.goes some in cc (is, there)
  | inr none ↦ let none_out : c.out ≡ 0 = omega (arith, none) in let rests = (out.rests none_out).1 in absurd (cc (is, rests))
]

-- and no more is under way than is out
pub no_more : (s : StoreView) (p : ℕ) (c : CellView) → IsOut s p c → count_under_way (s.going p) ≤ c.out
no_more s p c out = elim (below_or 0 c.out) [
  | inl some ↦
      let long = ap count_under_way (out.goes some) in
      let taken = length-take c.out c.entries in
      omega (arith, long, taken)
  | inr none ↦
      let none_out : c.out ≡ 0 = omega (arith, none) in
      let long = ap count_under_way (out.rests none_out).1 in
      omega (arith, long)
]

module _ {V L : Type 0} {G : sites.Ghosts V} {K : starts.Ghosts (gated_types.Gated L)} where
  pub made_of : (o : Origin) (rules : Rules) (count : ℕ) (store : GatedStore V L G K) → HasBegun o rules → IsKept count (ledgers rules) (readers rules) (Makes rules) store → HaveMade rules (trail_in store.logs)
  made_of o rules count store begins kept = makes_states rules begins.made begins.below begins.numbered (trail_in store.logs) kept.fits.grown

  -- the frame under way is one that its partition may make
  pub may_go : (rules : Rules) (count part : ℕ) (store : GatedStore V L G K) (going : List Entry) → part < count → IsKept count (ledgers rules) (readers rules) (Makes rules) store → going_at store.logs part ≡ Some going
      → Makes rules store.logs.latest (of_part part (trail_in store.logs)) (told_in store.logs) part going
  may_go rules count part store going below kept is = subst (IsMade (Makes rules) store.logs.latest (of_part part (trail_in store.logs)) (told_in store.logs) part) is (kept.fits.made part below)

  module _ (rules : Rules) (part : ℕ) (old new : GatedStore V L G K) (keeps : KeepsGate part old new) where
    -- nothing is settled
    pub stays : trail_in new.logs ≡ trail_in old.logs → (q : ℕ) → StaysFor rules q (view_of old) (view_of new)
    stays trail q = record { latest = keeps.logs.latest; told = keeps.logs.said; mine = ap (of_part q) trail; floors = ap (λ (f : ℕ → List Floor). f q) keeps.floors; reads = same_reads rules q (view_of old) (view_of new) trail }

    pub others_keep : trail_in new.logs ≡ trail_in old.logs → KeepsOthers rules part (view_of old) (view_of new)
    others_keep trail = λ q apart c joined. joined_still rules q (view_of old) (view_of new) (stays trail q) c (ap stage_of (keeps.logs.others q apart)) (ap going_in (keeps.logs.others q apart)) joined

    -- a frame is
    pub others_settled : (at : ℕ) (going : List Entry) → trail_in new.logs ≡ trail_in old.logs ++ settling part at going → Makes rules old.logs.latest (of_part part (trail_in old.logs)) (told_in old.logs) part going → KeepsOthers rules part (view_of old) (view_of new)
    others_settled at going trail makes = λ q apart c joined.
        joined_still rules q (view_of old) (view_of new) (record {
          latest = keeps.logs.latest;
          told = keeps.logs.said;
          mine = others_then rules part at going (view_of old) (view_of new) trail makes q apart;
          floors = ap (λ (f : ℕ → List Floor). f q) keeps.floors;
          reads = more_read rules part at going (view_of old) (view_of new) trail makes q;
        }) c (ap stage_of (keeps.logs.others q apart)) (ap going_in (keeps.logs.others q apart)) joined

  -- a new incarnation is known, and nothing else changes
  pub others_restarted : (rules : Rules) (part : ℕ) (old new : GatedStore V L G K) → new.logs ≡ old.logs → ((other : ℕ) → other ≢ part → floors_of new.ledgers.items other ≡ floors_of old.ledgers.items other) → KeepsOthers rules part (view_of old) (view_of new)
  others_restarted rules part old new logs floors = λ q apart c joined.
      joined_still rules q (view_of old) (view_of new) (record {
        latest = ap (λ l. l.latest) logs;
        told = ap told_in logs;
        mine = ap (λ l. of_part q (trail_in l)) logs;
        floors = floors q apart;
        reads = same_reads rules q (view_of old) (view_of new) (ap trail_in logs);
      }) c (ap (λ l. stage_at l q) logs) (ap (λ l. going_at l q) logs) joined

-- a call failed on the frame that is out
pub failed_joined : (rules : Rules) (p : ℕ) (old new : StoreView) (c : CellView) → StaysFor rules p old new → new.going p ≡ old.going p → (c.out ≡ 0 → ⊥) → Joined rules old p c → Joined rules new p c
failed_joined rules p old new c stays going some joined = record {
  goes = goes_still rules p old new stays c joined.goes;
  out = record { rests = λ none. absurd (some none); goes = λ is_out. going ∙ joined.out.goes is_out };
}

-- where a cell goes on from
pub base_here : (o : Origin) (rules : Rules) → HasBegun o rules → (s : StoreView) (p : ℕ) → p < rules.count → (c : CellView) → GoesOnFrom rules s p c → (base : Partition) → placed rules.flows rules.count (rules.begin c.number) c.slot.mine ≡ Ok base → base.position ≡ log_length (ledgers rules p (of_part p s.trail))
base_here o rules begins s p below c goes base settled =
    base_long rules p (of_part p s.trail) base below begins.made
    (subst (λ (n : ℕ). placed rules.flows rules.count (rules.begin n) (of_part p s.trail) ≡ Ok base) goes.number (subst (λ (l : List Entry). placed rules.flows rules.count (rules.begin c.number) l ≡ Ok base) goes.mine settled))

-- the floor that the store has is the cell's
pub floor_here : (part incarnation from : ℕ) (after : CellView) → after.number ≡ part → incarnation ≡ after.incarnation → (record { partition = part; incarnation = incarnation; from = from }) ≡ floor_of after from
floor_here part incarnation from after number same = λ i. record { partition = (sym number) i; incarnation = same i; from = from }
