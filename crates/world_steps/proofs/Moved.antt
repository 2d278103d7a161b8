-- What a call on a frame alone leaves of the cells.
use Rattle.std.proofs.Common.{◌≡◌, ◌≢◌, inl, inr, true, ℕ, List, Some, Result, Ok, Err, OnOk, refl, sym, ◌∙◌, ap, subst, slice_get}
use Rattle.std.proofs.lemmas.Bool.{cases_eq}
use Rattle.cell_frames.proofs.Calls.{stays, others_keep, failed_joined}
use Rattle.cell_frames.proofs.Stays.{StaysFor, goes_still, same_reads}
use Rattle.cell_frames.specs.Joined.{StoreView, Joined, view_of}
use Rattle.commit_gate.specs.Views.{floors_of}
use Rattle.gated_store.specs.Keeps.{KeepsGate}
use Rattle.gated_store.specs.declared.local.Gated as gated_types
use Rattle.gated_store.specs.declared.store.GatedStore.{GatedStore}
use Rattle.hub_store.specs.Changes.{KeepsAll, stage_at, going_at, trail_in}
use Rattle.hub_store.specs.Trail.{of_part}
use Rattle.hub_store.specs.Waiting.{stage_behind}
use Rattle.hub_store.specs.declared.refusal.SyncRefusal.{SyncRefusal}
use Rattle.hub_store.specs.declared.refusal.SyncRefusal.TheVariants as refusals
use Rattle.hub_store.specs.declared.start.Start as starts
use Rattle.hub_store.specs.declared.way.Stage.{Stage}
use Rattle.hub_store.specs.declared.way.Stage.TheVariants as stages
use Rattle.many_rules.specs.Rules.{Rules}
use Rattle.site_model.specs.declared.site.Site as sites
use Rattle.spec_cell.specs.Views.{CellView}
use Rattle.world_steps.specs.Cells.{AllJoined}

module _ {V L : Type 0} {G : sites.Ghosts V} {K : starts.Ghosts (gated_types.Gated L)} (rules : Rules) (p : ℕ) (old new : GatedStore V L G K) (keeps : KeepsGate p old new) where
  -- a frame is under way, stays, and isn't settled by it
  pub moved_all : trail_in new.logs ≡ trail_in old.logs → going_at new.logs p ≡ going_at old.logs p → stage_at old.logs p ≢ stages.Resting → (cells : List CellView) → AllJoined rules (view_of old) cells → AllJoined rules (view_of new) cells
  moved_all trail going moving cells all q c is = elim (cases_eq q p) [
    | inl same ↦
        let there = all q c is in
        let here : Joined rules (view_of old) p c = subst (λ (k : ℕ). Joined rules (view_of old) k c) same there.1 in
        let after : Joined rules (view_of new) p c = failed_joined rules p (view_of old) (view_of new) c (stays rules p old new keeps trail p) going (λ none. moving (here.out.rests none).0) here in
        (there.0, subst (λ (k : ℕ). Joined rules (view_of new) k c) (sym same) after)
    | inr apart ↦ let there = all q c is in (there.0, others_keep rules p old new keeps trail q apart c there.1)
  ]

  -- where the call did it
  pub moved_ok : {A E : Type 0} → trail_in new.logs ≡ trail_in old.logs → going_at new.logs p ≡ going_at old.logs p → (r : Result A E) (none : E) → (stage_at old.logs p ≡ stages.Resting → r ≡ Err none)
      → OnOk r ((cells : List CellView) → AllJoined rules (view_of old) cells → AllJoined rules (view_of new) cells)
  moved_ok trail going (Ok a) none never = moved_all trail going (λ rests. absurd (cc (never rests)))
  moved_ok trail going (Err error) none never = tt

-- ---- stages that aren't others

pub is_bodied_there : (s : Stage) → (s ≢ stages.Bodied → ⊥) → s ≡ stages.Bodied
is_bodied_there stages.Resting not = absurd (not (λ same. cc same))
is_bodied_there stages.Bodied not = refl
is_bodied_there stages.Synced not = absurd (not (λ same. cc same))
is_bodied_there stages.Gated not = absurd (not (λ same. cc same))
is_bodied_there stages.Safe not = absurd (not (λ same. cc same))
is_bodied_there stages.BrokenBody not = absurd (not (λ same. cc same))
is_bodied_there stages.BrokenGate not = absurd (not (λ same. cc same))

pub is_synced_there : (s : Stage) → (s ≢ stages.Synced → ⊥) → s ≡ stages.Synced
is_synced_there stages.Resting not = absurd (not (λ same. cc same))
is_synced_there stages.Bodied not = absurd (not (λ same. cc same))
is_synced_there stages.Synced not = refl
is_synced_there stages.Gated not = absurd (not (λ same. cc same))
is_synced_there stages.Safe not = absurd (not (λ same. cc same))
is_synced_there stages.BrokenBody not = absurd (not (λ same. cc same))
is_synced_there stages.BrokenGate not = absurd (not (λ same. cc same))

-- ---- all frames at once

module _ {V L : Type 0} {G : sites.Ghosts V} {K : starts.Ghosts (gated_types.Gated L)} (rules : Rules) (old new : GatedStore V L G K) where
  -- frames that waited were made safe, and nothing was settled
  synced_all : KeepsAll old.logs new.logs → new.ledgers ≡ old.ledgers → trail_in new.logs ≡ trail_in old.logs → ((part : ℕ) → going_at new.logs part ≡ going_at old.logs part) → ((part : ℕ) → stage_at new.logs part ≡ stage_behind true (stage_at old.logs part))
      → (cells : List CellView) → AllJoined rules (view_of old) cells → AllJoined rules (view_of new) cells
  synced_all keeps ledgers trail going stage cells all q c is =
      let there = all q c is in
      let joined = there.1 in
      let stays : StaysFor rules q (view_of old) (view_of new) = record {
        latest = keeps.latest;
        told = keeps.said;
        mine = ap (of_part q) trail;
        floors = ap (λ l. floors_of l.items q) ledgers;
        reads = same_reads rules q (view_of old) (view_of new) trail;
      } in (
        there.0,
        record {
          goes = goes_still rules q (view_of old) (view_of new) stays c joined.goes;
          out = record {
            rests = λ none. let rests = joined.out.rests none in (stage q ∙ ap (stage_behind true) rests.0, going q ∙ rests.1);
            goes = λ some. going q ∙ joined.out.goes some;
          };
        },
      )

  -- whatever the call answers but a fault
  pub synced_ok : (r : Result (Unit {0}) SyncRefusal) → KeepsAll old.logs new.logs → new.ledgers ≡ old.ledgers → trail_in new.logs ≡ trail_in old.logs → ((part : ℕ) → going_at new.logs part ≡ going_at old.logs part)
      → OnOk r ((part : ℕ) → stage_at new.logs part ≡ stage_behind true (stage_at old.logs part)) → (r ≡ Err refusals.NoFrame → new ≡ old) → (r ≡ Err refusals.Memory → new ≡ old) → r ≢ Err refusals.SiteFault
      → (cells : List CellView) → AllJoined rules (view_of old) cells → AllJoined rules (view_of new) cells
  synced_ok (Ok done) keeps ledgers trail going stage none memory apart cells all = synced_all keeps ledgers trail going stage cells all
  synced_ok (Err refusals.NoFrame) keeps ledgers trail going stage none memory apart cells all = subst (λ (s : GatedStore V L G K). AllJoined rules (view_of s) cells) (sym (none refl)) all
  synced_ok (Err refusals.Memory) keeps ledgers trail going stage none memory apart cells all = subst (λ (s : GatedStore V L G K). AllJoined rules (view_of s) cells) (sym (memory refl)) all
  synced_ok (Err refusals.SiteFault) keeps ledgers trail going stage none memory apart cells all = absurd (apart refl)
