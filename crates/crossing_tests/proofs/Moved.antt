-- How the two stand behind a call on the frame of one.
use Rattle.std.proofs.Common.{◌≡◌, ◌≢◌, ◌⊎◌, inl, inr, ℕ, zero, suc, Bool, true, false, List, [], ◌∷◌, Option, Some, None, slice_set, refl, sym, ap, subst, ◌∙◌}
use Rattle.std.specs.List.{slice_get}
use Rattle.std.proofs.lemmas.Bool.{cases_eq}
use Rattle.site_model.specs.declared.site.Site as sites
use Rattle.dura_value.specs.Items.{Entry, Floor}
use Rattle.gated_store.specs.declared.local.Gated as gated_types
use Rattle.gated_store.specs.declared.store.GatedStore.{GatedStore}
use Rattle.gated_store.specs.Following.{others_after}
use Rattle.gated_store.specs.Keeps.{KeepsGate}
use Rattle.gated_store.specs.Kept.{IsKept}
use Rattle.commit_gate.specs.Views.{floors_of}
use Rattle.hub_store.specs.Changes.{stage_at, trail_in, Settles, KeepsAll}
use Rattle.hub_store.specs.Trail.{Settled, of_part}
use Rattle.hub_store.specs.Waiting.{stage_behind}
use Rattle.hub_store.specs.Ways.{stage_of, way_of}
use Rattle.hub_store.specs.declared.start.Start as starts
use Rattle.hub_store.specs.declared.way.Stage.TheVariants as stages
use Rattle.crossing_tests.specs.Crossing.{ledgers}
use Rattle.crossing_tests.specs.Standing.{readers, may_make, IsThere, Stands}

-- a place that is put in is read back, and the others stay
put_same : (places : List (Option Bool)) (p : ℕ) (place found : Option Bool) → slice_get (slice_set places p place) p ≡ Some found → found ≡ place
put_same [] p place found is = absurd (let e : ⊥ = cc in e)
put_same (one ∷ more) zero place found is = cc
put_same (one ∷ more) (suc p) place found is = put_same more p place found is

put_other : (places : List (Option Bool)) (p q : ℕ) (place : Option Bool) → q ≢ p → slice_get (slice_set places p place) q ≡ slice_get places q
put_other [] p q place apart = refl
put_other (one ∷ more) zero zero place apart = absurd (apart refl)
put_other (one ∷ more) zero (suc q) place apart = refl
put_other (one ∷ more) (suc p) zero place apart = refl
put_other (one ∷ more) (suc p) (suc q) place apart = put_other more p q place (λ same. apart (ap suc same))

-- a frame that rests has not come to a call
pub not_bodied : stages.Resting ≢ stages.Bodied
not_bodied same = cc

pub not_synced : stages.Resting ≢ stages.Synced
not_synced same = cc

-- what is settled of others
pub others_settled : (tells : Type 0) (moment part : ℕ) (going : Option (List Entry)) (old new : List Settled) → Settles tells moment part going old new → (q : ℕ) → q ≢ part → of_part q new ≡ of_part q old
others_settled tells moment part going old new settles q apart = ap (of_part q) settles.trail ∙ others_after old part settles.at settles.entries q apart

module _ {V L : Type 0} {G : sites.Ghosts V} {K : starts.Ghosts (gated_types.Gated L)} where
  stays : (old new : GatedStore V L G K) (q : ℕ) (place : Option Bool) → way_of new.logs.ways.items q ≡ way_of old.logs.ways.items q → of_part q (trail_in new.logs) ≡ of_part q (trail_in old.logs) → IsThere old q place → IsThere new q place
  stays old new q None way trail here = (ap stage_of way ∙ here.0, trail ∙ here.1)
  stays old new q (Some false) way trail here = trail ∙ here
  stays old new q (Some true) way trail here = here

  own : (old new : GatedStore V L G K) (part : ℕ) (place : Option Bool) → stage_at old.logs part ≢ stages.Resting → trail_in new.logs ≡ trail_in old.logs → IsThere old part place → IsThere new part place
  own old new part None goes trail here = absurd (goes here.0)
  own old new part (Some false) goes trail here = ap (of_part part) trail ∙ here
  own old new part (Some true) goes trail here = here

  rests : (old new : GatedStore V L G K) (part : ℕ) (place : Option Bool) → stage_at new.logs part ≡ stages.Resting → trail_in new.logs ≡ trail_in old.logs → IsThere old part place → IsThere new part place
  rests old new part None done trail here = (done, ap (of_part part) trail ∙ here.1)
  rests old new part (Some false) done trail here = ap (of_part part) trail ∙ here
  rests old new part (Some true) done trail here = here

  -- a frame that isn't settled was dropped
  pub dropped : (old new : GatedStore V L G K) (part : ℕ) (place now : Option Bool) → stage_at new.logs part ≡ stages.Resting → trail_in new.logs ≡ trail_in old.logs → IsThere old part place
      → ((place ≡ Some false) × (now ≡ None)) ⊎ (now ≡ place) → IsThere new part now
  dropped old new part place now done trail here (inl (going, none)) =
      subst (λ (x : Option Bool). IsThere new part x) (sym none) (done, ap (of_part part) trail ∙ subst (λ (x : Option Bool). IsThere old part x) going here)
  dropped old new part place now done trail here (inr same) = subst (λ (x : Option Bool). IsThere new part x) (sym same) (rests old new part place done trail here)

  -- a frame was under way, and nothing was settled
  pub stands_still : (old new : GatedStore V L G K) (places : List (Option Bool)) (part : ℕ) → Stands old places → IsKept 2 ledgers readers may_make new → KeepsGate part old new → stage_at old.logs part ≢ stages.Resting → trail_in new.logs ≡ trail_in old.logs → Stands new places
  stands_still old new places part was kept keeps goes trail = record {
    kept = kept;
    whole = keeps.logs.whole ∙ was.whole;
    floors = λ p. ap (λ (f : ℕ → List Floor). f p) keeps.floors ∙ was.floors p;
    each = λ p place is. elim (cases_eq p part) [
      | inl same ↦ own old new p place (subst (λ (x : ℕ). stage_at old.logs x ≢ stages.Resting) (sym same) goes) trail (was.each p place is)
      | inr apart ↦ stays old new p place (keeps.logs.others p apart) (ap (of_part p) trail) (was.each p place is)
    ];
  }

  -- the frame of a partition came to this place
  pub stands_moved : (old new : GatedStore V L G K) (places : List (Option Bool)) (part : ℕ) (moved : Option Bool) → Stands old places → IsKept 2 ledgers readers may_make new → KeepsGate part old new
      → ((q : ℕ) → q ≢ part → of_part q (trail_in new.logs) ≡ of_part q (trail_in old.logs)) → IsThere new part moved → Stands new (slice_set places part moved)
  stands_moved old new places part moved was kept keeps others there = record {
    kept = kept;
    whole = keeps.logs.whole ∙ was.whole;
    floors = λ p. ap (λ (f : ℕ → List Floor). f p) keeps.floors ∙ was.floors p;
    each = λ p place is. elim (cases_eq p part) [
      | inl same ↦ subst (λ (x : ℕ). IsThere new x place) (sym same)
          (subst (λ (x : Option Bool). IsThere new part x) (sym (put_same places part moved place (subst (λ (x : ℕ). slice_get (slice_set places part moved) x ≡ Some place) same is))) there)
      | inr apart ↦ stays old new p place (keeps.logs.others p apart) (others p apart) (was.each p place (sym (put_other places part p moved apart) ∙ is))
    ];
  }

  -- all files were made safe, or that failed, and nothing was settled
  pub stands_behind : (old new : GatedStore V L G K) (places : List (Option Bool)) (safe : Bool) → Stands old places → IsKept 2 ledgers readers may_make new → KeepsAll old.logs new.logs → new.ledgers ≡ old.ledgers
      → ((part : ℕ) → stage_at new.logs part ≡ stage_behind safe (stage_at old.logs part)) → trail_in new.logs ≡ trail_in old.logs → Stands new places
  stands_behind old new places safe was kept keeps same behind trail = record {
    kept = kept;
    whole = keeps.whole ∙ was.whole;
    floors = λ p. ap (λ (v : _). floors_of v.items p) same ∙ was.floors p;
    each = λ p place is. still p place (was.each p place is);
  }
    where
      rests_still : (b : Bool) → stage_behind b stages.Resting ≡ stages.Resting
      rests_still true = refl
      rests_still false = refl

      still : (p : ℕ) (place : Option Bool) → IsThere old p place → IsThere new p place
      still p None here = (behind p ∙ ap (stage_behind safe) here.0 ∙ rests_still safe, ap (of_part p) trail ∙ here.1)
      still p (Some false) here = ap (of_part p) trail ∙ here
      still p (Some true) here = here
