-- The two at the beginning, and what each may write.
use Rattle.std.proofs.Common.{◌≡◌, ℕ, zero, suc, ◌+◌, ◌<◌, ◌^◌, Bool, List, [], ◌∷◌, Option, Some, None, refl, sym, ap, subst, arith}
use Rattle.std.specs.List.{slice_get, Contains}
use Rattle.std.proofs.lemmas.List.Elements.{All-from_recursion}
use Rattle.site_model.specs.declared.site.Site as sites
use Rattle.site_model.specs.History.{Step, Change, changes_of}
use Rattle.site_model.specs.Moments.{OnlyFile}
use Rattle.commit_log.specs.Outcomes.{RestsAs}
use Rattle.commit_log.specs.States.{IsResting}
use Rattle.commit_log.specs.declared.states.Resting.{Resting}
use Rattle.dura_value.specs.Items.{Item, took, got}
use Rattle.log_items.specs.Entries.{identities_at}
use Rattle.log_items.specs.Streams.{Sent}
use Rattle.part_items.specs.Fits.{FitsMessage}
use Rattle.part_items.specs.ItemFits.{FitsItem, FitsEntry, FitsFrame}
use Rattle.commit_gate.specs.Keeping.{GoesInside, IsOfOne}
use Rattle.commit_gate.specs.Views.{floors_of}
use Rattle.commit_gate.specs.declared.ledger.Ledger.{Ledger}
use Rattle.gated_store.specs.declared.local.Gated as gated_types
use Rattle.gated_store.specs.declared.store.GatedStore.{GatedStore}
use Rattle.hub_store.proofs.FramesGo.{frame_goes}
use Rattle.hub_store.specs.Changes.{stage_at, trail_in}
use Rattle.hub_store.specs.Opened.{HasBegun}
use Rattle.hub_store.specs.Trail.{of_part}
use Rattle.hub_store.specs.declared.start.Start as starts
use Rattle.hub_store.specs.declared.way.Stage.TheVariants as stages
use Rattle.crossing_tests.specs.Crossing.{header, origin_with, message, first_with, sender, asking, sent_on, taking}
use Rattle.crossing_tests.specs.Standing.{IsEmpty, MayWrite, IsThere}

pub no_floors : (list : List Ledger) → ((p : ℕ) (ledger : Ledger) → slice_get list p ≡ Some ledger → IsEmpty ledger) → (p : ℕ) → floors_of list p ≡ []
no_floors [] each p = refl
no_floors (one ∷ more) each zero = (each zero one refl).floors
no_floors (one ∷ more) each (suc p) = no_floors more (λ q ledger is. each (suc q) ledger is) p

module _ {V L : Type 0} {G : sites.Ghosts V} {K : starts.Ghosts (gated_types.Gated L)} where
  pub none_there : (store : GatedStore V L G K) → ((p : ℕ) → p < 2 → stage_at store.logs p ≡ stages.Resting) → trail_in store.logs ≡ [] → (p : ℕ) (place : Option Bool) → slice_get (None ∷ None ∷ []) p ≡ Some place → IsThere store p place
  none_there store rest trail zero place is = let same : None ≡ place = cc is in subst (λ (x : Option Bool). IsThere store 0 x) same (rest 0 (omega arith), ap (of_part 0) trail)
  none_there store rest trail (suc zero) place is = let same : None ≡ place = cc is in subst (λ (x : Option Bool). IsThere store 1 x) same (rest 1 (omega arith), ap (of_part 1) trail)
  none_there store rest trail (suc (suc p)) place is = absurd (cc is)

-- ---- what each may write

message_fits : (number : ℕ) → 0 < number → number < 2 ^ 32 → FitsMessage (message number)
message_fits number some low = record { from_fits = refl; to_fits = record { name_is = refl; key_is = refl }; body_fits = record { some = some; fits = low } }

frame_fits : (item : Item) → FitsItem item → FitsFrame (first_with item ∷ [])
frame_fits item fits =
    let entry : FitsEntry (first_with item) = record { position_fits = omega arith; incarnation_fits = omega arith; some = omega arith; few = omega arith; each = All-from_recursion FitsItem (item ∷ []) (fits, tt) } in
    record { some = omega arith; few = omega arith; each = All-from_recursion FitsEntry (first_with item ∷ []) (entry, tt) }

pub may_ask : MayWrite 0 (asking ∷ []) (sent_on ∷ [])
may_ask = record {
  behind = frame_goes (record { position = 0; incarnation = 0 }) (asking ∷ []) (frame_fits (took (message 1)) (message_fits 1 (omega arith) (omega arith))) (refl, omega arith, tt);
  few = omega arith;
  inside = All-from_recursion (GoesInside 2) (sent_on ∷ []) (omega arith, tt);
  fits = All-from_recursion (IsOfOne 2) (took (message 1) ∷ []) (tt, tt);
  empty = refl;
  goes = (
    sent_on ∷ [],
    record {
      positions = (refl, tt);
      reads = tt;
      senders = All-from_recursion (λ (one : Sent). Contains (identities_at 0 (asking ∷ [])) one.posted.entry) (sent_on ∷ []) ((0, omega arith, refl), tt);
      makes = refl;
    },
  );
  makes = refl;
}

pub may_take : (number : ℕ) → 0 < number → number < 2 ^ 32 → MayWrite 1 (taking number ∷ []) []
may_take number some low = record {
  behind = frame_goes (record { position = 0; incarnation = 0 }) (taking number ∷ [])
      (frame_fits (got sender 0 (message number)) (record { partition_fits = omega arith; incarnation_fits = omega arith; position_fits = omega arith }, omega arith, message_fits number some low)) (refl, omega arith, tt);
  few = omega arith;
  inside = All-from_recursion (GoesInside 2) [] tt;
  fits = All-from_recursion (IsOfOne 2) (got sender 0 (message number) ∷ []) ((omega arith, omega arith), tt);
  empty = refl;
  goes = ([], record { positions = (refl, tt); reads = (refl, tt); senders = All-from_recursion (λ (one : Sent). Contains (identities_at 1 (taking number ∷ [])) one.posted.entry) [] tt; makes = refl });
  makes = refl;
}

-- ---- both segments are new

-- making the second left the first as it was
module _ (before steps : List Step) (first second : Resting) (first_file : first.file ≡ 16) (second_file : second.file ≡ 17) (first_rests : RestsAs before (header 0) [] first) (second_rests : RestsAs steps (header 1) [] second) (only : OnlyFile 17 before steps) where
  first_there : (first.file ≡ 16) × IsResting (changes_of 16 steps) (header 0) [] first.gate
  first_there = (
    first_file,
    subst (λ (changes : List Change). IsResting changes (header 0) [] first.gate) (sym (only.others 16 (omega arith))) (subst (λ (file : ℕ). IsResting (changes_of file before) (header 0) [] first.gate) first_file first_rests),
  )

  second_there : (second.file ≡ 17) × IsResting (changes_of 17 steps) (header 1) [] second.gate
  second_there = (second_file, subst (λ (file : ℕ). IsResting (changes_of file steps) (header 1) [] second.gate) second_file second_rests)

  both_rest : (p : ℕ) (log : Resting) → slice_get (first ∷ second ∷ []) p ≡ Some log → (log.file ≡ 16 + p) × IsResting (changes_of (16 + p) steps) (header p) [] log.gate
  both_rest zero log is = let same : first ≡ log = cc is in subst (λ (l : Resting). (l.file ≡ 16) × IsResting (changes_of 16 steps) (header 0) [] l.gate) same first_there
  both_rest (suc zero) log is = let same : second ≡ log = cc is in subst (λ (l : Resting). (l.file ≡ 17) × IsResting (changes_of 17 steps) (header 1) [] l.gate) same second_there
  both_rest (suc (suc p)) log is = absurd (cc is)

  pub both_begun : HasBegun (origin_with steps) steps (first ∷ second ∷ [])
  both_begun = record { now = refl; rests = both_rest }
