-- An entry is placed on the state of its partition, which stands among all.
use Rattle.std.proofs.Common.{◌≡◌, ◌≢◌, ◌∙◌, ℕ, ◌<◌, ◌+◌, true, false, List, length, slice_index_or, Option, Some, None, Ok, Err, sym, ap, subst, arith}
use Rattle.std.proofs.Math.ListN.{set}
use Rattle.std.proofs.lemmas.List.{length-set}
use Rattle.site_model.specs.History.{Step}
use Rattle.commit_log.specs.declared.reader.FrameError.{FrameError}
use Rattle.commit_log.specs.declared.reader.FrameError.TheVariants as unread
use Rattle.commit_log.specs.declared.reader.OpenedLog.{OpenedLog}
use Rattle.dura_value.specs.Items.{Entry}
use Rattle.flow_syntax.specs.Syntax.{Flows}
use Rattle.dura_model.specs.Partition.{Partition, fresh}
use Rattle.dura_model.specs.Entries.{entry_accepted}
use Rattle.part_steps.specs.declared.state.PartState.{PartState}
use Rattle.part_steps.specs.States.{IsSound, IsStateOf, AreStatesOfAll, state_of, count_of, parts_in}
use Rattle.recover_core.specs.Courses.{PlacesAt, SaysRefused, IsBrokenLog}
use Rattle.recover_core.specs.Placed.{MakesEntry}
use Rattle.recover_core.specs.Restored.{Restores}
use Rattle.recover_core.proofs.FirstRefused.{state_at}
use Rattle.recover_core.proofs.States.{parts_other, parts_here, all_set, none_changed}

pub is_fresh : (count place : ℕ) (s : PartState) → state_of s ≡ fresh place → count_of s ≡ count → IsSound s → IsStateOf count place s
is_fresh count place s is among sound = record { sound = sound; among = among; number = ap (λ (p : Partition). p.number) is }

-- The state at a place is taken out, so that another stands there for a while, and a state of the same partition is put in.
module _ (old mid new : List PartState) (place : ℕ) (state between made : PartState) (all : AreStatesOfAll old) (low : place < length old) (was : state ≡ slice_index_or old place state) (out : mid ≡ set old place between) (back : new ≡ set mid place made) where
  pub state_is : IsStateOf (length old) place state
  state_is = subst (IsStateOf (length old) place) (sym was) (all.each place state low)

  pub before : parts_in old place ≡ state_of state
  before = state_at old place state low was

  mid_long : length mid ≡ length old
  mid_long = let same = ap (λ (l : List PartState). length l) out in let long = length-set old place between in omega (arith, same, long)

  pub many : length new ≡ length old
  many = let same = ap (λ (l : List PartState). length l) back in let long = length-set mid place made in let mid_is = mid_long in omega (arith, same, long, mid_is)

  inside : place < length mid
  inside = let long = mid_long in omega (arith, low, long)

  pub here : parts_in new place ≡ state_of made
  here = ap (λ (l : List PartState). parts_in l place) back ∙ parts_here mid place made inside

  pub others : (other : ℕ) → other ≢ place → parts_in new other ≡ parts_in old other
  others other apart =
      ap (λ (l : List PartState). parts_in l other) back ∙ parts_other mid place made other apart ∙ ap (λ (l : List PartState). parts_in l other) out ∙ parts_other old place between other apart

  pub all_again : IsStateOf (length old) place between → IsStateOf (length old) place made → AreStatesOfAll new
  all_again between_is made_is =
      let mid_all : AreStatesOfAll mid = subst AreStatesOfAll (sym out) (all_set old place between all low between_is) in
      subst AreStatesOfAll (sym back) (all_set mid place made mid_all inside (subst (λ (n : ℕ). IsStateOf n place made) (sym mid_long) made_is))

  module _ (flows : Flows) (entry : Entry) (between_is : IsStateOf (length old) place between) where
    accepted_is : entry_accepted flows (length old) (parts_in old place) entry ≡ entry_accepted flows (count_of state) (state_of state) entry
    accepted_is = ap (λ (n : ℕ). entry_accepted flows n (parts_in old place) entry) (sym state_is.among) ∙ ap (λ (p : Partition). entry_accepted flows (count_of state) p entry) before

    pub placed_there : (found : Option PartState) → found ≡ Some made → MakesEntry found state entry (entry_accepted flows (count_of state) (state_of state) entry) → PlacesAt flows place entry old new true
    placed_there found found_is found_makes = let makes = subst (λ (o : Option PartState). MakesEntry o state entry (entry_accepted flows (count_of state) (state_of state) entry)) found_is found_makes in record {
      all = all_again between_is (record { sound = makes.1; among = makes.2 ∙ state_is.among; number = makes.5 ∙ state_is.number });
      many = many;
      others = others;
      made = λ placed. (
        accepted_is ∙ makes.0 ∙ ap (λ (p : Partition). Some p) (sym here),
        ap (λ (p : Partition). p.position) here ∙ makes.3 ∙ ap (λ (p : Partition). p.position + 1) (sym before),
        ap (λ (p : Partition). p.incarnation) here ∙ makes.4,
      );
    }

    pub restored_there : IsStateOf (length old) place made → PlacesAt flows place entry old new false
    restored_there made_is = record { all = all_again between_is made_is; many = many; others = others; made = λ placed. absurd (cc placed) }

    pub refused_there : (found : Option PartState) → found ≡ None → MakesEntry found state entry (entry_accepted flows (count_of state) (state_of state) entry) → (steps : List Step) (log : OpenedLog) → Restores steps log (parts_in old place) (Ok made)
        → SaysRefused flows steps log place entry old new (Ok false)
    refused_there found found_is found_makes steps log restores = let refused = subst (λ (o : Option PartState). MakesEntry o state entry (entry_accepted flows (count_of state) (state_of state) entry)) found_is found_makes in (accepted_is ∙ refused, none_changed (parts_in old) (parts_in new) place others (here ∙ restores))

pub not_restored : (steps : List Step) (log : OpenedLog) (made : Partition) (error : FrameError) → Restores steps log made (Err error) → IsBrokenLog steps (Some log) error
not_restored steps log made (unread.Damaged offset) is = is
not_restored steps log made unread.SiteFault is = tt
not_restored steps log made unread.Memory is = tt
