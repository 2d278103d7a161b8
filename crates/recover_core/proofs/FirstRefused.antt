-- The first item of an entry that isn't accepted.
use Rattle.std.proofs.Common.{◌≡◌, ◌∙◌, ◌<◌, ℕ, List, ◌∷◌, length, slice_index_or, Option, Some, None, Bool, true, false, if◌then◌else◌, refl, sym, ap, subst}
use Rattle.std.specs.Prelude.{option_map}
use Rattle.std.proofs.lemmas.List.{get_or-map}
use Rattle.dura_value.specs.Items.{Item, Entry}
use Rattle.flow_syntax.specs.Syntax.{Flows}
use Rattle.dura_model.specs.Partition.{Partition, fresh, enter, accepted}
use Rattle.many_logs.specs.Placing.{is_ready, commit_accepted}
use Rattle.many_logs.specs.Unplaced.{Unplaced, unplaced_by, or_behind, first_refused, why}
use Rattle.many_logs.proofs.Unplaced.{refused_has_item}
use Rattle.part_steps.specs.declared.state.PartState.{PartState}
use Rattle.part_steps.specs.States.{IsSound, state_of, count_of, parts_in}
use Rattle.recover_core.specs.declared.error.RecoverError.{RecoverError}
use Rattle.recover_core.specs.declared.error.RecoverError.TheVariants as errors
use Rattle.recover_core.specs.Reasons.{IsReason, IsReasonOf, SaysReason}

-- Items were accepted one after another, and these are left.
pub record HasTried (flows : Flows) (count : ℕ) (parts : ℕ → Partition) (partition : ℕ) (old now : PartState) (all rest : List Item) : Type 0 where
  pub same : first_refused flows count parts partition (state_of now) rest ≡ first_refused flows count parts partition (state_of old) all
  pub sound : IsSound now
  pub count_is : count_of now ≡ count
  pub position : (state_of now).position ≡ (state_of old).position

module _ (flows : Flows) (count : ℕ) (parts : ℕ → Partition) (partition : ℕ) (old : PartState) (all : List Item) where
  pub none_tried : IsSound old → count_of old ≡ count → HasTried flows count parts partition old old all all
  none_tried sound among = record { same = refl; sound = sound; count_is = among; position = refl }

  module _ (now : PartState) (rest : List Item) (item : Item) (so_far : HasTried flows count parts partition old now all (item ∷ rest)) where
    found_is : (ready : Bool) (made : Option Partition) → ready ≡ is_ready parts partition item → accepted flows (count_of now) (state_of now) item ≡ made
        → first_refused flows count parts partition (state_of old) all ≡ (if ready then or_behind item made (λ next. first_refused flows count parts partition next rest) else Some item)
    found_is ready made is becomes =
        let here : accepted flows count (state_of now) item ≡ made = ap (λ (n : ℕ). accepted flows n (state_of now) item) (sym so_far.count_is) ∙ becomes in
        sym so_far.same
        ∙ ap (λ (b : Bool). if b then or_behind item (accepted flows count (state_of now) item) (λ next. first_refused flows count parts partition next rest) else Some item) (sym is)
        ∙ ap (λ (o : Option Partition). if ready then or_behind item o (λ next. first_refused flows count parts partition next rest) else Some item) here

    pub not_ready : false ≡ is_ready parts partition item → first_refused flows count parts partition (state_of old) all ≡ Some item
    not_ready is = found_is false (accepted flows (count_of now) (state_of now) item) is refl

    pub not_accepted : true ≡ is_ready parts partition item → accepted flows (count_of now) (state_of now) item ≡ None → first_refused flows count parts partition (state_of old) all ≡ Some item
    not_accepted is becomes = found_is true None is becomes

    pub one_tried : (next : PartState) → true ≡ is_ready parts partition item → accepted flows (count_of now) (state_of now) item ≡ Some (state_of next) → IsSound next → count_of next ≡ count_of now
        → (state_of next).position ≡ (state_of now).position → HasTried flows count parts partition old next all rest
    one_tried next is becomes sound among position = record {
      same = sym (found_is true (Some (state_of next)) is becomes);
      sound = sound;
      count_is = among ∙ so_far.count_is;
      position = position ∙ so_far.position;
    }

-- the first item that isn't accepted says why
pub says_why : (error : RecoverError) (partition place position : ℕ) (item : Item) (found : Option Item) → found ≡ Some item → place ≡ position
    → IsReasonOf error (unplaced_by partition place item) → SaysReason (Some error) (option_map (unplaced_by partition position) found)
says_why error partition place position item found is same reason =
    subst (λ (o : Option Item). SaysReason (Some error) (option_map (unplaced_by partition position) o)) (sym is) (subst (λ (n : ℕ). IsReasonOf error (unplaced_by partition n item)) same reason)

-- ---- of an entry

-- the state of the partition at a place
pub state_at : (states : List PartState) (place : ℕ) (state : PartState) → place < length states → state ≡ slice_index_or states place state → parts_in states place ≡ state_of state
state_at states place state inside is = get_or-map state_of states place state (fresh place) inside ∙ ap state_of (sym is)

none_found : (f : Item → Unplaced) (o : Option Item) → option_map f o ≡ None → o ≡ None
none_found f None is = refl
none_found f (Some item) is = absurd (cc is)

-- what is found of an entry whose items begin in this state
module _ (flows : Flows) (count : ℕ) (parts : ℕ → Partition) (place : ℕ) (entry : Entry) (p : Partition) (items : List Item) (begun : p ≡ enter entry.incarnation (parts place)) (same : items ≡ entry.items) where
  found_in : first_refused flows count parts place p items ≡ first_refused flows count parts place (enter entry.incarnation (parts place)) entry.items
  found_in = ap (λ (q : Partition). first_refused flows count parts place q items) begun ∙ ap (first_refused flows count parts place (enter entry.incarnation (parts place))) same

  pub is_why : (error : RecoverError) → SaysReason (Some error) (option_map (unplaced_by place entry.position) (first_refused flows count parts place p items)) → IsReason error (why flows count parts (record { partition = place; entry = entry }))
  is_why error says = subst (λ (o : Option Item). IsReason error (option_map (unplaced_by place entry.position) o)) found_in says

  pub has_why : commit_accepted flows count parts place entry ≡ None → option_map (unplaced_by place entry.position) (first_refused flows count parts place p items) ≡ None → ⊥
  has_why refused says = refused_has_item flows count parts place entry refused (sym found_in ∙ none_found (unplaced_by place entry.position) (first_refused flows count parts place p items) says)

-- no reason is a fault of the disk
pub no_fault : (error : RecoverError) (found : Option Unplaced) → IsReason error found → error ≡ errors.SiteFault → ⊥
no_fault error found reason is = by found (subst (λ (e : RecoverError). IsReason e found) is reason)
  where
    by : (o : Option Unplaced) → IsReason errors.SiteFault o → ⊥
    by None wrong = wrong
    by (Some one) wrong = wrong
