-- Items are applied one after another.
use Rattle.std.proofs.Common.{◌≡◌, ◌∙◌, ℕ, List, [], ◌∷◌, Some, None, refl, sym, ap, subst}
use Rattle.std.specs.Option.{option_and_then}
use Rattle.dura_value.specs.Items.{Item}
use Rattle.flow_syntax.specs.Syntax.{Flows}
use Rattle.dura_model.specs.Partition.{accepted}
use Rattle.dura_model.specs.Entries.{all_accepted}
use Rattle.part_steps.specs.declared.state.PartState.{PartState}
use Rattle.part_steps.specs.States.{IsSound, state_of, count_of}
use Rattle.recover_core.specs.Placed.{Makes}

-- Items were applied to a state, and these are left.
pub record HasApplied (flows : Flows) (old now : PartState) (all rest : List Item) : Type 0 where
  pub same : all_accepted flows (count_of old) (state_of now) rest ≡ all_accepted flows (count_of old) (state_of old) all
  pub sound : IsSound now
  pub count : count_of now ≡ count_of old
  pub position : (state_of now).position ≡ (state_of old).position
  pub incarnation : (state_of now).incarnation ≡ (state_of old).incarnation
  pub number : (state_of now).number ≡ (state_of old).number

pub none_applied : (flows : Flows) (old : PartState) (all : List Item) → IsSound old → HasApplied flows old old all all
none_applied flows old all sound = record { same = refl; sound = sound; count = refl; position = refl; incarnation = refl; number = refl }

pub one_applied : (flows : Flows) (old now next : PartState) (all rest : List Item) (item : Item) → HasApplied flows old now all (item ∷ rest)
    → accepted flows (count_of now) (state_of now) item ≡ Some (state_of next) → IsSound next → count_of next ≡ count_of now → (state_of next).position ≡ (state_of now).position → (state_of next).incarnation ≡ (state_of now).incarnation → (state_of next).number ≡ (state_of now).number
    → HasApplied flows old next all rest
one_applied flows old now next all rest item so_far is sound count position incarnation number =
    let here : accepted flows (count_of old) (state_of now) item ≡ Some (state_of next) = subst (λ (n : ℕ). accepted flows n (state_of now) item ≡ Some (state_of next)) so_far.count is in
    let one : all_accepted flows (count_of old) (state_of now) (item ∷ rest) ≡ all_accepted flows (count_of old) (state_of next) rest =
    ap (option_and_then (λ p. all_accepted flows (count_of old) p rest)) here in
    record {
      same = sym one ∙ so_far.same;
      sound = sound;
      count = count ∙ so_far.count;
      position = position ∙ so_far.position;
      incarnation = incarnation ∙ so_far.incarnation;
      number = number ∙ so_far.number;
    }

pub one_refused : (flows : Flows) (old now : PartState) (all rest : List Item) (item : Item) → HasApplied flows old now all (item ∷ rest)
    → accepted flows (count_of now) (state_of now) item ≡ None → all_accepted flows (count_of old) (state_of old) all ≡ None
one_refused flows old now all rest item so_far is =
    let here : accepted flows (count_of old) (state_of now) item ≡ None = subst (λ (n : ℕ). accepted flows n (state_of now) item ≡ None) so_far.count is in
    let one : all_accepted flows (count_of old) (state_of now) (item ∷ rest) ≡ None = ap (option_and_then (λ p. all_accepted flows (count_of old) p rest)) here in
    sym so_far.same ∙ one

pub all_applied : (flows : Flows) (old now : PartState) (all : List Item) → HasApplied flows old now all [] → Makes (Some now) old (all_accepted flows (count_of old) (state_of old) all)
all_applied flows old now all so_far = (sym so_far.same, so_far.sound, so_far.count, so_far.position, so_far.incarnation, so_far.number)
