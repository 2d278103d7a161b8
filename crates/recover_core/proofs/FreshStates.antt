-- The states of all partitions in which nothing happened.
use Rattle.std.proofs.Common.{◌≡◌, ◌∙◌, inl, inr, ℕ, ◌<◌, List, length, get_or, Some, sym, ap, subst, arith}
use Rattle.std.specs.List.{slice_get}
use Rattle.std.proofs.lemmas.Option.{slice_get-get_or, slice_get_cases}
use Rattle.dura_model.specs.Partition.{Partition, fresh}
use Rattle.part_steps.specs.declared.state.PartState.{PartState}
use Rattle.part_steps.specs.States.{IsSound, IsStateOf, AreStatesOfAll, state_of, count_of, parts_in}
use Rattle.recover_core.proofs.States.{part_at, part_past}

-- the state of one of so many partitions, in which nothing happened
abbrev pub IsFresh : (count place : ℕ) → PartState → Type 0
IsFresh count place s = IsStateOf count place s × (state_of s ≡ fresh place)

pub is_fresh : (count place : ℕ) (s : PartState) → state_of s ≡ fresh place → count_of s ≡ count → IsSound s → IsFresh count place s
is_fresh count place s is among sound = (record { sound = sound; among = among; number = ap (λ (p : Partition). p.number) is }, is)

module _ (count : ℕ) (states : List PartState) (many : length states ≡ count) (each : (place : ℕ) (s : PartState) → slice_get states place ≡ Some s → IsFresh count place s) where
  pub all_fresh : 0 < count → AreStatesOfAll states
  all_fresh some = record {
    some = omega (arith, some, many);
    each = λ place d low. subst (λ (n : ℕ). IsStateOf n place (get_or states place d)) (sym many) (each place (get_or states place d) (slice_get-get_or states place d low)).0;
  }

  at_fresh : (place : ℕ) → parts_in states place ≡ fresh place
  at_fresh place = elim (slice_get_cases states place).1 [
    | inl there ↦ part_at states place there.0 there.1 ∙ ap state_of there.3 ∙ (each place there.0 there.2).1
    | inr past ↦ part_past states place past.0
  ]

  pub parts_fresh : parts_in states ≡ fresh
  parts_fresh = λ t place. at_fresh place t
