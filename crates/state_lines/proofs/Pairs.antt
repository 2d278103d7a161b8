-- The tables of two partitions.
use Rattle.std.proofs.Common.{◌≡◌, ◌∙◌, ◌⊎◌, inl, inr, ℕ, zero, suc, Bool, true, false, [], ◌∷◌, ◌++◌, codes, Option, Some, is_some, cond, refl, sym}
use Rattle.std.specs.Fmt.{digits}
use Rattle.dura_model.specs.Partition.{Partition, fresh, instance_in}
use Rattle.dura_value.specs.ById.{at_id}
use Rattle.dura_value.specs.Ids.{Id, id_eq, home}
use Rattle.dura_value.proofs.Ids.{id_same}
use Rattle.state_lines.specs.Examples.{accounts, account, account_b, account_c, sum, ninety, begun, one_entity, both_of, two_and_one, one_and_none, later_first}
use Rattle.state_lines.specs.Table.{has_entity, has_instance, IsTable}
use Rattle.state_lines.proofs.Few.{no_id, only_there}
use Rattle.state_lines.proofs.Kept.{seen_there}
use Rattle.state_lines.proofs.Rising.{IsOneOf, all_rising}

this_or_rest : {X : Type 0} (id other : Id) (x : X) (rest : Option X) (b : Bool) → id_eq id other ≡ b → is_some (cond b (Some x) rest) ≡ true → (other ≡ id) ⊎ (is_some rest ≡ true)
this_or_rest id other x rest true same found = inl (sym (id_same id other same))
this_or_rest id other x rest false same found = inr found

-- what the partition at a place keeps is kept by one of the two
module _ (first second : Partition) (P : Type 0) where
  entity_of_two : (place : ℕ) (other : Id) → (is_some (first.entities other) ≡ true → P) → (is_some (second.entities other) ≡ true → P) → is_some ((both_of first second place).entities other) ≡ true → P
  entity_of_two zero other here there found = here found
  entity_of_two (suc place) other here there found = there found

  instance_of_two : (place : ℕ) (other : Id) → (is_some (first.instances other) ≡ true → P) → (is_some (second.instances other) ≡ true → P) → is_some ((both_of first second place).instances other) ≡ true → P
  instance_of_two zero other here there found = here found
  instance_of_two (suc place) other here there found = there found

nowhere : {P : Type 0} → false ≡ true → P
nowhere wrong = absurd (cc wrong)

-- ---- A and C in the first, B in the second

abbrev with_c : Partition
with_c = record one_entity { entities = at_id one_entity.entities account_c (Some ninety) }

abbrev only_b : Partition
only_b = record (fresh 1) { entities = at_id (fresh 1).entities account_b (Some ninety) }

two_entities : (other : Id) → has_entity two_and_one other ≡ true → IsOneOf (account ∷ account_b ∷ account_c ∷ []) other
two_entities other found = entity_of_two with_c only_b (IsOneOf (account ∷ account_b ∷ account_c ∷ []) other) (home 2 other) other
    (λ here. elim (this_or_rest account_c other ninety (one_entity.entities other) (id_eq account_c other) refl here) [
      | inl c ↦ inr (inr (inl c))
      | inr a ↦ inl (only_there account ninety other a)
    ])
    (λ there. inr (inl (only_there account_b ninety other there)))
    found

two_instances : (other : Id) → has_instance two_and_one other ≡ true → ⊥
two_instances other found = instance_of_two with_c only_b ⊥ (home 2 other) other nowhere nowhere (sym (seen_there (instance_in accounts other) ((both_of with_c only_b (home 2 other)).instances other)) ∙ found)

pub table_of_two : IsTable accounts two_and_one (codes "@Account/A value 90" ++ 10 ∷ codes "@Account/B value 90" ++ 10 ∷ codes "@Account/C value 90" ++ 10 ∷ [])
unfolding digits
table_of_two = record {
  entities = account ∷ account_b ∷ account_c ∷ [];
  instances = [];
  all_entities = all_rising (has_entity two_and_one) (account ∷ account_b ∷ account_c ∷ []) (refl, refl, (refl, refl, (refl, refl, tt))) two_entities;
  all_instances = no_id (has_instance two_and_one) two_instances;
  lines = refl;
}

-- ---- A in the first, nothing in the second

one_entities : (other : Id) → has_entity one_and_none other ≡ true → IsOneOf (account ∷ []) other
one_entities other found = entity_of_two one_entity (fresh 1) (IsOneOf (account ∷ []) other) (home 2 other) other (λ here. inl (only_there account ninety other here)) nowhere found

one_instances : (other : Id) → has_instance one_and_none other ≡ true → ⊥
one_instances other found = instance_of_two one_entity (fresh 1) ⊥ (home 2 other) other nowhere nowhere (sym (seen_there (instance_in accounts other) ((both_of one_entity (fresh 1) (home 2 other)).instances other)) ∙ found)

pub table_with_none : IsTable accounts one_and_none (codes "@Account/A value 90" ++ 10 ∷ [])
unfolding digits
table_with_none = record {
  entities = account ∷ [];
  instances = [];
  all_entities = all_rising (has_entity one_and_none) (account ∷ []) (refl, refl, tt) one_entities;
  all_instances = no_id (has_instance one_and_none) one_instances;
  lines = refl;
}

-- ---- C in the first, B and an instance in the second

abbrev only_c : Partition
only_c = record (fresh 0) { entities = at_id (fresh 0).entities account_c (Some ninety) }

abbrev b_and_sum : Partition
b_and_sum = record (fresh 1) { entities = at_id (fresh 1).entities account_b (Some ninety); instances = at_id (fresh 1).instances sum (Some begun) }

later_entities : (other : Id) → has_entity later_first other ≡ true → IsOneOf (account_b ∷ account_c ∷ []) other
later_entities other found = entity_of_two only_c b_and_sum (IsOneOf (account_b ∷ account_c ∷ []) other) (home 2 other) other
    (λ here. inr (inl (only_there account_c ninety other here))) (λ there. inl (only_there account_b ninety other there)) found

later_instances : (other : Id) → has_instance later_first other ≡ true → IsOneOf (sum ∷ []) other
later_instances other found = instance_of_two only_c b_and_sum (IsOneOf (sum ∷ []) other) (home 2 other) other nowhere
    (λ there. inl (only_there sum begun other there)) (sym (seen_there (instance_in accounts other) ((both_of only_c b_and_sum (home 2 other)).instances other)) ∙ found)

pub table_of_later : IsTable accounts later_first (codes "@Account/B value 90" ++ 10 ∷ codes "@Account/C value 90" ++ 10 ∷ codes "Sum/x running" ++ 10 ∷ [])
unfolding digits
table_of_later = record {
  entities = account_b ∷ account_c ∷ [];
  instances = sum ∷ [];
  all_entities = all_rising (has_entity later_first) (account_b ∷ account_c ∷ []) (refl, refl, (refl, refl, tt)) later_entities;
  all_instances = all_rising (has_instance later_first) (sum ∷ []) (refl, refl, tt) later_instances;
  lines = refl;
}
