-- Lists of no id and of one, and the tables of the examples.
use Rattle.std.proofs.Common.{◌≡◌, ◌∙◌, Bool, true, false, [], ◌∷◌, ◌++◌, codes, Some, None, is_some, cond, refl, sym, subst}
use Rattle.std.specs.Fmt.{digits}
use Rattle.dura_model.specs.Entries.{shown_by}
use Rattle.dura_model.specs.Partition.{fresh, instance_in}
use Rattle.dura_value.specs.ById.{at_id}
use Rattle.dura_value.specs.Ids.{Id, id_eq}
use Rattle.dura_value.proofs.Ids.{id_same}
use Rattle.flow_syntax.specs.Syntax.{Flows}
use Rattle.shared_maps.specs.IdOrder.{is_before, is_no_later}
use Rattle.state_lines.specs.Examples.{accounts, no_flows, account, sum, ninety, begun, one_entity, both_kinds}
use Rattle.state_lines.specs.Table.{AreAll, has_entity, has_instance, IsTable}
use Rattle.state_lines.proofs.Kept.{seen_there}
use Rattle.state_lines.proofs.Order.{not_itself, no_later_itself}

pub no_id : (there : Id → Bool) → ((id : Id) → there id ≡ true → ⊥) → AreAll there []
no_id there none = record { next = tt; end = λ id found behind. none id found }

one_id : (there : Id → Bool) (id : Id) → there id ≡ true → ((other : Id) → there other ≡ true → other ≡ id) → AreAll there (id ∷ [])
one_id there id found only = record {
  next = (record { found = found; behind = refl; first = λ other here after. subst (λ (i : Id). is_no_later id i ≡ true) (sym (only other here)) (no_later_itself id) }, tt);
  end = λ other here before. not_itself id (subst (λ (i : Id). is_before id i ≡ true) (only other here) before);
}

by_same : {X : Type 0} (id other : Id) (x : X) (b : Bool) → id_eq id other ≡ b → is_some (cond b (Some x) None) ≡ true → other ≡ id
by_same id other x true same found = sym (id_same id other same)
by_same id other x false same found = absurd (cc found)

pub only_there : {X : Type 0} (id : Id) (x : X) (other : Id) → is_some (at_id (λ (i : Id). None) id (Some x) other) ≡ true → other ≡ id
only_there id x other found = by_same id other x (id_eq id other) refl found

pub empty_table : (flows : Flows) → IsTable flows (shown_by flows (fresh 0)) []
empty_table flows = record {
  entities = [];
  instances = [];
  all_entities = no_id (has_entity (shown_by flows (fresh 0))) (λ id found. cc found);
  all_instances = no_id (has_instance (shown_by flows (fresh 0))) (λ id found. cc found);
  lines = refl;
}

pub entity_table : IsTable accounts (shown_by accounts one_entity) (codes "@Account/A value 90" ++ 10 ∷ [])
unfolding digits
entity_table = record {
  entities = account ∷ [];
  instances = [];
  all_entities = one_id (has_entity (shown_by accounts one_entity)) account refl (only_there account ninety);
  all_instances = no_id (has_instance (shown_by accounts one_entity)) (λ id found. cc found);
  lines = refl;
}

pub classless_table : IsTable no_flows (shown_by no_flows one_entity) (codes "@Account/A none" ++ 10 ∷ [])
classless_table = record {
  entities = account ∷ [];
  instances = [];
  all_entities = one_id (has_entity (shown_by no_flows one_entity)) account refl (only_there account ninety);
  all_instances = no_id (has_instance (shown_by no_flows one_entity)) (λ id found. cc found);
  lines = refl;
}

pub table_of_both : IsTable accounts (shown_by accounts both_kinds) (codes "@Account/A value 90" ++ 10 ∷ codes "Sum/x running" ++ 10 ∷ [])
unfolding digits
table_of_both = record {
  entities = account ∷ [];
  instances = sum ∷ [];
  all_entities = one_id (has_entity (shown_by accounts both_kinds)) account refl (only_there account ninety);
  all_instances = one_id (has_instance (shown_by accounts both_kinds)) sum refl (λ other there. only_there sum begun other (sym (seen_there (instance_in accounts other) (both_kinds.instances other)) ∙ there));
  lines = refl;
}
