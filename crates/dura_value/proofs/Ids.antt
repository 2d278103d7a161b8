-- When two ids are the same, as plain data and as values.
use Rattle.std.proofs.Common.{◌≡◌, ◌&&◌, ℕ, Bool, true, false, List, refl, ap, ◌∙◌}
use Rattle.std.specs.Str.{bytes_eq}
use Rattle.std.specs.Cmp.Lexicographic.{nat_list_eq_equiv}
use Rattle.std.proofs.lemmas.Slice.Eq.{bytes_eq-Decides}
use Rattle.dura_value.specs.Ids.{Id, orchestration, entity, client, id_eq}
use Rattle.dura_value.specs.declared.addresses.Id.{Id as Address}
use Rattle.dura_value.specs.declared.addresses.Id.TheVariants.{Client, Entity, Flow}
use Rattle.dura_value.specs.contracts.addresses.IdPartialEq.TheImpl as derived
use Rattle.dura_value.specs.Views.{id_of}
use Rattle.std.proofs.lemmas.Bool.{and_parts}

pub and_true : (a b : Bool) → a ≡ true → b ≡ true → a && b ≡ true
and_true true b first second = second
and_true false b first second = absurd (cc first)

pub same_bytes : (a b : List ℕ) → bytes_eq a b ≡ true → a ≡ b
same_bytes a b = (bytes_eq-Decides a b).0

pub bytes_turned : (a b : List ℕ) → bytes_eq a b ≡ bytes_eq b a
bytes_turned a b = nat_list_eq_equiv.symm a b

pub bytes_self : (a : List ℕ) → bytes_eq a a ≡ true
bytes_self a = (bytes_eq-Decides a a).1 refl

pub id_same : (a b : Id) → id_eq a b ≡ true → a ≡ b
id_same (orchestration flow key) (orchestration other_flow other_key) is =
    let parts = and_parts (bytes_eq flow other_flow) (bytes_eq key other_key) is in
    ap (λ (f : List ℕ). orchestration f key) (same_bytes flow other_flow parts.0) ∙ ap (orchestration other_flow) (same_bytes key other_key parts.1)
id_same (entity class key) (entity other_class other_key) is =
    let parts = and_parts (bytes_eq class other_class) (bytes_eq key other_key) is in
    ap (λ (f : List ℕ). entity f key) (same_bytes class other_class parts.0) ∙ ap (entity other_class) (same_bytes key other_key parts.1)
id_same (client name) (client other) is = ap client (same_bytes name other is)
id_same (orchestration flow key) (entity class other) is = absurd (cc is)
id_same (orchestration flow key) (client name) is = absurd (cc is)
id_same (entity class key) (orchestration flow other) is = absurd (cc is)
id_same (entity class key) (client name) is = absurd (cc is)
id_same (client name) (orchestration flow key) is = absurd (cc is)
id_same (client name) (entity class key) is = absurd (cc is)

pub id_self : (a : Id) → id_eq a a ≡ true
id_self (orchestration flow key) = and_true (bytes_eq flow flow) (bytes_eq key key) (bytes_self flow) (bytes_self key)
id_self (entity class key) = and_true (bytes_eq class class) (bytes_eq key key) (bytes_self class) (bytes_self key)
id_self (client name) = bytes_self name

-- values are compared as their plain data
pub derived_id_eq : (a b : Address) → (derived.ghosts).eq a b ≡ id_eq (id_of a) (id_of b)
derived_id_eq (Client name) (Client other) = refl
derived_id_eq (Entity class key) (Entity other_class other_key) = refl
derived_id_eq (Flow flow key) (Flow other_flow other_key) = refl
derived_id_eq a b = refl
