-- The order of ids tells them apart.
use Rattle.std.proofs.Common.{true, ◌≡◌, ◌&&◌, ◌∙◌, ℕ, List, refl, ap, sym}
use Rattle.std.specs.Cmp.{both_tied}
use Rattle.std.specs.Ordering.{is_eq, nat_cmp, ordering_then}
use Rattle.std.specs.Cmp.Lexicographic.{slice_cmp}
use Rattle.std.specs.Str.{bytes_eq}
use Rattle.std.proofs.lemmas.Map.Text.{is_eq-slice_cmp}
use Rattle.dura_value.specs.declared.addresses.Id.{Id}
use Rattle.dura_value.specs.declared.addresses.Id.TheVariants.{Client, Entity, Flow}
use Rattle.dura_value.specs.Ids as plain
use Rattle.dura_value.specs.Views.{id_of}
use Rattle.dura_value.proofs.Ids.{id_same}
use Rattle.shared_trees.specs.Ids.{id_cmp, key_of}

pair_same : (a b c d : List ℕ) → is_eq (ordering_then (slice_cmp nat_cmp a b) (slice_cmp nat_cmp c d)) ≡ bytes_eq a b && bytes_eq c d
pair_same a b c d = sym (both_tied (bytes_eq a b) (bytes_eq c d) (slice_cmp nat_cmp a b) (slice_cmp nat_cmp c d) (sym (is_eq-slice_cmp a b)) (sym (is_eq-slice_cmp c d)))

pub key_again : (k : Id) → key_of (id_of k) ≡ k
key_again (Client name) = refl
key_again (Entity class key) = refl
key_again (Flow flow key) = refl

pub plain_again : (id : plain.Id) → id_of (key_of id) ≡ id
plain_again (plain.client name) = refl
plain_again (plain.entity class key) = refl
plain_again (plain.orchestration flow key) = refl

pub is_key : (k : Id) (id : plain.Id) → is_eq (id_cmp k (key_of id)) ≡ plain.id_eq (id_of k) id
is_key (Client name) (plain.client other) = is_eq-slice_cmp name other
is_key (Client name) (plain.entity class key) = refl
is_key (Client name) (plain.orchestration flow key) = refl
is_key (Entity class key) (plain.client other) = refl
is_key (Entity class key) (plain.entity other_class other_key) = pair_same class other_class key other_key
is_key (Entity class key) (plain.orchestration flow other) = refl
is_key (Flow flow key) (plain.client other) = refl
is_key (Flow flow key) (plain.entity class other) = refl
is_key (Flow flow key) (plain.orchestration other_flow other_key) = pair_same flow other_flow key other_key

-- ids that compare alike are one
pub same_id : (a b : Id) → is_eq (id_cmp a b) ≡ true → a ≡ b
same_id a b is = sym (key_again a) ∙ ap key_of (id_same (id_of a) (id_of b) (sym (is_key a (id_of b)) ∙ ap (λ (k : Id). is_eq (id_cmp a k)) (key_again b) ∙ is)) ∙ key_again b
