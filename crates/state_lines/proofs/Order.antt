-- The order of ids is a total order.
use Rattle.std.proofs.Common.{◌≡◌, ◌∙◌, ◌⊎◌, inl, inr, Bool, true, false, Option, Some, None, refl, ap, sym}
use Rattle.std.specs.declared.cmp.Ordering.{Ordering}
use Rattle.std.specs.declared.cmp.Ordering.TheVariants.{Less, Equal, Greater}
use Rattle.std.specs.Ordering.{is_lt, is_le, is_eq, ordering_reverse}
use Rattle.std.proofs.lemmas.Cmp.{tied_itself, tied_back, alike_right}
use Rattle.dura_value.specs.contracts.addresses.IdOrd.TheImpl.Laws.{total-law}
use Rattle.dura_value.specs.Ids.{Id, orchestration, entity, client, id_eq}
use Rattle.dura_value.specs.Views.{id_of}
use Rattle.dura_value.proofs.Ids.{id_same}
use Rattle.shared_maps.specs.Ids.{id_cmp, key_of}
use Rattle.shared_maps.specs.IdOrder.{is_before, is_no_later, is_behind, IsNextBehind}
use Rattle.dura_value.specs.declared.addresses.Id.{Id as Given}
use Rattle.shared_maps.proofs.Ids.{is_key, key_again}

pub id_again : (id : Id) → id_of (key_of id) ≡ id
id_again (client name) = refl
id_again (entity class key) = refl
id_again (orchestration flow key) = refl

lt_is : (o : Ordering) → is_lt o ≡ true → o ≡ Less
lt_is Less is = refl
lt_is Equal is = absurd (cc is)
lt_is Greater is = absurd (cc is)

-- an id is not before itself
pub not_itself : (id : Id) → is_before id id ≡ true → ⊥
not_itself id is = let wrong : false ≡ true = sym (ap is_lt (tied_itself total-law (key_of id))) ∙ is in cc wrong

pub before_trans : (a b c : Id) → is_before a b ≡ true → is_before b c ≡ true → is_before a c ≡ true
before_trans a b c first second =
    ap is_lt (total-law.trans (key_of a) (key_of b) (key_of c) (lt_is (id_cmp (key_of a) (key_of b)) first) (lt_is (id_cmp (key_of b) (key_of c)) second))

-- what is behind a later id is behind an earlier one
pub behind_more : (last : Option Id) (id other : Id) → is_behind last id ≡ true → is_before id other ≡ true → is_behind last other ≡ true
behind_more None id other behind before = refl
behind_more (Some last) id other behind before = before_trans last id other behind before

tied : (o : Ordering) → is_le o ≡ true → is_le (ordering_reverse o) ≡ true → is_eq o ≡ true
tied Less first second = absurd (cc second)
tied Equal first second = refl
tied Greater first second = absurd (cc first)

-- of two ids that are no later than one another there is one
pub one_id : (a b : Id) → is_no_later a b ≡ true → is_no_later b a ≡ true → a ≡ b
one_id a b first second =
    let back : id_cmp (key_of b) (key_of a) ≡ ordering_reverse (id_cmp (key_of a) (key_of b)) = total-law.antisymm (key_of b) (key_of a) in
    let same : is_eq (id_cmp (key_of a) (key_of b)) ≡ true = tied (id_cmp (key_of a) (key_of b)) first (sym (ap is_le back) ∙ second) in
    id_same a b (sym (ap (λ (i : Id). id_eq i b) (id_again a)) ∙ sym (is_key (key_of a) b) ∙ same)

-- there is one next id
pub one_next : (there : Id → Bool) (last : Option Id) (a b : Id) → IsNextBehind there last a → IsNextBehind there last b → a ≡ b
one_next there last a b first second = one_id a b (first.first b second.found second.behind) (second.first a first.found first.behind)

pub no_later_itself : (id : Id) → is_no_later id id ≡ true
no_later_itself id = ap is_le (tied_itself total-law (key_of id))

le_trans : (a b c : Id) (o : Ordering) → id_cmp (key_of a) (key_of b) ≡ o → is_le o ≡ true → (p : Ordering) → id_cmp (key_of b) (key_of c) ≡ p → is_le p ≡ true → is_no_later a c ≡ true
le_trans a b c Less first low Less second high = ap is_le (total-law.trans (key_of a) (key_of b) (key_of c) first second)
le_trans a b c Less first low Equal second high = ap is_le (sym (alike_right total-law (key_of b) (key_of c) (key_of a) second) ∙ first)
le_trans a b c Less first low Greater second high = absurd (cc high)
le_trans a b c Equal first low p second high = ap is_le (total-law.congr (key_of a) (key_of b) (key_of c) first ∙ second) ∙ high
le_trans a b c Greater first low p second high = absurd (cc low)

pub no_later_trans : (a b c : Id) → is_no_later a b ≡ true → is_no_later b c ≡ true → is_no_later a c ≡ true
no_later_trans a b c first second = le_trans a b c (id_cmp (key_of a) (key_of b)) refl first (id_cmp (key_of b) (key_of c)) refl second

by_order : (a b : Id) (o : Ordering) → id_cmp (key_of a) (key_of b) ≡ o → is_le o ≡ true → (a ≡ b) ⊎ (is_before a b ≡ true)
by_order a b Less is low = inr (ap is_lt is)
by_order a b Equal is low = inl (one_id a b (ap is_le is) (ap is_le (tied_back total-law (key_of a) (key_of b) is)))
by_order a b Greater is low = absurd (cc low)

-- an id that is no later than another is that one or before it
pub same_or_before : (a b : Id) → is_no_later a b ≡ true → (a ≡ b) ⊎ (is_before a b ≡ true)
same_or_before a b low = by_order a b (id_cmp (key_of a) (key_of b)) refl low

le_by_lt : (o : Ordering) → is_lt o ≡ true → is_le o ≡ true
le_by_lt Less is = refl
le_by_lt Equal is = absurd (cc is)
le_by_lt Greater is = absurd (cc is)

back_by_lt : (o : Ordering) → is_lt o ≡ false → is_le (ordering_reverse o) ≡ true
back_by_lt Less is = absurd (cc is)
back_by_lt Equal is = refl
back_by_lt Greater is = refl

-- an id that is before another is no later
pub before_no_later : (a b : Id) → is_before a b ≡ true → is_no_later a b ≡ true
before_no_later a b is = le_by_lt (id_cmp (key_of a) (key_of b)) is

-- where an id isn't before another that one is no later
pub not_before : (a b : Id) → is_before a b ≡ false → is_no_later b a ≡ true
not_before a b is = ap is_le (total-law.antisymm (key_of b) (key_of a)) ∙ back_by_lt (id_cmp (key_of a) (key_of b)) is

-- the order of ids is that of their keys
pub before_as_keys : (a b : Given) → is_before (id_of a) (id_of b) ≡ is_lt (id_cmp a b)
before_as_keys a b = ap (λ (k : Given). is_lt (id_cmp k (key_of (id_of b)))) (key_again a) ∙ ap (λ (k : Given). is_lt (id_cmp a k)) (key_again b)
