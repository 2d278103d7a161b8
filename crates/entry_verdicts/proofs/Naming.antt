-- What items name, one item after another.
use Rattle.std.proofs.Common.{◌≡◌, ◌∙◌, List, [], ◌∷◌, ◌++◌, get_or, Option, Some, None, option_map, option_to_list, refl, sym, ap, subst, append_assoc, arith}
use Rattle.std.specs.List.{All, Contains}
use Rattle.std.proofs.lemmas.List.{get_or_default}
use Rattle.std.proofs.lemmas.List.Elements.{All-append, All-cons, All-nil, All-contains, Contains-append_right, Contains-append_left}
use Rattle.dura_value.specs.Items.{Identity, Item, took, got, ran, ended, fired, trim}
use Rattle.dura_value.specs.Dependencies.{named_by}
use Rattle.spec_tracker.specs.Marks.{identity_of}
use Rattle.spec_tracker.specs.declared.marks.Dep.{Dep}

-- what the first item names, and what those behind it do
named_cons : (item : Item) (rest : List Item) → named_by (item ∷ rest) ≡ named_by (item ∷ []) ++ named_by rest
named_cons (took message) rest = refl
named_cons (got source number message) rest = refl
named_cons (ran from to stamp) rest = refl
named_cons (ended id task outcome) rest = refl
named_cons (fired id task stamp) rest = refl
named_cons (trim reader number) rest = refl

-- These items are left, and all that those before them name is so.
pub record HasPassed (P : Identity → Type 0) (all rest : List Item) : Type 0 where
  pub front : List Identity
  pub is : named_by all ≡ front ++ named_by rest
  pub passed : All P front

-- one more has passed
pub one_passed : (P : Identity → Type 0) (all rest : List Item) (item : Item) → HasPassed P all (item ∷ rest) → All P (named_by (item ∷ [])) → HasPassed P all rest
one_passed P all rest item so_far one = record {
  front = so_far.front ++ named_by (item ∷ []);
  is = so_far.is ∙ ap (λ (l : List Identity). so_far.front ++ l) (named_cons item rest) ∙ sym (append_assoc so_far.front (named_by (item ∷ [])) (named_by rest));
  passed = All-append P so_far.front (named_by (item ∷ [])) so_far.passed one;
}

-- what the next item names is among what all name
pub is_named : (P : Identity → Type 0) (all rest : List Item) (item : Item) (e : Identity) → HasPassed P all (item ∷ rest) → Contains (named_by (item ∷ [])) e → Contains (named_by all) e
is_named P all rest item e so_far first =
    subst (λ (l : List Identity). Contains l e) (sym (so_far.is ∙ ap (λ (l : List Identity). so_far.front ++ l) (named_cons item rest)))
    (Contains-append_right so_far.front (named_by (item ∷ []) ++ named_by rest) e (Contains-append_left (named_by (item ∷ [])) (named_by rest) e first))

-- where all that is named is so, what the next item names is
pub next_so : (P : Identity → Type 0) (all rest : List Item) (item : Item) → HasPassed P all (item ∷ rest) → All P (named_by all) → All P (named_by (item ∷ []))
next_so P all rest item so_far each = pointwise (named_by (item ∷ [])) (λ e inside. All-contains P (named_by all) e each (is_named P all rest item e so_far inside))
  where
    pointwise : (l : List Identity) → ((e : Identity) → Contains l e → P e) → All P l
    pointwise l each k d inside = each (get_or l k d) (k, inside, get_or_default l k (get_or l k d) d inside)

-- ---- what is found of one item

-- an item that names nothing passes, and so does one that names what is so
pub names_nothing : (P : Identity → Type 0) (item : Item) (found : Option Dep) → named_by (item ∷ []) ≡ option_to_list (option_map identity_of found) → found ≡ None → All P (named_by (item ∷ []))
names_nothing P item found is none = subst (All P) (sym (is ∙ ap (λ (o : Option Dep). option_to_list (option_map identity_of o)) none)) (All-nil P)

pub names_one : (P : Identity → Type 0) (item : Item) (found : Option Dep) (dep : Dep) → named_by (item ∷ []) ≡ option_to_list (option_map identity_of found) → found ≡ Some dep → P (identity_of dep) → All P (named_by (item ∷ []))
names_one P item found dep is some so =
    subst (All P) (sym (is ∙ ap (λ (o : Option Dep). option_to_list (option_map identity_of o)) some)) (All-cons P (identity_of dep) [] so (All-nil P))

-- what is found is what it names
pub found_in : (item : Item) (found : Option Dep) (dep : Dep) → named_by (item ∷ []) ≡ option_to_list (option_map identity_of found) → found ≡ Some dep → Contains (named_by (item ∷ [])) (identity_of dep)
found_in item found dep is some =
    let here : named_by (item ∷ []) ≡ identity_of dep ∷ [] = is ∙ ap (λ (o : Option Dep). option_to_list (option_map identity_of o)) some in
    let first : Contains (identity_of dep ∷ []) (identity_of dep) = (0, omega arith, refl) in
    subst (λ (l : List Identity). Contains l (identity_of dep)) (sym here) first
