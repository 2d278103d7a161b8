-- Places that come and go.
use Rattle.std.proofs.Common.{◌≡◌, ◌∙◌, ◌==◌, ℕ, Bool, true, false, List, [], ◌∷◌, ◌++◌, drop, length, Option, Some, None, cond, refl, ap, sym, eqb-true, append-nil}
use Rattle.std.proofs.lemmas.Bool.{and_parts}
use Rattle.std.proofs.lemmas.List.{nil_from_length}
use Rattle.dura_value.specs.Ids.{Id, id_eq}
use Rattle.dura_value.specs.ById.{at_number}
use Rattle.dura_value.proofs.Ids.{id_same}
use Rattle.cell_waits.specs.Keys.{listed, is_same}

-- what is kept for an id and a number, of one that is the same
same_found : {X : Type 0} (f : Id → ℕ → X) (id other : Id) (number q : ℕ) → is_same id number other q ≡ true → f id number ≡ f other q
same_found f id other number q is =
    let parts = and_parts (id_eq id other) (number == q) is in
    ap (λ (i : Id). f i number) (id_same id other parts.0) ∙ ap (f other) (eqb-true number q parts.1)

pushed_by : (b : Bool) (kept : Option (List ℕ)) (was mine : Option (List ℕ)) (place : ℕ) → (b ≡ true → mine ≡ was) → listed kept ≡ listed mine ++ place ∷ []
    → listed (cond b kept (cond b None was)) ≡ listed was ++ cond b (place ∷ []) []
pushed_by true kept was mine place found is = is ∙ ap (λ (o : Option (List ℕ)). listed o ++ place ∷ []) (found refl)
pushed_by false kept was mine place found is = sym (append-nil (listed was))

-- one place more for an id and a number
pub place_pushed : (old mid new : Id → ℕ → Option (List ℕ)) (id : Id) (number place : ℕ) (kept : List ℕ) → mid ≡ at_number old id number None → new ≡ at_number mid id number (Some kept)
    → kept ≡ listed (old id number) ++ place ∷ [] → (other : Id) (q : ℕ) → listed (new other q) ≡ listed (old other q) ++ cond (is_same id number other q) (place ∷ []) []
place_pushed old mid new id number place kept taken put is other q =
    ap (λ f. listed (f other q)) put ∙ ap (λ f. listed (cond (is_same id number other q) (Some kept) (f other q))) taken
    ∙ pushed_by (is_same id number other q) (Some kept) (old other q) (old id number) place (same_found old id other number q) is

popped_by : (b : Bool) (kept : Option (List ℕ)) (was mine : Option (List ℕ)) → (b ≡ true → mine ≡ was) → listed kept ≡ drop 1 (listed mine)
    → listed (cond b kept (cond b None was)) ≡ drop (cond b 1 0) (listed was)
popped_by true kept was mine found is = is ∙ ap (λ (o : Option (List ℕ)). drop 1 (listed o)) (found refl)
popped_by false kept was mine found is = refl

-- the first place less for an id and a number
pub place_popped : (old mid new : Id → ℕ → Option (List ℕ)) (id : Id) (number : ℕ) (kept : List ℕ) → mid ≡ at_number old id number None → new ≡ at_number mid id number (Some kept)
    → kept ≡ drop 1 (listed (old id number)) → (other : Id) (q : ℕ) → listed (new other q) ≡ drop (cond (is_same id number other q) 1 0) (listed (old other q))
place_popped old mid new id number kept taken put is other q =
    ap (λ f. listed (f other q)) put ∙ ap (λ f. listed (cond (is_same id number other q) (Some kept) (f other q))) taken
    ∙ popped_by (is_same id number other q) (Some kept) (old other q) (old id number) (same_found old id other number q) is

gone_by : (b : Bool) (was mine : Option (List ℕ)) → (b ≡ true → mine ≡ was) → drop 1 (listed mine) ≡ [] → listed (cond b None was) ≡ drop (cond b 1 0) (listed was)
gone_by true was mine found is = sym is ∙ ap (λ (o : Option (List ℕ)). drop 1 (listed o)) (found refl)
gone_by false was mine found is = refl

-- the last place gone for an id and a number
pub place_gone : (old new : Id → ℕ → Option (List ℕ)) (id : Id) (number : ℕ) → new ≡ at_number old id number None → drop 1 (listed (old id number)) ≡ []
    → (other : Id) (q : ℕ) → listed (new other q) ≡ drop (cond (is_same id number other q) 1 0) (listed (old other q))
place_gone old new id number taken is other q =
    ap (λ f. listed (f other q)) taken ∙ gone_by (is_same id number other q) (old other q) (old id number) (same_found old id other number q) is

-- a line of no length is empty
pub emptied : (line : List ℕ) → (length line == 0) ≡ true → line ≡ []
emptied line is = nil_from_length line (eqb-true (length line) 0 is)
