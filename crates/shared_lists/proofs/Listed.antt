-- A list that is gone through, seen through a view.
use Rattle.std.proofs.Common.{◌≡◌, ◌<◌, ◌+◌, ◌∙◌, ℕ, List, [], ◌∷◌, ◌++◌, length, get_or, drop, map, ap, sym, append_assoc}
use Rattle.std.proofs.lemmas.List.{drop_more, map-append}

-- one more is seen
pub one_seen : {A X : Type 0} (f : A → X) (done whole : List X) (all : List A) (i : ℕ) (one : A) (x : X) → i < length all → one ≡ get_or all i one → x ≡ f one
    → done ++ map f (drop i all) ≡ whole → (done ++ x ∷ []) ++ map f (drop (i + 1) all) ≡ whole
one_seen {A} {X} f done whole all i one x here is seen so_far =
    append_assoc done (x ∷ []) (map f (drop (i + 1) all))
    ∙ ap (λ (y : X). done ++ y ∷ map f (drop (i + 1) all)) seen
    ∙ ap (λ (l : List A). done ++ map f l) (sym (drop_more all i one here ∙ ap (λ (a : A). a ∷ drop (i + 1) all) (sym is)))
    ∙ so_far

-- one more is seen of those that are seen through the same view
pub one_copied : {A X : Type 0} (f : A → X) (copies : List A) (whole : List X) (all : List A) (i : ℕ) (one copy : A) → i < length all → one ≡ get_or all i one → f copy ≡ f one
    → map f copies ++ map f (drop i all) ≡ whole → map f (copies ++ copy ∷ []) ++ map f (drop (i + 1) all) ≡ whole
one_copied {A} {X} f copies whole all i one copy here is seen so_far =
    ap (λ (l : List X). l ++ map f (drop (i + 1) all)) (map-append f copies (copy ∷ []))
    ∙ one_seen f (map f copies) whole all i one (f copy) here is seen so_far
