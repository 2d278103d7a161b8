-- A list is copied one after the other.
use Rattle.std.proofs.Common.{◌≡◌, ◌<◌, ◌+◌, ◌∙◌, ℕ, List, [], ◌∷◌, ◌++◌, length, get_or, drop, ap, sym, append_assoc}
use Rattle.std.proofs.lemmas.List.{drop_more}

first_copied : {X : Type 0} (copies left later all : List X) (one copy : X) → left ≡ one ∷ later → copy ≡ one → copies ++ left ≡ all → (copies ++ copy ∷ []) ++ later ≡ all
first_copied {X} copies left later all one copy is same so_far =
    append_assoc copies (copy ∷ []) later ∙ ap (λ (c : X). copies ++ c ∷ later) same ∙ ap (λ (l : List X). copies ++ l) (sym is) ∙ so_far

-- one more is copied
pub one_copied : {X : Type 0} (copies all : List X) (i : ℕ) (one copy : X) → i < length all → one ≡ get_or all i one → copy ≡ one → copies ++ drop i all ≡ all → (copies ++ copy ∷ []) ++ drop (i + 1) all ≡ all
one_copied {X} copies all i one copy here is same so_far =
    first_copied copies (drop i all) (drop (i + 1) all) all one copy (drop_more all i one here ∙ ap (λ (x : X). x ∷ drop (i + 1) all) (sym is)) same so_far
