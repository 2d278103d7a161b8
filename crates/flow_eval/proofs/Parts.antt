-- The scalars of a list by their places.
use Rattle.std.proofs.Common.{◌≡◌, ◌<◌, ◌≤◌, ◌+◌, ◌∙◌, ℕ, zero, suc, List, [], ◌∷◌, ◌++◌, length, get_or, drop, codes, Result, Ok, Err, refl, ap, sym, arith, append_assoc}
use Rattle.std.proofs.lemmas.List.{drop_more}
use Rattle.dura_value.specs.declared.data.Scalar.{Scalar}
use Rattle.dura_value.specs.declared.data.Value.{Value}
use Rattle.dura_value.specs.Values.{value_of}
use Rattle.flow_syntax.specs.Eval.{scalar_at}

pub scalar_there : (parts : List Scalar) (i : ℕ) (s : Scalar) → i < length parts → s ≡ get_or parts i s → scalar_at parts i ≡ Ok (value_of s)
scalar_there [] i s here is = absurd (omega arith)
scalar_there (one ∷ more) zero s here is = let third : Scalar → Result Value (List ℕ) = λ x. Ok (value_of x) in ap third (sym is)
scalar_there (one ∷ more) (suc i) s here is = scalar_there more i s (omega arith) is

pub no_scalar : (parts : List Scalar) (i : ℕ) → length parts ≤ i → scalar_at parts i ≡ Err (codes "range")
no_scalar [] i past = refl
no_scalar (one ∷ more) zero past = absurd (omega arith)
no_scalar (one ∷ more) (suc i) past = no_scalar more i (omega arith)

pub one_copied : (copies parts : List Scalar) (i : ℕ) (s : Scalar) → copies ++ drop i parts ≡ parts → i < length parts → s ≡ get_or parts i s → (copies ++ s ∷ []) ++ drop (i + 1) parts ≡ parts
one_copied copies parts i s so_far here is =
    append_assoc copies (s ∷ []) (drop (i + 1) parts)
    ∙ ap (λ (l : List Scalar). copies ++ l) (sym (drop_more parts i s here ∙ ap (λ (h : Scalar). h ∷ drop (i + 1) parts) (sym is)))
    ∙ so_far
