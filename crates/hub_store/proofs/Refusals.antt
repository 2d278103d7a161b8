-- What follows on an answer.
use Rattle.std.proofs.Common.{◌≡◌, Result, Ok, Err, ap}
use Rattle.std.specs.Prelude.{IsErrAnd, OnOk, OnErr}

-- ---- answers

-- what follows on an answer
pub on_ok : {T E A B : Type 0} (r : Result T E) → (A → B) → OnOk r A → OnOk r B
on_ok (Ok x) then has = then has
on_ok (Err e) then has = tt

pub on_err : {T E A B : Type 0} (r : Result T E) → (A → B) → OnErr r A → OnErr r B
on_err (Ok x) then has = tt
on_err (Err e) then has = then has

-- ---- the answer of a `?`

pub residual_is : {T E : Type 0} (r : Result T E) (error : E) → IsErrAnd r (λ y. y ≡ error) → r ≡ Err error
residual_is (Ok x) error has = absurd has
residual_is {E = E} (Err y) error has = ap (λ (e : E). Err e) has

pub residual_on_ok : {T E : Type 0} (A : Type 0) (r : Result T E) (error : E) → IsErrAnd r (λ y. y ≡ error) → OnOk r A
residual_on_ok A (Ok x) error has = absurd has
residual_on_ok A (Err y) error has = tt

pub residual_on_err : {T E : Type 0} (A : Type 0) (r : Result T E) → A → OnErr r A
residual_on_err A (Ok x) has = tt
residual_on_err A (Err y) has = has
