-- Which tasks are out after one of them changed.
use Rattle.std.proofs.Common.{◌≡◌, ◌∙◌, ℕ, ◌==◌, ◌&&◌, Bool, true, false, Option, Result, Ok, Err, OnErr, is_some, if◌then◌else◌, refl, ap}
use Rattle.dura_value.specs.ById.{at_number}
use Rattle.dura_value.specs.Ids.{Id, id_eq}

some_by : {X : Type 0} (b : Bool) (x y : Option X) → is_some (if b then x else y) ≡ (if b then is_some x else is_some y)
some_by true x y = refl
some_by false x y = refl

-- at one task this, elsewhere as before
pub changed : {X : Type 0} (old new : Id → ℕ → Option X) (id : Id) (task : ℕ) (now : Option X) → new ≡ at_number old id task now → (λ i n. is_some (new i n)) ≡ at_number (λ i n. is_some (old i n)) id task (is_some now)
changed old new id task now is = λ j other n. (ap (λ f. is_some (f other n)) is ∙ some_by (id_eq id other && task == n) now (old other n)) j

pub on_err : {T E P : Type 0} (result : Result T E) → P → OnErr result P
on_err (Ok x) is = tt
on_err (Err e) is = is
