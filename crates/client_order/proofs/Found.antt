-- What a walk has found.
use Rattle.std.proofs.Common.{◌≡◌, ◌∙◌, ℕ, ◌<◌, List, length, get_or, map, Option, Some, None, refl, sym, ap, subst, arith}
use Rattle.std.specs.List.{Contains}
use Rattle.std.specs.Prelude.{IsSomeAnd, IfSome, IfNone}
use Rattle.std.proofs.lemmas.List.{get_or-map, length-map}
use Rattle.std.proofs.lemmas.List.Elements.{Contains-get_or}

pub found_both : {A : Type 0} (o : Option A) (P Q : A → Type 0) → IsSomeAnd o P → IfSome o Q → (x : A) × P x × Q x
found_both None P Q is has = absurd is
found_both (Some x) P Q is has = (x, is, has)

pub if_none : {A : Type 0} (o : Option A) (T : Type 0) → (o ≡ None → T) → IfNone o T
if_none None T f = f refl
if_none (Some x) T f = tt

pub shown_there : {X Y : Type 0} (f : X → Y) (xs : List X) (i : ℕ) (x : X) → i < length xs → x ≡ get_or xs i x → Contains (map f xs) (f x)
shown_there f xs i x lt at =
    subst (Contains (map f xs)) (get_or-map f xs i x (f x) lt ∙ ap f (sym at)) (Contains-get_or (map f xs) i (f x) (omega (arith, lt, length-map xs f)))

pub some_with : {A : Type 0} (o : Option A) (P Q : A → Type 0) → ((x : A) → P x → Q x) → IfSome o P → IfSome o Q
some_with None P Q f is = tt
some_with (Some x) P Q f is = f x is

pub if_both : {A : Type 0} (o : Option A) (P Q R : A → Type 0) → ((x : A) → P x → Q x → R x) → IfSome o P → IfSome o Q → IfSome o R
if_both None P Q R f one other = tt
if_both (Some x) P Q R f one other = f x one other

pub at_some : {A : Type 0} (o : Option A) (x : A) (P : A → Type 0) → o ≡ Some x → P x → IfSome o P
at_some o x P is holds = subst (λ (p : Option _). IfSome p P) (sym is) holds

pub at_none : {A : Type 0} (o : Option A) (P : A → Type 0) → o ≡ None → IfSome o P
at_none o P is = subst (λ (p : Option _). IfSome p P) (sym is) tt

pub some_and : {A : Type 0} (o : Option A) (x : A) (P : A → Type 0) → o ≡ Some x → P x → IsSomeAnd o P
some_and o x P is holds = subst (λ (p : Option _). IsSomeAnd p P) (sym is) holds

pub none_then : {A : Type 0} (o : Option A) (T : Type 0) → o ≡ None → IfNone o T → T
none_then o T is holds = subst (λ (p : Option _). IfNone p T) is holds
