-- What is there or isn't: steps that go on only where there is something.
use Rattle.std.specs.Prelude.{Bool, true, false, Option, Some, None}

infixl 10 ◌>>=◌
-- then f of it, where there is one
abbrev pub ◌>>=◌ : {X Y : Type 0} → Option X → (X → Option Y) → Option Y
None >>= f = None
(Some x) >>= f = f x

-- only where the test passes
abbrev pub guard : {X : Type 0} → Bool → Option X → Option X
guard true wanted = wanted
guard false wanted = None

-- it itself, where the test passes
abbrev pub where_it : {X : Type 0} → (X → Bool) → X → Option X
where_it test x = guard (test x) (Some x)
