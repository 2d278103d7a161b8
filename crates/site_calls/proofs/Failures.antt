-- Which calls failed.
use Rattle.std.proofs.Common.{◌≡◌, ◌<◌, ◌≤◌, ◌+◌, ℕ, Bool, true, List, ◌∷◌, Result, Ok, Err, ap, subst, arith}
use Rattle.std.specs.Prelude.{cond, OnErr, MatchResult}
use Rattle.site_calls.specs.Events.{Event}
use Rattle.site_calls.specs.Failures.{FailsByCall, count_of}

-- one call more
pub one_more : (event : Event) (old new : List Event) → new ≡ event ∷ old → (is_such : Event → Bool) → count_of is_such old ≤ count_of is_such new
one_more event old new is is_such = omega (arith, ap (count_of is_such) is)

-- one more that failed
pub one_failed : (event : Event) (old new : List Event) (is_failure : Event → Bool) → new ≡ event ∷ old → is_failure event ≡ true → count_of is_failure old < count_of is_failure new
one_failed event old new is_failure is failed =
    let counts : Bool → ℕ = λ yes. cond yes 1 0 in
    omega (arith, ap (count_of is_failure) is, ap counts failed)

-- a call with its answer
pub fails_by_one : {T E : Type 0} (event : Event) (old new : List Event) (is_failure : Event → Bool) (result : Result T E) → new ≡ event ∷ old → OnErr result (is_failure event ≡ true) → FailsByCall is_failure old new result
fails_by_one event old new is_failure (Ok value) is failed = record { kept = one_more event old new is; failed = tt }
fails_by_one event old new is_failure (Err error) is failed = record { kept = one_more event old new is; failed = one_failed event old new is_failure is failed }

-- what failed behind other calls failed behind them all
pub behind : {T E : Type 0} (is_failure : Event → Bool) (old mid new : List Event) (result : Result T E) → ((is_such : Event → Bool) → count_of is_such old ≤ count_of is_such mid)
    → FailsByCall is_failure mid new result → FailsByCall is_failure old new result
behind is_failure old mid new (Ok value) before fails = record { kept = λ is_such. omega (arith, before is_such, fails.kept is_such); failed = tt }
behind is_failure old mid new (Err error) before fails =
    record { kept = λ is_such. omega (arith, before is_such, fails.kept is_such); failed = omega (arith, before is_failure, fails.failed) }

-- an error that is put into another fails by the same call
pub fails_through : {T E F : Type 0} (is_failure : Event → Bool) (old new : List Event) (first : Result T E) (second : Result T F) (error : F → E) (P : F → Type 0)
    → MatchResult second (λ value. first ≡ Ok value) (λ fault. (first ≡ Err (error fault)) × P fault) → FailsByCall is_failure old new first → FailsByCall is_failure old new second
fails_through is_failure old new first (Ok value) error P placed fails = record { kept = fails.kept; failed = tt }
fails_through is_failure old new first (Err fault) error P placed fails =
    record { kept = fails.kept; failed = subst (λ r. OnErr r (count_of is_failure old < count_of is_failure new)) placed.0 fails.failed }

-- where a count of faults rises by one at an error alone, each fault goes on to have a call of its own
pub counted_once : {T F : Type 0} (is_failure : Event → Bool) (old new : List Event) (result : Result T F) (before now : ℕ) → MatchResult result (λ _. now ≡ before) (λ _. now ≤ before + 1)
    → FailsByCall is_failure old new result → before ≤ count_of is_failure old → now ≤ count_of is_failure new
counted_once is_failure old new (Ok value) before now once fails within = omega (arith, once, within, fails.kept is_failure)
counted_once is_failure old new (Err fault) before now once fails within = omega (arith, once, within, fails.failed)
