-- Entries by their incarnations, stretch by stretch.
use Rattle.std.specs.Prelude.{ℕ, zero, suc, ◌-◌, ◌<◌, List, [], ◌∷◌, ◌++◌, length, replicate}
use Rattle.commit_gate.specs.declared.past.Stretch.{Stretch}

-- the incarnation of each entry of these stretches, of which the first begins at this position
abbrev pub spread_from : (begin : ℕ) → List Stretch → List ℕ
spread_from begin [] = []
spread_from begin (stretch ∷ more) = replicate (stretch.end - begin) stretch.incarnation ++ spread_from stretch.end more

-- the incarnation of each entry, by its position
abbrev pub spread : List Stretch → List ℕ
spread = spread_from 0

-- where the stretch with a number begins, of which the first begins at this position; behind them all, where the last ends
abbrev pub begins_from : (begin : ℕ) → List Stretch → ℕ → ℕ
begins_from begin [] number = begin
begins_from begin (stretch ∷ more) zero = begin
begins_from begin (stretch ∷ more) (suc number) = begins_from stretch.end more number

abbrev pub begins : List Stretch → ℕ → ℕ
begins = begins_from 0

-- each has an entry
abbrev pub Rise : List Stretch → Type 0
Rise stretches = (number : ℕ) → number < length stretches → begins stretches number < begins stretches (suc number)
