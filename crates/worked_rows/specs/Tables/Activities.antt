-- What the shipped activities give.
use Rattle.std.specs.Prelude.{◌≡◌, ℕ, ℤ, List, [], ◌∷◌, map, replicate, codes, pos, negsuc}
use Rattle.activity_table.specs.Table.{shipped}
use Rattle.dura_value.specs.declared.data.Scalar.TheVariants as scalars
use Rattle.dura_value.specs.declared.data.Value.{Value}
use Rattle.dura_value.specs.declared.data.Value.TheVariants as values
use Rattle.dura_value.specs.declared.outcome.Outcome.{Outcome}
use Rattle.dura_value.specs.declared.outcome.Outcome.TheVariants.{Done, Failed}

-- an activity with its argument, the word that it is given, and its outcome
pub record Given : Type 0 where
  pub name : List ℕ
  pub argument : Value
  pub word : ℕ
  pub outcome : Outcome

abbrev pub Give : List Given → Type 0
Give rows = map (λ (row : Given). shipped row.name row.argument row.word) rows ≡ map (λ (row : Given). row.outcome) rows

abbrev sum : ℤ → ℤ → Outcome → Given
sum a b outcome = record { name = codes "add"; argument = values.List (scalars.Int a ∷ scalars.Int b ∷ []); word = 0; outcome = outcome }

abbrev pub sums : List Given
sums =
    sum (pos 2) (pos 3) (Done (values.Int (pos 5)))
    ∷ sum (pos 9223372036854775807) (pos 0) (Done (values.Int (pos 9223372036854775807)))
    ∷ sum (pos 9223372036854775807) (pos 1) (Failed (codes "overflow"))
    ∷ sum (negsuc 9223372036854775807) (negsuc 0) (Failed (codes "overflow"))
    ∷ sum (negsuc 9223372036854775807) (pos 9223372036854775807) (Done (values.Int (negsuc 0)))
    ∷ []

-- a text of so many letters
abbrev long : ℕ → List ℕ
long n = replicate n 97

abbrev join : ℕ → ℕ → Outcome → Given
join a b outcome = record { name = codes "concat"; argument = values.List (scalars.Text (long a) ∷ scalars.Text (long b) ∷ []); word = 0; outcome = outcome }

abbrev pub joins : List Given
joins =
    join 0 0 (Done (values.Text []))
    ∷ join 2 3 (Done (values.Text (codes "aaaaa")))
    ∷ join 2048 2048 (Done (values.Text (long 4096)))
    ∷ join 2048 2049 (Failed (codes "size"))
    ∷ []

-- the highest bit of the word is cleared
abbrev draw : ℕ → ℕ → Given
draw word n = record { name = codes "draw"; argument = values.Null; word = word; outcome = Done (values.Int (pos n)) }

abbrev pub draws : List Given
draws =
    draw 0 0
    ∷ draw 5 5
    ∷ draw 0x8000000000000000 0
    ∷ draw 0xffffffffffffffff 9223372036854775807
    ∷ []

-- a list of a text and an integer
abbrev mixed : Value
mixed = values.List (scalars.Text (codes "a") ∷ scalars.Int (pos 1) ∷ [])

abbrev of_mixed : List ℕ → Outcome → Given
of_mixed name outcome = record { name = name; argument = mixed; word = 1; outcome = outcome }

abbrev pub others : List Given
others =
    of_mixed (codes "echo") (Done mixed)
    ∷ record { name = codes "fail"; argument = values.Text (codes "why"); word = 0; outcome = Failed (codes "why") }
    ∷ of_mixed (codes "add") (Failed (codes "type"))
    ∷ of_mixed (codes "concat") (Failed (codes "type"))
    ∷ of_mixed (codes "fail") (Failed (codes "type"))
    ∷ of_mixed [] (Failed (codes "unknown"))
    ∷ of_mixed (codes "Echo") (Failed (codes "unknown"))
    ∷ of_mixed (codes "adds") (Failed (codes "unknown"))
    ∷ []
