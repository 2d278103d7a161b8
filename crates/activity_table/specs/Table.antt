-- The activities that are shipped, and which outcomes each may give.
use Rattle.std.specs.Prelude.{ℕ, pos, Bool, false, ◌^◌, ◌%◌, ◌++◌, List, [], ◌∷◌, codes, length, nat_lt, nat_le, if◌then◌else◌, Option, Some, None}
use Rattle.std.specs.Str.{bytes_eq}
use Rattle.dura_value.specs.declared.data.Scalar.{Scalar}
use Rattle.dura_value.specs.declared.data.Scalar.TheVariants as scalars
use Rattle.dura_value.specs.declared.data.Value.{Value}
use Rattle.dura_value.specs.declared.data.Value.TheVariants as values
use Rattle.dura_value.specs.Values.{value_eq}
use Rattle.dura_value.specs.declared.outcome.Outcome.{Outcome}
use Rattle.dura_value.specs.declared.outcome.Outcome.TheVariants.{Done, Failed}
use Rattle.activity_table.specs.Activities.{added}

abbrev pub before : List ℕ → Option (List ℕ) → Option (List ℕ)
before text None = None
before text (Some rest) = Some (text ++ rest)

-- the texts of a list of texts, one after another
abbrev pub joined : List Scalar → Option (List ℕ)
joined [] = Some []
joined (scalars.Text text ∷ more) = before text (joined more)
joined other = None

abbrev pub short_text : Option (List ℕ) → Outcome
short_text None = Failed (codes "type")
short_text (Some text) = if nat_le (length text) 4096 then Done (values.Text text) else Failed (codes "size")

abbrev pub concatenated : Value → Outcome
concatenated (values.List parts) = short_text (joined parts)
concatenated other = Failed (codes "type")

abbrev pub failing : Value → Outcome
failing (values.Text text) = Failed text
failing other = Failed (codes "type")

-- echo gives its argument, add the sum of two integers, concat the texts one after another; fail fails with its text
abbrev pub given : List ℕ → Value → Outcome
given name argument =
    if bytes_eq name (codes "echo") then Done argument
    else (if bytes_eq name (codes "add") then added argument
    else (if bytes_eq name (codes "concat") then concatenated argument
    else (if bytes_eq name (codes "fail") then failing argument
    else Failed (codes "unknown"))))

abbrev pub outcome_eq : Outcome → Outcome → Bool
outcome_eq (Done a) (Done b) = value_eq a b
outcome_eq (Failed a) (Failed b) = bytes_eq a b
outcome_eq a b = false

-- draw gives any integer from 0 of 64 bits
abbrev pub is_drawn : Outcome → Bool
is_drawn (Done (values.Int (pos n))) = nat_lt n (2 ^ 63)
is_drawn other = false

-- what is drawn of a word of 64 bits: its highest bit is cleared
abbrev pub drawn : ℕ → Outcome
drawn word = Done (values.Int (pos (word % 2 ^ 63)))

-- what a shipped activity of this name gives with this argument and this word
abbrev pub shipped : List ℕ → Value → ℕ → Outcome
shipped name argument word = if bytes_eq name (codes "draw") then drawn word else given name argument

-- whether an activity of this name with this argument may give this outcome
abbrev pub may : List ℕ → Value → Outcome → Bool
may name argument outcome = if bytes_eq name (codes "draw") then is_drawn outcome else outcome_eq outcome (given name argument)
