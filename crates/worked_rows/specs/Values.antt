-- One spelling of each kind of value, and broken ones.
use Rattle.std.specs.Prelude.{ℕ, List, [], ◌∷◌, codes, pos, negsuc}
use Rattle.dura_value.specs.declared.data.Scalar.TheVariants as scalars
use Rattle.dura_value.specs.declared.data.Value.{Value}
use Rattle.dura_value.specs.declared.data.Value.TheVariants as values

-- null; false; true; the integers 2, -2 and the least; the texts "" and "hi"; the lists [] and [null, 2, "hi"]
abbrev pub value_rows : List (List ℕ × Value)
value_rows =
    (0 ∷ [], values.Null)
    ∷ (1 ∷ [], values.False)
    ∷ (2 ∷ [], values.True)
    ∷ (3 ∷ 0 ∷ 0 ∷ 0 ∷ 0 ∷ 0 ∷ 0 ∷ 0 ∷ 2 ∷ [], values.Int (pos 2))
    ∷ (3 ∷ 0xFF ∷ 0xFF ∷ 0xFF ∷ 0xFF ∷ 0xFF ∷ 0xFF ∷ 0xFF ∷ 0xFE ∷ [], values.Int (negsuc 1))
    ∷ (3 ∷ 0x80 ∷ 0 ∷ 0 ∷ 0 ∷ 0 ∷ 0 ∷ 0 ∷ 0 ∷ [], values.Int (negsuc 9223372036854775807))
    ∷ (4 ∷ 0 ∷ 0 ∷ [], values.Text [])
    ∷ (4 ∷ 0 ∷ 2 ∷ 0x68 ∷ 0x69 ∷ [], values.Text (codes "hi"))
    ∷ (5 ∷ 0 ∷ 0 ∷ [], values.List [])
    ∷ (5 ∷ 0 ∷ 3 ∷ 0 ∷ 3 ∷ 0 ∷ 0 ∷ 0 ∷ 0 ∷ 0 ∷ 0 ∷ 0 ∷ 2 ∷ 4 ∷ 0 ∷ 2 ∷ 0x68 ∷ 0x69 ∷ [], values.List (scalars.Null ∷ scalars.Int (pos 2) ∷ scalars.Text (codes "hi") ∷ []))
    ∷ []

-- nothing; no such kind; an integer of seven bytes; a length of one byte; a text that is too long; a text with a byte
-- missing; a text that is no UTF-8; a list with a scalar missing; a list of too many; a list in a list; a text of a list with
-- a byte missing
abbrev pub value_faults : List (List ℕ × ℕ)
value_faults =
    ([], 0)
    ∷ (6 ∷ [], 0)
    ∷ (3 ∷ 0 ∷ 0 ∷ 0 ∷ 0 ∷ 0 ∷ 0 ∷ 2 ∷ [], 1)
    ∷ (4 ∷ 0 ∷ [], 1)
    ∷ (4 ∷ 0x10 ∷ 1 ∷ 0x68 ∷ [], 1)
    ∷ (4 ∷ 0 ∷ 2 ∷ 0x68 ∷ [], 3)
    ∷ (4 ∷ 0 ∷ 2 ∷ 0x61 ∷ 0xC3 ∷ [], 3)
    ∷ (5 ∷ 0 ∷ 2 ∷ 0 ∷ [], 4)
    ∷ (5 ∷ 4 ∷ 1 ∷ 0 ∷ [], 1)
    ∷ (5 ∷ 0 ∷ 1 ∷ 5 ∷ 0 ∷ 0 ∷ [], 3)
    ∷ (5 ∷ 0 ∷ 2 ∷ 0 ∷ 4 ∷ 0 ∷ 1 ∷ [], 7)
    ∷ []
