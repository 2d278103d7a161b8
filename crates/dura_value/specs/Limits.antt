-- What may not be longer or greater.
use Rattle.std.specs.Prelude.{ℕ, ◌^◌}

-- the most bytes of a name and of a key
abbrev pub most_word_bytes : ℕ
most_word_bytes = 64

-- the most bytes of a text
abbrev pub most_text_bytes : ℕ
most_text_bytes = 4096

-- the most scalars of a list
abbrev pub most_scalars : ℕ
most_scalars = 1024

-- the most bytes of a value
abbrev pub most_value_bytes : ℕ
most_value_bytes = 65_536

-- the most bytes of a list's scalars, which stand behind the tag and the count
abbrev pub most_scalars_bytes : ℕ
most_scalars_bytes = 65_533

-- the most entities of a lock's set
abbrev pub most_spots : ℕ
most_spots = 16

-- numbers of 64 bits without a sign are below this, and so are those with one, either way
abbrev pub number_limit : ℕ
number_limit = 2 ^ 63
