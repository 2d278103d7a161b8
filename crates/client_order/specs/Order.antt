-- Which request comes first.
use Rattle.std.specs.Prelude.{ℕ, List, Bool}
use Rattle.std.specs.Cmp.Lexicographic.{slice_cmp}
use Rattle.std.specs.Ordering.{nat_cmp, ordering_then, is_le}
use Rattle.std.specs.declared.cmp.Ordering.{Ordering}

-- how two requests are ordered: by their clients' names, byte by byte, and then by their numbers
abbrev pub request_cmp : (one other : List ℕ × ℕ) → Ordering
request_cmp one other = ordering_then (slice_cmp nat_cmp one.0 other.0) (nat_cmp one.1 other.1)

-- whether a request comes before another or is the same
abbrev pub no_later : (one other : List ℕ × ℕ) → Bool
no_later one other = is_le (request_cmp one other)
