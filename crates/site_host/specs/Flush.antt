-- What is known of files that were made safe.
use Rattle.std.specs.Prelude.{Bool, true, ℕ}

-- In this round the system was asked to make the file safe, and said that it is. What a system did no clause can tell, so it is told by the
-- one function that asks it, and nothing else looks into this definition.
unfoldable pub is_safe : ℕ → ℕ → Bool
is_safe round number = true
