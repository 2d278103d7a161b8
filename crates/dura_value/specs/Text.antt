-- What a text is, and why bytes are none.
use Rattle.std.specs.Prelude.{◌≡◌, ℕ, ◌<◌, ◌≤◌, List, length, true}
use Rattle.std.specs.Str.{is_utf8, IsValidUpTo}
use Rattle.dura_value.specs.declared.text.TextError.{TextError}
use Rattle.dura_value.specs.declared.text.TextError.TheVariants.{TooLong, NotUtf8, Memory}
use Rattle.dura_value.specs.Limits.{most_text_bytes}

-- UTF-8, and not too long
abbrev pub IsText : List ℕ → Type 0
IsText bytes = (is_utf8 bytes ≡ true) × (length bytes ≤ most_text_bytes)

-- why the bytes are no text, or that they are one and memory ran out
abbrev pub Explains : List ℕ → TextError → Type 0
Explains bytes (TooLong n) = (n ≡ length bytes) × (most_text_bytes < length bytes)
Explains bytes (NotUtf8 at) = IsValidUpTo bytes at × (length bytes ≤ most_text_bytes)
Explains bytes Memory = IsText bytes
