-- UTF-8 and its test.
use Rattle.std.proofs.Common.{◌≡◌, ℕ, List, true}
use Rattle.std.specs.Str.{IsUtf8, is_utf8}
use Rattle.std.proofs.lemmas.Str.{IsUtf8-from_is_utf8, is_utf8-from_IsUtf8}

pub utf8_passes : (bs : List ℕ) → IsUtf8 bs → is_utf8 bs ≡ true
utf8_passes bs u = is_utf8-from_IsUtf8 bs u

pub utf8_where_passes : (bs : List ℕ) → is_utf8 bs ≡ true → IsUtf8 bs
utf8_where_passes bs e = IsUtf8-from_is_utf8 bs e
