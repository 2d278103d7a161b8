-- Which bytes are a text.
use Rattle.std.proofs.Common.{◌≡◌, ℕ, ◌<◌, List, length, false, Ok, refl}
use Rattle.std.specs.Str.{is_utf8, IsUtf8, IsValidUpTo}
use Rattle.std.proofs.Math.Seq.{take-length}
use Rattle.dura_value.specs.Text.{IsText}
use Rattle.flow_values.specs.Faults.{where_fits, misshapen}
use Rattle.flow_values.specs.Values.{is_text}
use Rattle.dura_value.specs.Limits.{most_text_bytes}
use Rattle.std.proofs.lemmas.Bool.{le-leb, lt-leb}
use Rattle.std.proofs.Math.Bool.{and-false}

pub text_passes : (bs : List ℕ) → IsText bs → where_fits (is_text bs) (Ok bs) ≡ Ok bs
text_passes bs (utf8, short) = rw (utf8, le-leb (length bs) most_text_bytes short) refl

pub long_fails : (bs : List ℕ) → most_text_bytes < length bs → where_fits (is_text bs) (Ok bs) ≡ misshapen
long_fails bs long = rw (lt-leb (length bs) most_text_bytes long, and-false (is_utf8 bs)) refl

pub invalid_fails : (bs : List ℕ) (at : ℕ) → IsValidUpTo bs at → IsUtf8 bs → where_fits (is_text bs) (Ok bs) ≡ misshapen
invalid_fails bs at up utf8 = absurd (up.longest (length bs) up.short (rw (take-length bs) utf8))
