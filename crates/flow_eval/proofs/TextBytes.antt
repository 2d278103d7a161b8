-- Which bytes are a text.
use Rattle.std.proofs.Common.{◌≡◌, ◌<◌, ◌≤◌, ◌+◌, ℕ, List, ◌++◌, ◌^◌, length, true, FitsSigned, w64, ℤ, pos, negsuc, refl, subst, sym, arith}
use Rattle.std.specs.Str.{is_utf8, IsUtf8, IsValidUpTo}
use Rattle.std.specs.Fmt.{signed_decimal}
use Rattle.std.specs.Int.Signed.{mag}
use Rattle.std.proofs.Math.Seq.{take-length}
use Rattle.std.proofs.lemmas.Fmt.{IsAscii-signed, length_signed_le}
use Rattle.std.proofs.lemmas.Str.{IsUtf8-from_ascii, IsUtf8-from_is_utf8, is_utf8-from_IsUtf8, IsUtf8-append}
use Rattle.flow_syntax.specs.Eval.{int_text}

pub whole : (bs : List ℕ) (n : ℕ) → IsValidUpTo bs n → is_utf8 bs ≡ true → ⊥
whole bs n valid is = valid.longest (length bs) valid.short (subst IsUtf8 (sym (take-length bs)) (IsUtf8-from_is_utf8 bs is))

pub both : (xs ys : List ℕ) → is_utf8 xs ≡ true → is_utf8 ys ≡ true → is_utf8 (xs ++ ys) ≡ true
both xs ys first second = is_utf8-from_IsUtf8 (xs ++ ys) (IsUtf8-append xs ys (IsUtf8-from_is_utf8 xs first) (IsUtf8-from_is_utf8 ys second))

pub same_text : (n : ℤ) → int_text n ≡ signed_decimal n
same_text (pos n) = refl
same_text (negsuc n) = refl

magnitude : (n : ℤ) → FitsSigned w64 n → mag n < 2 ^ 63
magnitude (pos n) fits = omega (arith)
magnitude (negsuc n) fits = omega (arith)

pub is_ascii : (n : ℤ) → FitsSigned w64 n → is_utf8 (signed_decimal n) ≡ true
is_ascii n fits = is_utf8-from_IsUtf8 (signed_decimal n) (IsUtf8-from_ascii (signed_decimal n) (IsAscii-signed n (magnitude n fits)))

pub is_short : (n : ℤ) → FitsSigned w64 n → length (signed_decimal n) ≤ 4096
is_short n fits =
    let small : mag n < 2 ^ 63 = magnitude n fits in
    let fewer : length (signed_decimal n) ≤ 20 + 1 = length_signed_le 20 n (omega arith) small in
    omega arith
