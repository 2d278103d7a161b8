-- Bytes that are a text, and bytes of which only a front is UTF-8.
use Rattle.std.proofs.Common.{◌≡◌, ◌≤◌, ◌<◌, ℕ, List, Ok, Err, true, false, length, take, drop, refl, subst, sym, inl, inr, arith}
use Rattle.std.specs.Int.{w16}
use Rattle.std.specs.Prelude.{nat_lt}
use Rattle.std.specs.Str.{IsUtf8, is_utf8, IsValidUpTo}
use Rattle.dura_value.specs.declared.text.TextError.{TextError}
use Rattle.dura_value.specs.declared.text.TextError.TheVariants.{TooLong, NotUtf8, Memory}
use Rattle.dura_value.specs.Text.{Explains}
use Rattle.std.proofs.lemmas.Str.{IsUtf8-from_is_utf8}
use Rattle.std.proofs.lemmas.Bool.{cases_Bool}
use Rattle.std.proofs.lemmas.Bool.Decides.{nat_tests}
use Rattle.std.proofs.lemmas.List.{take_all}
use Rattle.dura_codec.specs.Fields.{number_at, run_at}
use Rattle.dura_codec.specs.Grammar.{text_at}
use Rattle.dura_codec.proofs.Steps.{at_most}

pub is_broken : (bytes : List ℕ) (at : ℕ) → IsValidUpTo bytes at → is_utf8 bytes ≡ false
is_broken bytes at valid = elim (cases_Bool (is_utf8 bytes)) [
  | inl whole ↦ absurd (valid.longest (length bytes) valid.short (subst IsUtf8 (sym (take_all (length bytes) bytes (omega arith))) (IsUtf8-from_is_utf8 bytes whole)))
  | inr broken ↦ broken
]

pub no_text : (bytes : List ℕ) (error : TextError) (at : ℕ) → error ≡ NotUtf8 at → Explains bytes error → is_utf8 bytes ≡ false
no_text bytes (NotUtf8 other) at is why = is_broken bytes other why.0
no_text bytes (TooLong size) at is why = absurd (cc is)
no_text bytes Memory at is why = absurd (cc is)

reaches : (n size : ℕ) → size ≤ n → nat_lt n size ≡ false
reaches n size h = grind (arith, nat_tests)

ends : (n size : ℕ) → n < size → nat_lt n size ≡ true
ends n size h = grind (arith, nat_tests)

module _ (bytes rest : List ℕ) (size : ℕ) (sized : number_at w16 bytes ≡ Ok (size, rest)) (within : size ≤ 4096) where
  at_run : text_at bytes ≡ run_at is_utf8 size rest
  unfolding text_at
  at_run = rw (sized, at_most size 4096 within) refl

  pub is_text : size ≤ length rest → is_utf8 (take size rest) ≡ true → text_at bytes ≡ Ok (take size rest, drop size rest)
  unfolding run_at
  is_text there good = rw (at_run, reaches (length rest) size there, good) refl

  pub is_not_text : size ≤ length rest → is_utf8 (take size rest) ≡ false → text_at bytes ≡ Err (length rest)
  unfolding run_at
  is_not_text there bad = rw (at_run, reaches (length rest) size there, bad) refl

  pub is_cut_text : length rest < size → text_at bytes ≡ Err (length rest)
  unfolding run_at
  is_cut_text short = rw (at_run, ends (length rest) size short) refl
