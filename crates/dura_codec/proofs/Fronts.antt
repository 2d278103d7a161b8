-- The bytes that a list may take.
use Rattle.std.proofs.Common.{◌≡◌, ◌≤◌, ◌<◌, ℕ, List, length, take, sym, arith}
use Rattle.std.proofs.lemmas.List.{take_all, length-take}
use Rattle.dura_codec.specs.Grammar.{value_front}

whole : (most : ℕ) (bytes : List ℕ) → length bytes < most → bytes ≡ take most bytes
whole most bytes short = sym (take_all most bytes (omega arith))

shorter : (most : ℕ) (bytes : List ℕ) → length (take most bytes) ≤ length bytes
shorter most bytes = omega (arith, length-take most bytes)

pub is_whole : (bytes : List ℕ) → length bytes < 65533 → bytes ≡ value_front bytes
unfolding value_front
is_whole bytes short = whole 65533 bytes short

pub is_cut : (bytes front : List ℕ) → front ≡ take 65533 bytes → front ≡ value_front bytes
unfolding value_front
is_cut bytes front is = is

pub is_short : (bytes : List ℕ) → length (value_front bytes) ≤ length bytes
unfolding value_front
is_short bytes = shorter 65533 bytes
