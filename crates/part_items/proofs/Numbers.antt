-- Numbers are read again.
use Rattle.std.proofs.Common.{◌≡◌, ℕ, ◌<◌, ◌≤◌, ◌^◌, List, ◌++◌, length, take, drop, true, false, nat_lt, Ok, refl, ap, ◌∙◌, length-append, arith}
use Rattle.std.specs.Int.{Width, w16, w32, w64, byte_len, to_be_bytes, from_be_bytes}
use Rattle.std.proofs.lemmas.Nat.{from_be_bytes-to_be_bytes_2, from_be_bytes-to_be_bytes_4, from_be_bytes-to_be_bytes_8}
use Rattle.std.proofs.lemmas.Bool.Decides.{nat_tests}
use Rattle.std.proofs.Math.Seq.{take-append_seam, drop-append_seam}
use Rattle.dura_codec.specs.Fields.{number_at, count_at, request_number_at}

-- a test that is passed
pub not_below : (n m : ℕ) → m ≤ n → nat_lt n m ≡ false
not_below n m le = grind (arith, nat_tests)

pub is_below : (n m : ℕ) → n < m → nat_lt n m ≡ true
is_below n m lt = grind (arith, nat_tests)

-- the front of what goes on is as long as was asked for
pub enough : (size : ℕ) (front rest : List ℕ) → length front ≡ size → nat_lt (length (front ++ rest)) size ≡ false
enough size front rest is = not_below (length (front ++ rest)) size (omega (arith, length-append front rest))

pub taken : (size : ℕ) (front rest : List ℕ) → length front ≡ size → take size (front ++ rest) ≡ front
taken size front rest is = rw (← is) (take-append_seam front rest)

pub behind : (size : ℕ) (front rest : List ℕ) → length front ≡ size → drop size (front ++ rest) ≡ rest
behind size front rest is = rw (← is) (drop-append_seam front rest)

number_front : (w : Width) (front rest : List ℕ) → length front ≡ byte_len w → number_at w (front ++ rest) ≡ Ok (from_be_bytes w front, rest)
number_front w front rest is = rw (enough (byte_len w) front rest is, taken (byte_len w) front rest is, behind (byte_len w) front rest is) refl

pub number_again_2 : (n : ℕ) (rest : List ℕ) → n < 2 ^ 16 → number_at w16 (to_be_bytes w16 n ++ rest) ≡ Ok (n, rest)
number_again_2 n rest lt = number_front w16 (to_be_bytes w16 n) rest refl ∙ ap (λ (m : ℕ). Ok (m, rest)) (from_be_bytes-to_be_bytes_2 n lt)

pub number_again_4 : (n : ℕ) (rest : List ℕ) → n < 2 ^ 32 → number_at w32 (to_be_bytes w32 n ++ rest) ≡ Ok (n, rest)
number_again_4 n rest lt = number_front w32 (to_be_bytes w32 n) rest refl ∙ ap (λ (m : ℕ). Ok (m, rest)) (from_be_bytes-to_be_bytes_4 n lt)

pub number_again_8 : (n : ℕ) (rest : List ℕ) → n < 2 ^ 64 → number_at w64 (to_be_bytes w64 n ++ rest) ≡ Ok (n, rest)
number_again_8 n rest lt = number_front w64 (to_be_bytes w64 n) rest refl ∙ ap (λ (m : ℕ). Ok (m, rest)) (from_be_bytes-to_be_bytes_8 n lt)

pub count_again : (n : ℕ) (rest : List ℕ) → n < 2 ^ 63 → count_at (to_be_bytes w64 n ++ rest) ≡ Ok (n, rest)
unfolding count_at
count_again n rest lt = rw (number_again_8 n rest (omega arith), is_below n (2 ^ 63) lt) refl

pub request_again : (n : ℕ) (rest : List ℕ) → 0 < n → n < 2 ^ 32 → request_number_at (to_be_bytes w32 n ++ rest) ≡ Ok (n, rest)
unfolding request_number_at
request_again n rest some lt = rw (number_again_4 n rest lt, is_below 0 n some) refl
