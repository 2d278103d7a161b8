-- FNV-1a of 64 bits.
use Rattle.std.specs.Prelude.{ℕ, ◌*◌, ◌%◌, ◌^◌, List, fold, bit_xor}

abbrev pub fnv_basis : ℕ
fnv_basis = 0xcbf29ce484222325

abbrev pub fnv_prime : ℕ
fnv_prime = 0x100000001b3

-- for each byte, exclusive-or it in, then multiply by the prime
abbrev pub fnv_byte : ℕ → ℕ → ℕ
fnv_byte hash byte = bit_xor hash byte * fnv_prime % 2 ^ 64

abbrev pub fnv1a_64 : List ℕ → ℕ
fnv1a_64 bytes = fold fnv_byte fnv_basis bytes
