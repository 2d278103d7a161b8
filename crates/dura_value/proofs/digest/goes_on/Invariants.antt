use Rattle.std.proofs.Common.{◌≡◌, drop}
use Rattle.std.specs.Prelude.{fold}
use Rattle.dura_value.specs.Digest.{fnv_byte}
use Rattle.dura_value.proofs.digest.goes_on.Given as goal

-- the rest of the bytes leads to where all of them lead
abbrev pub invariant-loop-byte : goal.invariant-loop-byte
invariant-loop-byte l = fold fnv_byte l.hash (drop l.byte-index l.bytes) ≡ fold fnv_byte l.fn.hash l.bytes
