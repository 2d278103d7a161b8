-- What a run of an activity is given for chance.
use Rattle.std.specs.Prelude.{ℕ, ◌++◌}
use Rattle.byteorder.specs.Endian.{big_bytes}
use Rattle.dura_value.specs.Digest.{fnv1a_64}

-- the digest of the seed, the node and the number of the run on it
abbrev pub word_of : (seed node run : ℕ) → ℕ
word_of seed node run = fnv1a_64 (big_bytes 8 seed ++ big_bytes 8 node ++ big_bytes 8 run)
