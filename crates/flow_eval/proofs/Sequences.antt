-- What the rest of several parts adds to what the first ones gave.
use Rattle.std.proofs.Common.{List, ◌++◌, ℕ, Result, Ok}
use Rattle.flow_syntax.specs.Eval.{◌>>=◌}

-- the rest behind what is done
abbrev pub behind : {Y : Type 0} → List Y → Result (List Y) (List ℕ) → Result (List Y) (List ℕ)
behind done rest = rest >>= λ more. Ok (done ++ more)
