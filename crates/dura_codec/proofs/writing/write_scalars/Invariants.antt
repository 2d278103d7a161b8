use Rattle.std.proofs.Common.{◌≡◌, ◌++◌, take}
use Rattle.std.specs.List.{flat_map}
use Rattle.dura_codec.specs.Spelling.{spell_scalar}
use Rattle.dura_codec.proofs.writing.write_scalars.Given as goal

-- those before this one are written
abbrev pub invariant-loop-scalar : goal.invariant-loop-scalar
invariant-loop-scalar l = l.out.items ≡ l.initial.out.items ++ flat_map spell_scalar (take l.scalar-index l.scalars)
