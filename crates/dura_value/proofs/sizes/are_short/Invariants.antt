-- What was counted and what is left make the limit.
use Rattle.std.proofs.Common.{◌≡◌, ◌+◌, drop}
use Rattle.dura_value.specs.Values.{scalars_size}
use Rattle.dura_value.specs.Limits.{most_scalars_bytes}
use Rattle.dura_value.proofs.sizes.are_short.Given as goal

abbrev pub invariant-loop-scalar : goal.invariant-loop-scalar
invariant-loop-scalar l = scalars_size l.scalars + l.left ≡ most_scalars_bytes + scalars_size (drop l.scalar-index l.scalars)
