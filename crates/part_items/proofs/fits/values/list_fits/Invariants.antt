-- What the scalars so far take and what is left make the limit.
use Rattle.std.proofs.Common.{◌≡◌, ◌+◌, length, take}
use Rattle.std.specs.List.{All, flat_map}
use Rattle.dura_value.specs.Limits.{most_scalars_bytes}
use Rattle.dura_codec.specs.Spelling.{spell_scalar}
use Rattle.part_items.specs.Fits.{FitsScalar}
use Rattle.part_items.proofs.fits.values.list_fits.Given as goal

abbrev pub invariant-loop-part : goal.invariant-loop-part
invariant-loop-part l = (length (flat_map spell_scalar (take l.part-index l.parts)) + l.left ≡ most_scalars_bytes) × All FitsScalar (take l.part-index l.parts)
