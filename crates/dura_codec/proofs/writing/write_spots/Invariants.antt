use Rattle.std.proofs.Common.{◌≡◌, ◌++◌, take}
use Rattle.std.specs.List.{flat_map}
use Rattle.dura_value.specs.Views.{spots_of}
use Rattle.dura_codec.specs.Spelling.{spell_spot}
use Rattle.dura_codec.proofs.writing.write_spots.Given as goal

-- those before this one are written
abbrev pub invariant-loop-spot : goal.invariant-loop-spot
invariant-loop-spot l = l.out.items ≡ l.initial.out.items ++ flat_map spell_spot (spots_of (take l.spot-index l.spots))
