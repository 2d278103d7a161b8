use Rattle.std.proofs.Common.{◌≡◌, ◌-◌}
use Rattle.dura_value.specs.Views.{spots_of}
use Rattle.dura_codec.specs.Fields.{several_at}
use Rattle.dura_codec.specs.Grammar.{spot_at}
use Rattle.dura_codec.proofs.Several.{with_front}
use Rattle.dura_codec.proofs.messages.take_spots.Given as goal

-- the entities so far and those of the rest are all
abbrev pub invariant-loop : goal.invariant-loop
invariant-loop l = with_front (spots_of l.spots.items) (several_at spot_at (l.count - l.counter) l.rest) ≡ several_at spot_at l.count l.bytes
