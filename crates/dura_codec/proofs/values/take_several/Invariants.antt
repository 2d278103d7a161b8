use Rattle.std.proofs.Common.{◌≡◌, ◌≤◌, ◌-◌, length}
use Rattle.dura_codec.specs.Fields.{several_at}
use Rattle.dura_codec.specs.Grammar.{scalar_at}
use Rattle.dura_codec.proofs.Several.{with_front}
use Rattle.dura_codec.proofs.values.take_several.Given as goal

-- the scalars so far and those of the rest are all
abbrev pub invariant-loop : goal.invariant-loop
invariant-loop l = record {
  reads : with_front l.scalars.items (several_at scalar_at (l.count - l.counter) l.rest) ≡ several_at scalar_at l.count l.bytes;
  within : length l.rest ≤ length l.bytes;
}
