use Rattle.std.proofs.Common.{◌≡◌, map}
use Rattle.std.specs.List.{range_with_len}
use Rattle.dura_value.specs.Views.{identity_of}
use Rattle.part_steps.specs.States.{state_of}
use Rattle.state_ledgers.proofs.ledger.readers_of.Given as goal

abbrev pub invariant-loop-source : goal.invariant-loop-source
invariant-loop-source l = map identity_of l.readers.items ≡ map (λ source. ((state_of l.fn.state).inboxes source).reader) (range_with_len 0 l.source)
