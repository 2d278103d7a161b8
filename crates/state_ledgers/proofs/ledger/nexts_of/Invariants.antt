use Rattle.std.proofs.Common.{◌≡◌, map}
use Rattle.std.specs.List.{range_with_len}
use Rattle.part_steps.specs.States.{state_of}
use Rattle.state_ledgers.proofs.ledger.nexts_of.Given as goal

abbrev pub invariant-loop-source : goal.invariant-loop-source
invariant-loop-source l = l.nexts.items ≡ map (λ source. ((state_of l.fn.state).inboxes source).next) (range_with_len 0 l.source)
