use Rattle.std.proofs.Common.{◌-◌, length}
use Rattle.part_steps.specs.States.{state_of}
use Rattle.state_ledgers.proofs.CopiesAreFirst.{AreFirst}
use Rattle.state_ledgers.proofs.streams.stream_to.Given as goal

-- the messages so far
abbrev pub invariant-loop-posted : goal.invariant-loop-posted
invariant-loop-posted l = AreFirst l.messages.items ((state_of l.fn.state).outboxes l.fn.target).messages

abbrev pub decreases-loop-posted : goal.decreases-loop-posted
decreases-loop-posted l = length ((state_of l.fn.state).outboxes l.fn.target).messages - length l.messages.items
