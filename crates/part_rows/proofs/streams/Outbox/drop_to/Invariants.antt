use Rattle.std.proofs.Common.{◌≡◌, ◌≤◌, ◌+◌, ◌-◌, length}
use Rattle.log_items.specs.Streams.{begins_at}
use Rattle.part_rows.specs.Views.{outbox_of}
use Rattle.part_rows.proofs.streams.Outbox.drop_to.Given as goal

-- what is left begins where the stream does, and the number is not past its end
abbrev pub invariant-loop-self : goal.invariant-loop-self
invariant-loop-self l =
    (begins_at l.number (outbox_of l.self) ≡ begins_at l.number (outbox_of l.initial.self)) × (l.number ≤ l.self.first + length l.self.messages) × (l.self.first ≤ l.number)

abbrev pub decreases-loop-self : goal.decreases-loop-self
decreases-loop-self l = l.number - l.self.first
