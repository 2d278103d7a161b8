use Rattle.std.proofs.Common.{◌≡◌, ◌-◌, ◌≤◌, drop}
use Rattle.commit_gate.proofs.ledger.Stream.begin_at.Given as goal

abbrev pub invariant-loop-self : goal.invariant-loop-self
invariant-loop-self l =
    (l.self.settled ≡ 0) × (l.initial.self.first ≤ l.self.first) × (l.self.first ≤ l.number) × (l.self.messages.items ≡ drop (l.self.first - l.initial.self.first) l.initial.self.messages.items)

abbrev pub decreases-loop-self : goal.decreases-loop-self
decreases-loop-self l = l.number - l.self.first
