use Rattle.std.proofs.Common.{◌≤◌, ◌<◌, ◌+◌, ◌-◌, length}
use Rattle.commit_gate.specs.Past.{begins}
use Rattle.commit_gate.proofs.past.stretch_at.Given as goal

abbrev pub invariant-loop-low : goal.invariant-loop-low
invariant-loop-low l = record {
  apart : l.low ≤ l.high;
  inside : l.high ≤ length l.stretches;
  begun : begins l.stretches l.low ≤ l.position;
  not_ended : l.high < length l.stretches → l.position < begins l.stretches (l.high + 1);
}

abbrev pub decreases-loop-low : goal.decreases-loop-low
decreases-loop-low l = l.high - l.low
