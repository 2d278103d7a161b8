use Rattle.std.proofs.Common.{◌≡◌, ◌+◌, ◌≤◌, length, take}
use Rattle.std.specs.Prelude.{IfOk, MatchResult}
use Rattle.site_calls.specs.Events.{got}
use Rattle.site_calls.specs.Failures.{FailsByCall, is_disk_failure}
use Rattle.site_calls.specs.Runs.{StaysHonest, StandsStill, IsNoted}
use Rattle.site_calls.proofs.again.read_some.Given as goal

abbrev pub invariant-loop : goal.invariant-loop
invariant-loop g l =
    let old = g.C.Calls.events l.fn.calls in
    let now = g.C.Calls.events l.calls in
    record {
      told : StaysHonest old now;
      front : take l.done l.out ≡ take l.done l.fn.out;
      count : IfOk l.answer (λ count. l.done + count ≤ length l.fn.out);
      noted : MatchResult l.answer (λ count. IsNoted (got l.file l.at (length l.fn.out) count (take (l.done + count) l.out)) old now) (λ _. StandsStill old now);
      failure : FailsByCall is_disk_failure old now l.answer;
    }
