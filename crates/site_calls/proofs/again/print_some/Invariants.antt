use Rattle.std.proofs.Common.{◌+◌, ◌<◌, ◌≤◌, length, take, drop}
use Rattle.std.specs.Prelude.{IfOk, MatchResult}
use Rattle.site_calls.specs.Events.{printed}
use Rattle.site_calls.specs.Failures.{FailsByCall, is_say_failure}
use Rattle.site_calls.specs.Runs.{StaysHonest, StandsStill, IsNoted}
use Rattle.site_calls.proofs.again.print_some.Given as goal

abbrev pub invariant-loop : goal.invariant-loop
invariant-loop g l =
    let old = g.C.Calls.events l.fn.calls in
    let now = g.C.Calls.events l.calls in
    record {
      told : StaysHonest old now;
      some : IfOk l.answer (λ count. 0 < count);
      count : IfOk l.answer (λ count. l.done + count ≤ length l.line);
      noted : MatchResult l.answer (λ count. IsNoted (printed (take count (drop l.done l.line))) old now) (λ _. StandsStill old now);
      failure : FailsByCall is_say_failure old now l.answer;
    }
