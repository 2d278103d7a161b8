use Rattle.std.specs.Prelude.{MatchResult}
use Rattle.site_calls.specs.Events.{measured}
use Rattle.site_calls.specs.Failures.{FailsByCall, is_disk_failure}
use Rattle.site_calls.specs.Runs.{StaysHonest, StandsStill, IsNoted}
use Rattle.site_calls.proofs.again.measure_file.Given as goal

abbrev pub invariant-loop : goal.invariant-loop
invariant-loop g l =
    let old = g.C.Calls.events l.fn.calls in
    let now = g.C.Calls.events l.calls in
    record {
      told : StaysHonest old now;
      noted : MatchResult l.answer (λ value. IsNoted (measured l.file value) old now) (λ _. StandsStill old now);
      failure : FailsByCall is_disk_failure old now l.answer;
    }
