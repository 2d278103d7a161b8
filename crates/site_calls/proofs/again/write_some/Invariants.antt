use Rattle.std.proofs.Common.{◌+◌, ◌<◌, ◌≤◌, length}
use Rattle.std.specs.Prelude.{IfOk, MatchResult}
use Rattle.site_calls.specs.Events.{Unseen, Standing, replay}
use Rattle.site_calls.specs.Failures.{FailsByCall, is_disk_failure}
use Rattle.site_calls.specs.Runs.{StaysHonest, IsWriting}
use Rattle.site_calls.proofs.again.write_some.Given as goal

abbrev pub invariant-loop : goal.invariant-loop
invariant-loop g l =
    let old = g.C.Calls.events l.fn.calls in
    let now = g.C.Calls.events l.calls in
    record {
      told : StaysHonest old now;
      some : IfOk l.answer (λ count. 0 < count);
      count : IfOk l.answer (λ count. l.done + count ≤ length l.bytes);
      writing : (unseen : Unseen) (start : Standing) → IsWriting l.file l.at l.bytes l.done start (replay unseen old) → MatchResult l.answer
          (λ count. IsWriting l.file l.at l.bytes (l.done + count) start (replay unseen now))
          (λ _. IsWriting l.file l.at l.bytes l.done start (replay unseen now));
      failure : FailsByCall is_disk_failure old now l.answer;
    }
