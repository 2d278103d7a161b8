use Rattle.std.proofs.Common.{◌≤◌, ◌-◌, Bool, length}
use Rattle.site_calls.specs.Events.{Event, Unseen, replay}
use Rattle.site_calls.specs.Failures.{count_of}
use Rattle.site_calls.specs.Runs.{StaysHonest, IsWriting}
use Rattle.site_calls.proofs.writing.write_on.Given as goal

abbrev pub invariant-loop-done : goal.invariant-loop-done
invariant-loop-done g l =
    let old = g.C.Calls.events l.fn.calls in
    let now = g.C.Calls.events l.calls in
    record {
      within : l.done ≤ length l.bytes;
      told : StaysHonest old now;
      writing : (unseen : Unseen) → IsWriting l.file l.at l.bytes l.done (replay unseen old) (replay unseen now);
      kept : (is_such : Event → Bool) → count_of is_such old ≤ count_of is_such now;
    }

abbrev pub decreases-loop-done : goal.decreases-loop-done
decreases-loop-done g l = length l.bytes - l.done
