use Rattle.std.proofs.Common.{◌≤◌, ◌-◌, Bool, length}
use Rattle.site_model.specs.History.{content_of}
use Rattle.site_calls.specs.Events.{Event, Unseen, replay, IsHonest}
use Rattle.site_calls.specs.Failures.{count_of}
use Rattle.site_calls.specs.Runs.{StaysHonest, StandsStill}
use Rattle.site_calls.proofs.ReadInParts.{IsReading}
use Rattle.site_calls.proofs.reading.read_on.Given as goal

abbrev pub invariant-loop-done : goal.invariant-loop-done
invariant-loop-done g l =
    let old = g.C.Calls.events l.fn.calls in
    let now = g.C.Calls.events l.calls in
    record {
      within : l.done ≤ length l.fn.out;
      told : StaysHonest old now;
      still : StandsStill old now;
      reading : (unseen : Unseen) → IsHonest unseen now → IsReading (content_of l.file (replay unseen old).steps) l.at l.done l.out;
      kept : (is_such : Event → Bool) → count_of is_such old ≤ count_of is_such now;
    }

abbrev pub decreases-loop-done : goal.decreases-loop-done
decreases-loop-done g l = length l.initial.out - l.done
