use Rattle.std.proofs.Common.{◌≤◌, Bool}
use Rattle.site_calls.specs.Events.{Event}
use Rattle.site_calls.specs.Failures.{count_of}
use Rattle.site_calls.specs.Runs.{StaysHonest, StandsStill}
use Rattle.site_calls.proofs.syncing_files.are_there.Given as goal

abbrev pub invariant-loop-file : goal.invariant-loop-file
invariant-loop-file g l =
    let old = g.C.Calls.events l.fn.calls in
    let now = g.C.Calls.events l.calls in
    record {
      told : StaysHonest old now;
      still : StandsStill old now;
      kept : (is_such : Event → Bool) → count_of is_such old ≤ count_of is_such now;
    }
