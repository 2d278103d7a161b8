use Rattle.std.proofs.Common.{◌≡◌, ◌≤◌, ◌-◌, Bool, length, take}
use Rattle.site_model.specs.History.{saying}
use Rattle.site_calls.specs.Events.{Event, Unseen, replay}
use Rattle.site_calls.specs.Failures.{count_of}
use Rattle.site_calls.specs.Known.{Knows}
use Rattle.site_calls.specs.Runs.{StaysHonest}
use Rattle.site_calls.proofs.printing.print_line.Given as goal

abbrev pub invariant-loop-done : goal.invariant-loop-done
invariant-loop-done g l =
    let old = g.C.Calls.events l.fn.calls in
    let now = g.C.Calls.events l.calls in
    record {
      within : l.done ≤ length l.line;
      told : StaysHonest old now;
      known : (unseen : Unseen) → Knows l.fn.known (replay unseen old) → Knows l.known (replay unseen now);
      said : (unseen : Unseen) → (replay unseen now).steps ≡ saying (take l.done l.line) (replay unseen old).steps;
      kept : (is_such : Event → Bool) → count_of is_such old ≤ count_of is_such now;
    }

abbrev pub decreases-loop-done : goal.decreases-loop-done
decreases-loop-done g l = length l.line - l.done
