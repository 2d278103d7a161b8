use Rattle.std.proofs.Common.{◌≡◌, ◌≤◌, Bool, take}
use Rattle.site_model.specs.History.{syncing}
use Rattle.site_calls.specs.Events.{Event, Unseen, replay}
use Rattle.site_calls.specs.Failures.{count_of}
use Rattle.site_calls.specs.Known.{Knows}
use Rattle.site_calls.specs.Runs.{StaysHonest}
use Rattle.site_calls.proofs.syncing_files.sync_in_turn.Given as goal

abbrev pub invariant-loop-file : goal.invariant-loop-file
invariant-loop-file g l =
    let old = g.C.Calls.events l.fn.calls in
    let now = g.C.Calls.events l.calls in
    record {
      told : StaysHonest old now;
      known : (unseen : Unseen) → Knows l.fn.known (replay unseen old) → Knows l.known (replay unseen now);
      synced : (unseen : Unseen) → Knows l.fn.known (replay unseen old) → (replay unseen now).steps ≡ syncing (take l.file-index l.files) (replay unseen old).steps;
      kept : (is_such : Event → Bool) → count_of is_such old ≤ count_of is_such now;
    }
