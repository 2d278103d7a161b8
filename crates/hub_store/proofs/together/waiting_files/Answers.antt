use Rattle.std.proofs.Common.{ap, ◌∙◌}
use Rattle.hub_store.proofs.Refusals.{residual_on_err}
use Rattle.hub_store.proofs.SyncCounts.{file_pushed, none_pushed, some_wait}
use Rattle.hub_store.proofs.together.waiting_files.Goals as goal
use Rattle.hub_store.proofs.together.waiting_files.Goals.{in-Some+in_ok-push, in_default}

pub returns-in_err-push-clause-some : goal.returns-in_err-push-clause-some
returns-in_err-push-clause-some c =
    let never = some_wait c.args.ways.now c.loop-way.way-index c.way-item.result c.in-Some.file c.loop-way-test.true c.way-item.is c.in-Some.ensures in
    residual_on_err _ c.from_residual.result never

pub loop-way-preserved : goal.loop-way-preserved
loop-way-preserved c = elim c.match-waiting_file.branch [
  | in-Some+in_ok-push w ↦ file_pushed c.args.ways.now c.loop-way.way-index c.way-item.result c.loop-way.files.items _ w.in-Some.file c.loop-way-test.true c.way-item.is c.loop-way.invariant w.in-Some.ensures (ap (λ v. v.items) w.files-is ∙ w.in_ok-push.ensures.items)
  | in_default w ↦ none_pushed c.args.ways.now c.loop-way.way-index c.way-item.result c.loop-way.files.items _ c.loop-way-test.true c.way-item.is c.loop-way.invariant w.in_default.ensures (ap (λ v. v.items) w.files-is)
]
