use Rattle.std.proofs.Common.{arith}
use Rattle.site_model.proofs.Syncing.{synced_one_more, synced_a_prefix}
use Rattle.site_calls.specs.Events.{replay}
use Rattle.site_calls.specs.Failures.{is_disk_failure}
use Rattle.site_calls.proofs.Events.{told_told}
use Rattle.site_calls.proofs.Failures.{behind}
use Rattle.site_calls.proofs.syncing_files.sync_in_turn.Goals as goal

pub returns-in-Err-clause-tells : goal.returns-in-Err-clause-tells
returns-in-Err-clause-tells g c = told_told _ _ _ c.loop-file.invariant.told c.in-Err.ensures.tells

pub returns-in-Err-clause-done : goal.returns-in-Err-clause-done
returns-in-Err-clause-done g c unseen knows =
    synced_a_prefix c.args.files.now c.loop-file.file-index (replay unseen (g.C.Calls.events c.args.calls.now)).steps _ _ _ c.in-Err.fault (omega arith)
    (c.loop-file.invariant.synced unseen knows) (c.in-Err.ensures.done unseen (c.loop-file.invariant.known unseen knows))

pub returns-in-Err-clause-failure : goal.returns-in-Err-clause-failure
returns-in-Err-clause-failure g c = behind is_disk_failure _ _ _ _ c.loop-file.invariant.kept c.in-Err.ensures.failure

pub loop-file-preserved : goal.loop-file-preserved
loop-file-preserved g c = record {
  told = told_told _ _ _ c.loop-file.invariant.told c.in-Ok.ensures.tells;
  known = λ unseen knows. c.in-Ok.ensures.known unseen (c.loop-file.invariant.known unseen knows);
  synced = λ unseen knows.
      synced_one_more c.args.files.now c.loop-file.file-index (replay unseen (g.C.Calls.events c.args.calls.now)).steps _ _ (omega arith)
      (c.loop-file.invariant.synced unseen knows) (c.in-Ok.ensures.done unseen (c.loop-file.invariant.known unseen knows)).ok;
  kept = λ is_such. omega (arith, c.loop-file.invariant.kept is_such, c.in-Ok.ensures.failure.kept is_such);
}
