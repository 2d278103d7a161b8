use Rattle.std.proofs.Common.{refl, ◌∙◌, arith}
use Rattle.site_calls.specs.Failures.{is_disk_failure}
use Rattle.site_calls.proofs.Events.{still_by, told_told}
use Rattle.site_calls.proofs.syncing_files.are_there.Goals as goal

pub returns-in-Ok-false-clause-tells : goal.returns-in-Ok-false-clause-tells
returns-in-Ok-false-clause-tells g c = told_told _ _ _ c.loop-file.invariant.told c.in-Ok-false.ensures.tells

pub returns-in-Ok-false-clause-still : goal.returns-in-Ok-false-clause-still
returns-in-Ok-false-clause-still g c unseen = still_by _ _ _ (λ unseen before. refl) c.in-Ok-false.ensures.noted unseen ∙ c.loop-file.invariant.still unseen

pub returns-in-Ok-false-clause-failure : goal.returns-in-Ok-false-clause-failure
returns-in-Ok-false-clause-failure g c = record { kept = λ is_such. omega (arith, c.loop-file.invariant.kept is_such, c.in-Ok-false.ensures.failure.kept is_such); failed = tt }

pub returns-in-Err-clause-tells : goal.returns-in-Err-clause-tells
returns-in-Err-clause-tells g c = told_told _ _ _ c.loop-file.invariant.told c.in-Err.ensures.tells

pub returns-in-Err-clause-still : goal.returns-in-Err-clause-still
returns-in-Err-clause-still g c unseen = c.in-Err.ensures.noted unseen ∙ c.loop-file.invariant.still unseen

pub returns-in-Err-clause-failure : goal.returns-in-Err-clause-failure
returns-in-Err-clause-failure g c = record {
  kept = λ is_such. omega (arith, c.loop-file.invariant.kept is_such, c.in-Err.ensures.failure.kept is_such);
  failed = omega (arith, c.loop-file.invariant.kept is_disk_failure, c.in-Err.ensures.failure.failed);
}

pub loop-file-preserved : goal.loop-file-preserved
loop-file-preserved g c = record {
  told = told_told _ _ _ c.loop-file.invariant.told c.in-Ok-true.ensures.tells;
  still = λ unseen. still_by _ _ _ (λ unseen before. refl) c.in-Ok-true.ensures.noted unseen ∙ c.loop-file.invariant.still unseen;
  kept = λ is_such. omega (arith, c.loop-file.invariant.kept is_such, c.in-Ok-true.ensures.failure.kept is_such);
}
