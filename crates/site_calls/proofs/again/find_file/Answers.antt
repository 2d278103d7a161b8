use Rattle.std.proofs.Common.{refl}
use Rattle.site_calls.specs.Events.{found, failed}
use Rattle.site_calls.specs.Failures.{is_disk_failure}
use Rattle.site_calls.proofs.Signals.{was_cut_off, told_behind, noted_behind, fails_behind}
use Rattle.site_calls.proofs.again.find_file.Goals as goal

pub loop-preserved : goal.loop-preserved
loop-preserved g c =
    let noted = c.find-answer-in-loop.ensures.noted in
    let still = was_cut_off _ _ _ c.loop.answer c.if-not-is_cut_off.false c.is_cut_off.ensures c.loop.invariant.noted in
    record {
      told = told_behind (found c.args.file) (failed c.args.file) _ _ _ c.find-answer-in-loop.result noted c.loop.invariant.told;
      noted = noted_behind (found c.args.file) (failed c.args.file) _ _ _ c.find-answer-in-loop.result noted (λ unseen. refl) still;
      failure = fails_behind (found c.args.file) (failed c.args.file) _ _ _ c.find-answer-in-loop.result noted is_disk_failure refl c.loop.invariant.failure.kept;
    }
