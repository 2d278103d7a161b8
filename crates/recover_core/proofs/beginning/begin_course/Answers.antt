use Rattle.std.proofs.Common.{sym, subst}
use Rattle.log_files.specs.Fitting.{plain, IsChosen}
use Rattle.recover_core.proofs.LogsWhole.{chosen_opened, chosen_first}
use Rattle.recover_core.proofs.beginning.begin_course.Goals as goal

pub returns-in-Ok-clause-begun : goal.returns-in-Ok-clause-begun
returns-in-Ok-clause-begun c = λ steps opened.
    let chosen = c.in-Ok.ensures.chosen steps opened in
    record {
      chosen = subst (IsChosen (plain c.args.asked) steps) (sym c.begin.ensures.log) chosen;
      course_is = c.begin.ensures.begins steps (chosen_opened (plain c.args.asked) steps c.in-Ok.log chosen);
      going = c.begin.ensures.going;
    }

pub returns-in-Ok-clause-fits : goal.returns-in-Ok-clause-fits
returns-in-Ok-clause-fits c = c.begin.ensures.fits c.args.asked.partition (chosen_first _ _ c.in-Ok.log c.in-Ok.ensures.chooses)
