use Rattle.std.proofs.Common.{◌∙◌, ◌++◌, ap, sym, subst}
use Rattle.std.specs.List.{All}
use Rattle.spec_tracker.specs.Marks.{floors_of}
use Rattle.cell_waits.specs.Waits.{MayWait, waits_of, lost_by, without_lost}
use Rattle.cell_waits.proofs.CutStreams.{all_unlost}
use Rattle.cell_waits.proofs.waits.Waits.cut_lost.Goals as goal

pub returns-clause-kept : goal.returns-clause-kept
returns-clause-kept c = c.in_ok-push_all_unlost.ensures.pushed ∙ ap (λ l. l ++ without_lost (lost_by (floors_of c.args.marks.now)) (waits_of c.args.self.now)) c.new-kept.ensures.none

pub returns-clause-may : goal.returns-clause-may
returns-clause-may c = λ all.
    subst (All MayWait) (sym (c.in_ok-push_all_unlost.ensures.pushed ∙ ap (λ l. l ++ without_lost (lost_by (floors_of c.args.marks.now)) (waits_of c.args.self.now)) c.new-kept.ensures.none))
    (all_unlost (lost_by (floors_of c.args.marks.now)) MayWait (waits_of c.args.self.now) all)
