use Rattle.log_files.specs.Fitting.{plain}
use Rattle.log_files.proofs.LogsChosen.{if_chosen}
use Rattle.log_files.proofs.choosing.choose.Goals as goal

pub returns-clause-chosen : goal.returns-clause-chosen
returns-clause-chosen c steps opened =
    if_chosen (plain c.args.asked) steps c.args.both.first c.args.both.second opened.0 opened.1 c.in_ok-first.ensures.fits c.in_ok-second.ensures.fits c.in_ok-first.first c.in_ok-second.second c.in_ok-first.ensures.log c.in_ok-second.ensures.log c.tie.result c.tie.ensures.chooses
