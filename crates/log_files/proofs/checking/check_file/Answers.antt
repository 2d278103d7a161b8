use Rattle.std.proofs.lemmas.Result.{err_from_is_err_and}
use Rattle.log_files.specs.Fitting.{plain}
use Rattle.log_files.proofs.LogsChecked.{suits_by_front, refused_file}
use Rattle.log_files.proofs.checking.check_file.Goals as goal

pub returns-in_err-read_file-clause-suits : goal.returns-in_err-read_file-clause-suits
returns-in_err-read_file-clause-suits g c tells opened =
    let p = err_from_is_err_and c.from_residual.result c.from_residual.ensures.1 in
    rw (p.1, p.2) (refused_file (plain c.args.asked) (g.V.Site.history c.args.site.now) c.args.file c.args.found c.in_err-read_file.field-0.0 (c.in_err-read_file.ensures.reads tells c.args.asked.partition opened))

pub returns-clause-suits : goal.returns-clause-suits
returns-clause-suits g c tells opened =
    suits_by_front (plain c.args.asked) (g.V.Site.history c.args.site.now) c.args.file c.args.found (c.in_ok-read_file.ensures.reads tells c.args.asked.partition opened) c.fit.result c.fit.ensures.log c.fit.ensures.fits c.fit.ensures.refused
