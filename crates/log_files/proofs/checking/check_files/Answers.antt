use Rattle.std.proofs.Common.{◌≡◌, ◌∙◌, length, Some, Ok, Err, refl, sym, ap, arith}
use Rattle.std.specs.List.{slice_get}
use Rattle.std.proofs.lemmas.Option.{slice_get_within}
use Rattle.std.proofs.lemmas.Result.{err_from_is_err_and}
use Rattle.site_model.specs.History.{content_of}
use Rattle.site_model.proofs.Faults.{risen_later}
use Rattle.part_items.specs.Logs.{logs_in}
use Rattle.log_files.specs.Checked.{HasEntries, asked_for}
use Rattle.log_files.specs.Fitting.{FitsFiles}
use Rattle.log_files.specs.declared.error.FilesError.TheVariants as errors
use Rattle.log_files.specs.declared.opening.LogFiles.{LogFiles}
use Rattle.log_files.specs.declared.opening.LogFile.TheVariants.{Fresh}
use Rattle.log_files.proofs.LogsChecked.{below_more, refused_at, fits_at, says_over}
use Rattle.log_files.proofs.checking.check_files.Goals as goal

pub partitions-init : goal.partitions-init
partitions-init g c = record {
  told = λ tells. tells;
  unchanged = refl;
  says = λ tells opened lower below. absurd (omega (arith, below));
  fits = λ lower below. absurd (omega (arith, below));
  later = omega arith;
  say_faults = refl;
}

pub partitions-preserved : goal.partitions-preserved
partitions-preserved g c =
    let inv = c.partitions.invariant in
    let old = g.V.Site.history c.args.site.now in
    let mid = g.V.Site.history c.partitions.site in
    let fronts = c.args.fronts.now in
    let place = c.partitions.place in
    let asked = asked_for (length fronts) c.args.digest place in
    let none : LogFiles = record { first = Fresh; second = Fresh } in
    record {
      told = λ tells. inv.told (c.check_both.ensures.tells tells);
      unchanged = c.check_both.ensures.unchanged ∙ inv.unchanged;
      says = λ tells opened.
          below_more (λ lower. HasEntries (logs_in (asked_for (length fronts) c.args.digest lower) (λ file. content_of file old))) place (inv.says (c.check_both.ensures.tells tells) opened)
          (says_over mid old asked fronts none (Ok tt) inv.unchanged c.partitions-test.true opened (c.in_ok-check_both.ensures.says tells));
      fits =
          below_more (λ lower. (both : LogFiles) → slice_get fronts lower ≡ Some both → FitsFiles (asked_for (length fronts) c.args.digest lower) both) place inv.fits
          (fits_at asked fronts place none c.partitions-test.true c.in_ok-check_both.ensures.fits);
      later = let before = inv.later in let now = c.check_both.ensures.later in omega (arith, before, now);
      say_faults = c.check_both.ensures.say_faults ∙ inv.say_faults;
    }

pub returns-in_err-check_both-clause-tells : goal.returns-in_err-check_both-clause-tells
returns-in_err-check_both-clause-tells g c = λ tells. c.partitions.invariant.told (c.check_both.ensures.tells tells)

pub returns-in_err-check_both-clause-says : goal.returns-in_err-check_both-clause-says
returns-in_err-check_both-clause-says g c tells opened =
    let inv = c.partitions.invariant in
    let old = g.V.Site.history c.args.site.now in
    let mid = g.V.Site.history c.partitions.site in
    let fronts = c.args.fronts.now in
    let place = c.partitions.place in
    let error = c.in_err-check_both.field-0.0 in
    let p = err_from_is_err_and c.from_residual.result c.from_residual.ensures.1 in
    let refused =
    says_over mid old (asked_for (length fronts) c.args.digest place) fronts (record { first = Fresh; second = Fresh }) (Err error) inv.unchanged c.partitions-test.true opened (c.in_err-check_both.ensures.says tells) in
    rw (p.1, p.2) (refused_at (length fronts) c.args.digest (λ file. content_of file old) place error c.partitions-test.true (inv.says (c.check_both.ensures.tells tells) opened) refused)

pub returns-in_err-check_both-clause-unchanged : goal.returns-in_err-check_both-clause-unchanged
returns-in_err-check_both-clause-unchanged g c = c.check_both.ensures.unchanged ∙ c.partitions.invariant.unchanged

pub returns-in_err-check_both-clause-fault : goal.returns-in_err-check_both-clause-fault
returns-in_err-check_both-clause-fault g c is =
    let p = err_from_is_err_and c.from_residual.result c.from_residual.ensures.1 in
    let same : Err p.0 ≡ Err errors.SiteFault = sym p.1 ∙ is in
    let fault : c.in_err-check_both.field-0.0 ≡ errors.SiteFault = sym p.2 ∙ cc same in
    risen_later _ _ _ c.partitions.invariant.later c.check_both.ensures.later (c.in_err-check_both.ensures.fault (ap (λ e. Err e) fault))

pub returns-in_err-check_both-clause-later : goal.returns-in_err-check_both-clause-later
returns-in_err-check_both-clause-later g c = let before = c.partitions.invariant.later in let now = c.check_both.ensures.later in omega (arith, before, now)

pub returns-in_err-check_both-clause-say_faults : goal.returns-in_err-check_both-clause-say_faults
returns-in_err-check_both-clause-say_faults g c = c.check_both.ensures.say_faults ∙ c.partitions.invariant.say_faults

pub returns-clause-tells : goal.returns-clause-tells
returns-clause-tells g c = c.partitions.invariant.told

pub returns-clause-says : goal.returns-clause-says
returns-clause-says g c tells opened partition below = c.partitions.invariant.says tells opened partition (omega (arith, below, c.partitions-test.false, c.partitions.auto.place-end))

pub returns-clause-fits : goal.returns-clause-fits
returns-clause-fits g c partition both is =
    let below = slice_get_within c.args.fronts.now partition both is in
    c.partitions.invariant.fits partition (omega (arith, below, c.partitions-test.false, c.partitions.auto.place-end)) both is

pub returns-clause-unchanged : goal.returns-clause-unchanged
returns-clause-unchanged g c = c.partitions.invariant.unchanged

pub returns-clause-later : goal.returns-clause-later
returns-clause-later g c = c.partitions.invariant.later

pub returns-clause-say_faults : goal.returns-clause-say_faults
returns-clause-say_faults g c = c.partitions.invariant.say_faults
