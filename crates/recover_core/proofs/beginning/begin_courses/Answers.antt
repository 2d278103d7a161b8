use Rattle.std.proofs.Common.{◌∙◌, ◌+◌, ◌++◌, ◌∷◌, [], ℕ, length, sym, ap, subst, arith, length-append}
use Rattle.std.proofs.lemmas.Option.{slice_get-get_or}
use Rattle.dura_model.specs.Partition.{fresh}
use Rattle.log_files.specs.Checked.{asked_for}
use Rattle.recover_core.specs.Begun.{IsBegun, AllBegun, AllFromFresh, AllUnplaced}
use Rattle.recover_core.specs.Courses.{FitsCourse, HasCome}
use Rattle.recover_core.specs.declared.course.Course.{Course}
use Rattle.recover_core.proofs.Pushed.{pushed, pushed_items, none_yet}
use Rattle.recover_core.proofs.beginning.begin_courses.Goals as goal

pub partitions-init : goal.partitions-init
partitions-init c = record {
  many = ap length c.new-courses.ensures.items;
  begun = λ steps opened. none_yet (λ place one. IsBegun (asked_for (length c.args.fronts.now) c.args.digest place) steps one) c.new-courses.result.items c.new-courses.ensures.items;
  fits = none_yet (λ place one. FitsCourse (fresh place) one) c.new-courses.result.items c.new-courses.ensures.items;
  none = none_yet (λ place one. HasCome [] one) c.new-courses.result.items c.new-courses.ensures.items;
}

pub returns-in_default-clause-refused : goal.returns-in_default-clause-refused
returns-in_default-clause-refused c = λ is fit. c.begin_course.ensures.refused c.in_default.is (fit c.partitions.place _ (slice_get-get_or c.args.fronts.now c.partitions.place _ c.partitions-test.true))

pub partitions-preserved : goal.partitions-preserved
partitions-preserved c =
    let inv = c.partitions.invariant in
    let course = c.in-Some.course in
    let before = c.partitions.courses.items in
    let many = length c.args.fronts.now in
    let items = pushed_items c.push.result (before ++ course ∷ []) before c.push.new.self.items c.if-is_err.false c.is_err.ensures.value c.push.ensures.items in
    let at = slice_get-get_or c.args.fronts.now c.partitions.place _ c.partitions-test.true in
    record {
      many = ap length items ∙ length-append before (course ∷ []) ∙ ap (λ (n : ℕ). n + 1) inv.many;
      begun = λ steps opened.
          let P : ℕ → Course → Type 0 = λ place one. IsBegun (asked_for many c.args.digest place) steps one in
          subst (AllBegun many c.args.digest steps) (sym items) (pushed P before course (inv.begun steps opened) (subst (λ (p : ℕ). P p course) (sym inv.many) (c.in-Some.ensures.begun steps (opened c.partitions.place _ at))));
      fits =
          let P : ℕ → Course → Type 0 = λ place one. FitsCourse (fresh place) one in
          subst AllFromFresh (sym items) (pushed P before course inv.fits (subst (λ (p : ℕ). P p course) (sym inv.many) c.in-Some.ensures.fits));
      none = subst AllUnplaced (sym items) (pushed (λ place one. HasCome [] one) before course inv.none c.in-Some.ensures.none);
    }

pub returns-clause-many : goal.returns-clause-many
returns-clause-many c = c.partitions.invariant.many ∙ omega (arith, c.partitions-test.false, c.partitions.auto.place-end)

pub returns-clause-begun : goal.returns-clause-begun
returns-clause-begun c = c.partitions.invariant.begun

pub returns-clause-fits : goal.returns-clause-fits
returns-clause-fits c = c.partitions.invariant.fits

pub returns-clause-none : goal.returns-clause-none
returns-clause-none c = c.partitions.invariant.none
