use Rattle.std.proofs.Common.{◌≡◌, ◌∙◌, ◌++◌, ◌∷◌, [], List, length, refl, sym, ap, subst, arith, append_assoc, append-nil}
use Rattle.recover_core.specs.Ended.{AreEndsOf}
use Rattle.recover_core.specs.declared.course.Course.{Course}
use Rattle.recover_core.proofs.LogsEnded.{no_ends, one_more_end}
use Rattle.recover_core.proofs.Pushed.{pushed_items}
use Rattle.recover_core.proofs.ending.ends_of.Goals as goal

pub courses-init : goal.courses-init
courses-init c =
    let gives = c.into_iter-course-iterator.ensures.into_iter_gives in record {
      ends = no_ends c.new-lives.result.items c.new-lives.ensures.items;
      rest = gives.0;
    }

pub courses-preserved : goal.courses-preserved
courses-preserved c =
    let inv = c.courses.invariant in
    let course = c.in-Some.course in
    let life = c.end_of.result in
    let before = c.courses.lives.items in
    let left = c.next.new.self.rest.items in
    let step = c.in-Some.ensures.steps in
    let items = pushed_items c.push.result (before ++ life ∷ []) before c.push.new.self.items c.if-is_err.false c.is_err.ensures.value c.push.ensures.items in
    record {
      ends = subst (AreEndsOf (c.courses.yielded ++ course ∷ [])) (sym items) (one_more_end c.courses.yielded before course life inv.ends c.end_of.ensures);
      rest = append_assoc c.courses.yielded (course ∷ []) left ∙ ap (λ (l : List Course). c.courses.yielded ++ l) (sym step.0) ∙ inv.rest;
    }

pub returns : goal.returns
returns c =
    let inv = c.courses.invariant in
    let none : length c.courses.course-iterator.rest.items ≡ 0 = sym c.courses.course-iterator.rest.ok.0 ∙ c.in-None.ensures.steps.0 in
    let empty = no_more c.courses.course-iterator.rest.items none in
    let all : c.courses.yielded ≡ c.args.courses.items = sym (append-nil c.courses.yielded) ∙ ap (λ (l : List Course). c.courses.yielded ++ l) (sym empty) ∙ inv.rest in
    subst (λ (l : List Course). AreEndsOf l c.courses.lives.items) all inv.ends
  where
    no_more : (l : List Course) → length l ≡ 0 → l ≡ []
    no_more [] none = refl
    no_more (x ∷ l) none = absurd (omega (arith, none))
