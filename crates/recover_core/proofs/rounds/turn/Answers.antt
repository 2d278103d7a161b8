use Rattle.std.proofs.Common.{◌∙◌, ◌<◌, List, length, slice_set, sym, ap, subst, arith}
use Rattle.dura_model.specs.Partition.{fresh}
use Rattle.many_logs.specs.Placing.{of_partition}
use Rattle.many_logs.proofs.Own.{own_chain}
use Rattle.part_steps.specs.States.{parts_in}
use Rattle.recover_core.specs.Courses.{IsWhole}
use Rattle.recover_core.specs.Rounds.{AreReady, AllRead, HasLess, HavePlaced, HasTurned, IsOutside}
use Rattle.recover_core.specs.declared.course.Course.{Course}
use Rattle.recover_core.proofs.Turned.{course_there, ready_still, less_still, read_still, chain_here, turned, outside}
use Rattle.recover_core.proofs.PlacedAnyway.{kept_placed}
use Rattle.recover_core.proofs.rounds.turn.Goals as goal

pub go_on-requires-clause-fits : goal.go_on-requires-clause-fits
go_on-requires-clause-fits g c =
    let ready = c.requires.ready in
    let many = ready.many in
    let low = c.requires.place in
    let inside : c.args.place < length c.args.courses.now.items = omega (arith, many, low) in
    ready.each c.args.place c.swap-course.result (course_there c.args.courses.now.items c.args.place c.swap-course.result inside c.swap-course.ensures.was)

pub returns-clause-ready : goal.returns-clause-ready
returns-clause-ready g c =
    let old = c.args.states.now.items in
    let new = c.go_on.new.states.items in
    let none = c.begin.result in
    let here = ap (λ (l : List Course). slice_set l c.args.place c.in-Ok.gone.0) c.swap-course.ensures.now in
    subst (AreReady new) (sym (c.swap.ensures.now ∙ here))
    (ready_still old new c.args.courses.now.items c.args.place none c.swap-course.result c.in-Ok.gone.0 c.in-Ok.gone.1 c.requires.place c.requires.ready c.swap-course.ensures.was c.in-Ok.ensures.fits)

pub returns-clause-less : goal.returns-clause-less
returns-clause-less g c =
    let old = c.args.states.now.items in
    let new = c.go_on.new.states.items in
    let none = c.begin.result in
    let here = ap (λ (l : List Course). slice_set l c.args.place c.in-Ok.gone.0) c.swap-course.ensures.now in
    subst (λ (l : List Course). HasLess c.args.courses.now.items l c.in-Ok.gone.1) (sym (c.swap.ensures.now ∙ here))
    (less_still old new c.args.courses.now.items c.args.place none c.swap-course.result c.in-Ok.gone.0 c.in-Ok.gone.1 c.requires.place c.requires.ready c.swap-course.ensures.was c.in-Ok.ensures.fits)

pub returns-clause-reads : goal.returns-clause-reads
returns-clause-reads g c tells logs all =
    let steps = g.V.Site.history c.args.site.now in
    let old = c.args.states.now.items in
    let new = c.go_on.new.states.items in
    let none = c.begin.result in
    let here = ap (λ (l : List Course). slice_set l c.args.place c.in-Ok.gone.0) c.swap-course.ensures.now in
    subst (AllRead steps logs) (sym (c.swap.ensures.now ∙ here))
    (read_still old new c.args.courses.now.items c.args.place none c.swap-course.result c.in-Ok.gone.0 c.in-Ok.gone.1 c.requires.place c.requires.ready c.swap-course.ensures.was c.in-Ok.ensures.fits steps logs all (c.in-Ok.ensures.reads tells))

pub returns-clause-keeps : goal.returns-clause-keeps
returns-clause-keeps g c placed =
    let flows = g.R.Reactions.flows c.args.reactions.now in
    let old = c.args.states.now.items in
    let new = c.go_on.new.states.items in
    let was = c.args.courses.now.items in
    let place = c.args.place in
    let course = c.swap-course.result in
    let none = c.begin.result in
    let many = c.requires.ready.many in
    let low = c.requires.place in
    let inside : place < length was = omega (arith, many, low) in
    let here = ap (λ (l : List Course). slice_set l place c.in-Ok.gone.0) c.swap-course.ensures.now in
    let steps = g.V.Site.history c.args.site.now in
    let then = g.V.Site.tells c.go_on.new.site in
    subst (HavePlaced flows (length old) then steps (parts_in new)) (sym (c.swap.ensures.now ∙ here))
    (kept_placed old new was place none course c.in-Ok.gone.0 inside low (course_there was place course inside c.swap-course.ensures.was) c.in-Ok.ensures.fits.others flows (g.V.Site.tells c.args.site.now) then steps c.go_on.ensures.tells c.in-Ok.ensures.unrefused placed)

pub returns-clause-turns : goal.returns-clause-turns
returns-clause-turns g c tells logs all whole placed =
    let flows = g.R.Reactions.flows c.args.reactions.now in
    let steps = g.V.Site.history c.args.site.now in
    let old = c.args.states.now.items in
    let new = c.go_on.new.states.items in
    let was = c.args.courses.now.items in
    let place = c.args.place in
    let course = c.swap-course.result in
    let none = c.begin.result in
    let many = c.requires.ready.many in
    let low = c.requires.place in
    let inside : place < length was = omega (arith, many, low) in
    let at = course_there was place course inside c.swap-course.ensures.was in
    let of = placed.each place course at in
    let mine : IsWhole steps course.log = subst (IsWhole steps) (sym (all place course at).0) (whole place) in
    let chain = chain_here old new was place none course c.in-Ok.gone.0 c.in-Ok.gone.1 c.requires.place c.requires.ready c.swap-course.ensures.was c.in-Ok.ensures.fits flows steps placed in
    let far = c.in-Ok.ensures.goes tells (of_partition place placed.run) of.course_is mine chain of.still in
    let here = ap (λ (l : List Course). slice_set l place c.in-Ok.gone.0) c.swap-course.ensures.now in
    subst (λ (l : List Course). HasTurned flows (length old) steps place (parts_in old) (parts_in new) was l c.in-Ok.gone.1) (sym (c.swap.ensures.now ∙ here))
    (turned old new was place none course c.in-Ok.gone.0 c.in-Ok.gone.1 c.requires.place c.requires.ready c.swap-course.ensures.was c.in-Ok.ensures.fits flows steps placed far)

pub returns-in-Err-clause-turns : goal.returns-in-Err-clause-turns
returns-in-Err-clause-turns g c tells logs all whole placed =
    let flows = g.R.Reactions.flows c.args.reactions.now in
    let steps = g.V.Site.history c.args.site.now in
    let old = c.args.states.now.items in
    let was = c.args.courses.now.items in
    let place = c.args.place in
    let course = c.swap-course.result in
    let many = c.requires.ready.many in
    let low = c.requires.place in
    let inside : place < length was = omega (arith, many, low) in
    let at = course_there was place course inside c.swap-course.ensures.was in
    let of = placed.each place course at in
    let mine : IsWhole steps course.log = subst (IsWhole steps) (sym (all place course at).0) (whole place) in
    let chain = own_chain flows (length old) placed.run fresh (parts_in old) place placed.made in
    let broken = c.in-Err.ensures.goes tells (of_partition place placed.run) of.course_is mine chain of.still in
    subst IsOutside (sym c.unread.ensures) (outside steps c.match-course.file course.log c.in-Err.error mine broken)
