use Rattle.std.proofs.Common.{◌<◌, ℕ, Ok, Err, Some, None, true, get_or, sym, ap, subst, ◌∙◌}
use Rattle.std.proofs.lemmas.List.{length-set}
use Rattle.std.proofs.lemmas.Option.{slice_get-get_or}
use Rattle.hub_store.specs.Trail.{of_part}
use Rattle.crossing_tests.proofs.Moved.{others_settled, dropped, stands_still, stands_moved}
use Rattle.crossing_tests.proofs.calls.reopen.Goals as goal

pub returns-in-Ok-Settled : goal.returns-in-Ok-Settled
returns-in-Ok-Settled g c =
    let e = c.in-Ok-Settled.ensures in
    let settled = c.reopen.ensures.settled (c.in-Ok-Settled.is ∙ ap Ok c.in-Ok-Settled.field-0-is) in
    stands_moved c.args.store.now c.reopen.new.self _ c.args.part (Some true) c.requires.stands e.kept e.keeps (others_settled _ _ c.args.part _ _ _ settled) tt

pub returns-in-Ok-Dropped : goal.returns-in-Ok-Dropped
returns-in-Ok-Dropped g c =
    let e = c.in-Ok-Dropped.ensures in
    let same = c.reopen.ensures.dropped (c.in-Ok-Dropped.is ∙ ap Ok c.in-Ok-Dropped.field-0-is) in
    let long = sym (length-set c.args.places.now c.args.part c.dropped.result) ∙ c.dropped.array_long in
    let place = get_or c.args.places.now c.args.part None in
    let here = c.requires.stands.each c.args.part place (slice_get-get_or c.args.places.now c.args.part None (subst (λ (n : ℕ). c.args.part < n) (sym long) c.requires.place)) in
    stands_moved c.args.store.now c.reopen.new.self _ c.args.part c.dropped.result c.requires.stands e.kept e.keeps (λ q apart. ap (of_part q) same)
    (dropped c.args.store.now c.reopen.new.self c.args.part place c.dropped.result e.ok same here c.dropped.ensures)

-- a frame that rests would have been refused
pub returns-in-Err-SiteFault : goal.returns-in-Err-SiteFault
returns-in-Err-SiteFault g c =
    let e = c.in-Err-SiteFault.ensures in
    let is = c.in-Err-SiteFault.is ∙ ap Err c.in-Err-SiteFault.field-0-is in
    stands_still c.args.store.now c.reopen.new.self _ c.args.part c.requires.stands e.kept e.keeps
    (λ rests. let refused = c.reopen.ensures.no_frame.1 rests in absurd (let e : ⊥ = cc (refused, is) in e)) e.no_trail
