use Rattle.std.proofs.Common.{Err, Some, true, ap, ◌∙◌}
use Rattle.hub_store.specs.Ways.{is_open}
use Rattle.crossing_tests.proofs.Moved.{others_settled, stands_still, stands_moved}
use Rattle.crossing_tests.proofs.calls.settle.Goals as goal

pub returns-in-Ok : goal.returns-in-Ok
returns-in-Ok g c =
    let e = c.in-Ok.ensures in
    stands_moved c.args.store.now c.settle.new.self _ c.args.part (Some true) c.requires.stands e.kept e.keeps (others_settled _ _ c.args.part _ _ _ e.trail) tt

-- a frame that rests would have been refused
pub returns-in-Err-SiteFault : goal.returns-in-Err-SiteFault
returns-in-Err-SiteFault g c =
    let e = c.in-Err-SiteFault.ensures in
    let is = c.in-Err-SiteFault.is ∙ ap Err c.in-Err-SiteFault.field-0-is in
    stands_still c.args.store.now c.settle.new.self _ c.args.part c.requires.stands e.kept e.keeps
    (λ rests. let refused = c.settle.ensures.no_frame.1 (ap is_open rests) in absurd (let e : ⊥ = cc (refused, is) in e)) e.no_trail
