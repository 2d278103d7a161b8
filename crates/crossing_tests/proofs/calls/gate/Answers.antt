use Rattle.std.proofs.Common.{Err, sym, ap, ◌∙◌}
use Rattle.crossing_tests.proofs.Moved.{not_synced, stands_still}
use Rattle.crossing_tests.proofs.calls.gate.Goals as goal

-- a frame that rests would have been refused
pub returns-in-Ok : goal.returns-in-Ok
returns-in-Ok g c =
    let e = c.in-Ok.ensures in
    stands_still c.args.store.now c.gate.new.self _ c.args.part c.requires.stands e.kept e.keeps
    (λ rests. let refused = c.gate.ensures.no_frame.1 (λ is. not_synced (sym rests ∙ is)) in absurd (let e : ⊥ = cc (refused, c.in-Ok.is) in e)) e.trail

pub returns-in-Err-SiteFault : goal.returns-in-Err-SiteFault
returns-in-Err-SiteFault g c =
    let e = c.in-Err-SiteFault.ensures in
    let is = c.in-Err-SiteFault.is ∙ ap Err c.in-Err-SiteFault.field-0-is in
    stands_still c.args.store.now c.gate.new.self _ c.args.part c.requires.stands e.kept e.keeps
    (λ rests. let refused = c.gate.ensures.no_frame.1 (λ is. not_synced (sym rests ∙ is)) in absurd (let e : ⊥ = cc (refused, is) in e)) e.trail
