use Rattle.std.proofs.Common.{map, sym, subst, below_more}
use Rattle.part_steps.specs.Quiet.{IsQuiet}
use Rattle.rest_laws.proofs.Looking.{referred, state_at, among}
use Rattle.rest_laws.proofs.resting.are_quiet.Goals as goal

pub is_quiet-requires : goal.is_quiet-requires
is_quiet-requires c =
    let at = referred c.args.states.now c.loop-state.state-index c.state-item.result c.state-item.is c.loop-state-test.true in
    (among (map (λ s. s.now) c.args.states.now) c.loop-state.state-index c.state-item.result.now c.requires.all at).sound

pub returns-then-not-is_quiet : goal.returns-then-not-is_quiet
returns-then-not-is_quiet c =
    let at = referred c.args.states.now c.loop-state.state-index c.state-item.result c.state-item.is c.loop-state-test.true in
    (λ is. absurd (cc is), λ all. absurd (c.is_quiet.ensures.stirs c.if-not-is_quiet.true (subst IsQuiet (state_at (map (λ s. s.now) c.args.states.now) c.loop-state.state-index c.state-item.result.now at) (all c.loop-state.state-index c.loop-state-test.true))))

pub loop-state-preserved : goal.loop-state-preserved
loop-state-preserved c =
    let at = referred c.args.states.now c.loop-state.state-index c.state-item.result c.state-item.is c.loop-state-test.true in
    below_more _ _ c.loop-state.invariant (subst IsQuiet (sym (state_at (map (λ s. s.now) c.args.states.now) c.loop-state.state-index c.state-item.result.now at)) (c.is_quiet.ensures.quiet c.if-not-is_quiet.false))
