use Rattle.std.proofs.Common.{◌∙◌}
use Rattle.std.proofs.lemmas.Result.{err_from_is_err_and}
use Rattle.node_core.proofs.Spending.{inner_then}
use Rattle.round_steps.proofs.rounds.step_part.Goals as goal

pub returns-in_default-clause-joined : goal.returns-in_default-clause-joined
returns-in_default-clause-joined g c = λ s all. c.in_ok-fits.ensures.joined s (c.turns.invariant.joined s all)

pub turns-preserved : goal.turns-preserved
turns-preserved g c =
    let h = c.in_ok-fits.ensures in
    record { many = h.many ∙ c.turns.invariant.many; joined = λ s all. h.joined s (c.turns.invariant.joined s all) }

pub returns-in_err-fits-clause-inner : goal.returns-in_err-fits-clause-inner
returns-in_err-fits-clause-inner g c =
    let p = err_from_is_err_and c.from_residual.result c.from_residual.ensures.1 in
    rw (p.1, p.2) (inner_then g.M.Picked.rules c.args.cells.now.items c.turns.cells.items c.turn_part.new.cells.items _ c.turns.invariant.joined c.in_err-fits.ensures.inner)
