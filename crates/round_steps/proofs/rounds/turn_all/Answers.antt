use Rattle.std.proofs.Common.{◌∙◌}
use Rattle.std.proofs.lemmas.Result.{err_from_is_err_and}
use Rattle.node_core.proofs.Spending.{inner_then}
use Rattle.round_steps.proofs.rounds.turn_all.Goals as goal

pub parts-preserved : goal.parts-preserved
parts-preserved g c =
    let h = c.in_ok-step_one.ensures in
    let inv = c.parts.invariant in
    record { many = h.many ∙ inv.many; joined = λ s all. h.joined s (inv.joined s all); port = h.port ∙ inv.port; seen = h.seen ∙ inv.seen }

pub returns-in_err-step_one-clause-inner : goal.returns-in_err-step_one-clause-inner
returns-in_err-step_one-clause-inner g c =
    let p = err_from_is_err_and c.from_residual.result c.from_residual.ensures.1 in
    rw (p.1, p.2) (inner_then g.M.Picked.rules c.args.cells.now.items c.parts.cells.items c.step_one.new.cells.items _ c.parts.invariant.joined c.in_err-step_one.ensures.inner)
