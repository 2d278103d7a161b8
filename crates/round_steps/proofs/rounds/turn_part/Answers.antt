use Rattle.std.proofs.Common.{IfOk, OnOk, subst}
use Rattle.node_core.proofs.Spending.{turned_spent}
use Rattle.node_core.specs.Stepping.{TurnsPart}
use Rattle.world_steps.specs.Cells.{AllJoined}
use Rattle.round_steps.proofs.rounds.turn_part.Goals as goal

pub returns-in-Ok-Spent-default-clause-inner : goal.returns-in-Ok-Spent-default-clause-inner
returns-in-Ok-Spent-default-clause-inner g c = λ s all.
    let rules = g.M.Picked.rules in
    let old = c.args.cells.now.items in
    let new = c.step_turn.new.cells.items in
    let h = c.step_turn.ensures in
    let part = c.args.part in
    let turned = subst (λ r. IfOk r (λ both. TurnsPart rules c.args.pace.now.mode c.args.pace.now.batch part old new both.0)) c.in-Ok-Spent-default.is h.steps in
    let spent = subst (TurnsPart rules c.args.pace.now.mode c.args.pace.now.batch part old new) c.in-Ok-Spent-default.field-0-0-is turned in
    turned_spent rules c.args.pace.now.mode c.args.pace.now.batch part old new c.in-Ok-Spent-default.number spent s (subst (λ r. OnOk r (AllJoined rules s new)) c.in-Ok-Spent-default.is (h.joined s all))
