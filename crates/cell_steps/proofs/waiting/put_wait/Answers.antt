use Rattle.std.proofs.Common.{sym, ap, subst}
use Rattle.cell_waits.specs.Waits.{wait_of}
use Rattle.cell_waits.specs.declared.wait.Wait.{Wait}
use Rattle.log_items.specs.declared.items.Item.TheVariants.{Done}
use Rattle.part_steps.specs.States.{state_of}
use Rattle.cell_steps.specs.Fills.{IsFor}
use Rattle.cell_steps.proofs.Filled.{put_looks, pass_looks}
use Rattle.cell_steps.proofs.waiting.put_wait.Goals as goal

pub returns-in_ok-next-in-Outside-clause-on : goal.returns-in_ok-next-in-Outside-clause-on
returns-in_ok-next-in-Outside-clause-on g c = λ now rest.
    put_looks (g.R.Reactions.flows c.args.reactions.now) now c.args.filling c.in_ok-next-in-Outside.next c.in-Outside.item (wait_of c.args.wait) rest (ap (λ (w : Wait). (wait_of w).item) c.in-Outside.is) c.requires.may
    (subst (λ (w : Wait). IsFor (state_of c.args.filling.state) (wait_of w)) (sym c.in-Outside.is) tt) c.requires.way c.in_ok-next-in-Outside.ensures.puts

pub returns-in_ok-next-in-Ended-clause-on : goal.returns-in_ok-next-in-Ended-clause-on
returns-in_ok-next-in-Ended-clause-on g c = λ now rest.
    put_looks (g.R.Reactions.flows c.args.reactions.now) now c.args.filling c.in_ok-next-in-Ended.next (Done c.in-Ended.ended.id c.in-Ended.ended.task c.in-Ended.ended.outcome) (wait_of c.args.wait) rest
    (ap (λ (w : Wait). (wait_of w).item) c.in-Ended.is) c.requires.may
    (subst (λ (w : Wait). IsFor (state_of c.args.filling.state) (wait_of w)) (sym c.in-Ended.is) (c.is_pending.ensures.pending c.if-not-is_pending.false)) c.requires.way c.in_ok-next-in-Ended.ensures.puts

pub returns-then-not-is_pending-clause-on : goal.returns-then-not-is_pending-clause-on
returns-then-not-is_pending-clause-on g c = λ now rest.
    pass_looks (g.R.Reactions.flows c.args.reactions.now) now c.args.filling (wait_of c.args.wait) rest
    (subst (λ (w : Wait). IsFor (state_of c.args.filling.state) (wait_of w) → ⊥) (sym c.in-Ended.is) (c.is_pending.ensures.gone c.if-not-is_pending.true)) c.requires.way
