use Rattle.std.proofs.Common.{sym, subst, arith}
use Rattle.std.specs.List.{All}
use Rattle.dura_value.specs.Dependencies.{named_by, Ready}
use Rattle.dura_value.specs.Items.{Entry}
use Rattle.log_items.specs.Plain.{entry_of, items_of}
use Rattle.spec_tracker.specs.Marks.{floors_of, length_in}
use Rattle.cell_steps.specs.declared.step.Step.{Step}
use Rattle.cell_steps.proofs.Walks.{all_next_shown}
use Rattle.spec_cell.proofs.FrontReady.{front_of, front_whole, at_step}
use Rattle.spec_cell.proofs.picking.count_ready.Goals as goal

pub returns-then-count-most-clause-ready : goal.returns-then-count-most-clause-ready
returns-then-count-most-clause-ready c = front_of c.args.marks.now c.args.steps.now c.loop-count.count c.loop-count.invariant.ready

pub returns-then-not-are_ready-clause-ready : goal.returns-then-not-are_ready-clause-ready
returns-then-not-are_ready-clause-ready c = front_of c.args.marks.now c.args.steps.now c.loop-count.count c.loop-count.invariant.ready

pub returns-then-not-are_ready-clause-stop : goal.returns-then-not-are_ready-clause-stop
returns-then-not-are_ready-clause-stop c = λ inside below d all.
    c.are_ready.ensures.not c.if-not-are_ready.true
    (subst (λ (l : _). All (Ready (length_in c.args.marks.now) (floors_of c.args.marks.now)) (named_by (items_of l))) (sym c.as_slice.ensures) (at_step c.args.marks.now c.args.steps.now c.loop-count.count c.index-steps-count.result d inside c.index-steps-count.is all))

pub loop-count-preserved : goal.loop-count-preserved
loop-count-preserved c =
    let ready = subst (λ (l : _). All (Ready (length_in c.args.marks.now) (floors_of c.args.marks.now)) (named_by (items_of l))) c.as_slice.ensures (c.are_ready.ensures.ready c.if-not-are_ready.false) in
    record {
      most = let below = c.if-count-most.false in omega (arith, below);
      ready = all_next_shown (λ (s : Step). entry_of s.entry) (λ (e : Entry). All (Ready (length_in c.args.marks.now) (floors_of c.args.marks.now)) (named_by e.items)) c.args.steps.now c.loop-count.count c.index-steps-count.result c.loop-count-test.true c.index-steps-count.is c.loop-count.invariant.ready ready;
    }

pub returns-clause-ready : goal.returns-clause-ready
returns-clause-ready c = front_whole c.args.marks.now c.args.steps.now c.loop-count.count c.loop-count-test.false c.loop-count.invariant.ready
