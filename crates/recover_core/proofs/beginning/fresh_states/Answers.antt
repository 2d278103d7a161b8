use Rattle.std.proofs.Common.{◌≡◌, ◌∙◌, ◌+◌, ◌++◌, ◌∷◌, [], ℕ, List, Some, length, sym, ap, subst, arith, length-append}
use Rattle.std.specs.List.{slice_get}
use Rattle.part_steps.specs.declared.state.PartState.{PartState}
use Rattle.recover_core.proofs.FreshStates.{IsFresh, is_fresh, all_fresh, parts_fresh}
use Rattle.recover_core.proofs.Pushed.{pushed, pushed_items, none_yet}
use Rattle.recover_core.proofs.beginning.fresh_states.Goals as goal

pub partitions-init : goal.partitions-init
partitions-init c = record {
  many = ap length c.new-states.ensures.items;
  each = none_yet (IsFresh c.args.count) c.new-states.result.items c.new-states.ensures.items;
}

pub partitions-preserved : goal.partitions-preserved
partitions-preserved c =
    let inv = c.partitions.invariant in
    let before = c.partitions.states.items in
    let state = c.new.result in
    let items = pushed_items c.push.result (before ++ state ∷ []) before c.push.new.self.items c.if-is_err.false c.is_err.ensures.value c.push.ensures.items in
    let here = is_fresh c.args.count c.partitions.partition state c.new.ensures.fresh c.new.ensures.partitions c.new.ensures.sound in
    record {
      many = ap length items ∙ length-append before (state ∷ []) ∙ ap (λ (n : ℕ). n + 1) inv.many;
      each = subst (λ (l : List PartState). (place : ℕ) (s : PartState) → slice_get l place ≡ Some s → IsFresh c.args.count place s) (sym items)
          (pushed (IsFresh c.args.count) before state inv.each (subst (λ (p : ℕ). IsFresh c.args.count p state) (sym inv.many) here));
    }

pub returns-clause-all : goal.returns-clause-all
returns-clause-all c =
    let many = c.partitions.invariant.many ∙ omega (arith, c.partitions-test.false, c.partitions.auto.partition-end) in
    all_fresh c.args.count c.partitions.states.items many c.partitions.invariant.each c.requires

pub returns-clause-many : goal.returns-clause-many
returns-clause-many c = c.partitions.invariant.many ∙ omega (arith, c.partitions-test.false, c.partitions.auto.partition-end)

pub returns-clause-fresh : goal.returns-clause-fresh
returns-clause-fresh c =
    let many = c.partitions.invariant.many ∙ omega (arith, c.partitions-test.false, c.partitions.auto.partition-end) in
    parts_fresh c.args.count c.partitions.states.items many c.partitions.invariant.each
