use Rattle.std.proofs.Common.{◌∙◌, List, map, sym, subst, arith}
use Rattle.dura_value.specs.Dependencies.{Lost}
use Rattle.dura_value.specs.Views.{floor_of}
use Rattle.spec_tracker.specs.Marks.{identity_of}
use Rattle.dura_value.specs.declared.identity.Floor.{Floor}
use Rattle.spec_tracker.proofs.Losing.{lost_at, never_lost}
use Rattle.spec_tracker.proofs.marks.Marks.is_lost.Goals as goal

pub returns-then-is_given_up-clause-lost : goal.returns-then-is_given_up-clause-lost
returns-then-is_given_up-clause-lost c = λ same.
    subst (λ (l : List Floor). Lost (map floor_of l) (identity_of c.args.dep.now)) c.deref-floor-items.ensures.value
    (lost_at c.deref-floor-items.result.now c.loop-floor.floor-index _ (identity_of c.args.dep.now) (sym c.is_given_up.ensures ∙ c.if-is_given_up.true) c.loop-floor-test.true)

pub returns-clause-kept : goal.returns-clause-kept
returns-clause-kept c = λ same.
    never_lost c.args.self.now.floors.items (identity_of c.args.dep.now)
    (λ k d inside. c.loop-floor.invariant k d (let end = c.loop-floor-test.false in let same_length = c.deref-floor-items.ensures.len in omega (arith, end, same_length, inside)))
