use Rattle.std.proofs.Common.{subst, List}
use Rattle.dura_value.specs.declared.identity.Floor.{Floor}
use Rattle.dura_value.specs.Dependencies.{Lost}
use Rattle.dura_value.specs.Views.{identity_of}
use Rattle.commit_gate.specs.Refused.{GaveUp}
use Rattle.commit_gate.proofs.Floors.{kept_all, floor_at, floor_from, all_floors}
use Rattle.commit_gate.proofs.ledger.Ledger.floor_under.Goals as goal

pub returns-then-gave_up-clause-some : goal.returns-then-gave_up-clause-some
returns-then-gave_up-clause-some c =
    let seen = c.deref-floor-items.result.now in
    let none : Floor = record { partition = 0; incarnation = 0; from = 0 } in
    subst (λ (l : List Floor). GaveUp (all_floors l) (identity_of c.args.e) (floor_from seen c.loop-floor.floor-index none)) c.deref-floor-items.ensures.value
    (floor_at seen (identity_of c.args.e) c.loop-floor.floor-index none c.loop-floor-test.true (c.gave_up.ensures.0 c.if-gave_up.true))

pub returns-clause-none : goal.returns-clause-none
returns-clause-none c =
    subst (λ (l : List Floor). Lost (all_floors l) (identity_of c.args.e) → ⊥) c.deref-floor-items.ensures.value
    (kept_all c.deref-floor-items.result.now (identity_of c.args.e) c.loop-floor.floor-index c.loop-floor-test.false c.loop-floor.invariant)
