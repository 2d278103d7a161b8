use Rattle.std.proofs.Common.{◌≡◌, ◌∙◌, inl, inr, true, refl, sym}
use Rattle.client_order.specs.Order.{no_later}
use Rattle.client_order.proofs.Found.{at_some, at_none, some_and}
use Rattle.client_order.proofs.Ordered.{no_later_itself, no_later_turned}
use Rattle.client_order.proofs.unsaid.earlier.Goals as goal
use Rattle.client_order.proofs.unsaid.earlier.Goals.{in_default-via-in-Some+else-comes_no_later, in_default-via-in_default}

pub returns-in-Some-clause-old : goal.returns-in-Some-clause-old
returns-in-Some-clause-old c =
    at_some c.args.first _ (λ one. no_later (c.in-Some.other.now, c.in-Some.least) (one.0.now, one.1) ≡ true) c.in-Some.is (no_later_itself (c.in-Some.other.now, c.in-Some.least))

pub returns-in_default-clause-new : goal.returns-in_default-clause-new
returns-in_default-clause-new c = no_later_itself (c.args.client.now, c.args.number)

pub returns-in_default-clause-old : goal.returns-in_default-clause-old
returns-in_default-clause-old c =
    elim c.in_default.branch [
      | in_default-via-in-Some+else-comes_no_later w ↦
          at_some c.args.first _ (λ one. no_later (c.args.client.now, c.args.number) (one.0.now, one.1) ≡ true) w.in-Some.is
          (no_later_turned (w.in-Some.other.now, w.in-Some.least) (c.args.client.now, c.args.number) (sym w.comes_no_later.ensures ∙ w.if-comes_no_later.false))
      | in_default-via-in_default w ↦ at_none c.args.first (λ one. no_later (c.args.client.now, c.args.number) (one.0.now, one.1) ≡ true) w.in_default.is
    ]

pub returns-in-Some-clause-one : goal.returns-in-Some-clause-one
returns-in-Some-clause-one c = inr (some_and c.args.first _ (λ one. (c.in-Some.other.now ≡ one.0.now) × (c.in-Some.least ≡ one.1)) c.in-Some.is (refl, refl))

pub returns-in-Some-clause-new : goal.returns-in-Some-clause-new
returns-in-Some-clause-new c = sym c.comes_no_later.ensures ∙ c.if-comes_no_later.true

pub returns-in_default-clause-one : goal.returns-in_default-clause-one
returns-in_default-clause-one c = inl (refl, refl)
