use Rattle.std.proofs.Common.{◌≡◌, ◌∙◌, true, sym}
use Rattle.client_order.specs.Order.{no_later}
use Rattle.client_order.proofs.Found.{at_some}
use Rattle.client_order.proofs.Ordered.{no_later_itself, no_later_turned}
use Rattle.client_order.proofs.clashes.earlier.Goals as goal

pub returns-in-Some-clause-old : goal.returns-in-Some-clause-old
returns-in-Some-clause-old c =
    let other = c.in-Some.other in
    at_some c.args.first other (λ one. no_later (other.now.client, other.now.number) (one.now.client, one.now.number) ≡ true) c.in-Some.is (no_later_itself (other.now.client, other.now.number))

pub returns-in_default-clause-new : goal.returns-in_default-clause-new
returns-in_default-clause-new c = no_later_itself (c.args.request.now.client, c.args.request.now.number)

pub returns-in_default-clause-old : goal.returns-in_default-clause-old
returns-in_default-clause-old c =
    let other = c.in-Some.other in
    let request = c.args.request.now in
    at_some c.args.first other (λ one. no_later (request.client, request.number) (one.now.client, one.now.number) ≡ true) c.in-Some.is
    (no_later_turned (other.now.client, other.now.number) (request.client, request.number) (sym c.comes_no_later.ensures ∙ c.if-comes_no_later.false))

pub returns-in_default-2-clause-new : goal.returns-in_default-2-clause-new
returns-in_default-2-clause-new c = no_later_itself (c.args.request.now.client, c.args.request.now.number)
