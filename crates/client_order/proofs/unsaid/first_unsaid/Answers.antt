use Rattle.std.proofs.Common.{◌≡◌, ◌∙◌, ◌+◌, inl, inr, ℕ, List, Some, None, take, sym, ap, subst}
use Rattle.std.specs.Prelude.{IfSome}
use Rattle.std.specs.List.{All}
use Rattle.client_port.specs.Ports.{due_of}
use Rattle.client_order.specs.Unsaid.{AreAllSaid, IsUnsaid, IsFirstUnsaid}
use Rattle.client_order.specs.Order.{no_later}
use Rattle.client_order.proofs.Found.{found_both, if_none, if_both, some_with}
use Rattle.client_order.proofs.Ordered.{DueLater, due_still}
use Rattle.client_order.proofs.unsaid.first_unsaid.Goals as goal
use Rattle.client_order.proofs.unsaid.first_unsaid.Goals.{in-Some, in_default}
use Rattle.client_order.proofs.Walks.{all_next, all_whole}
use Rattle.request_reader.specs.Line.{Request, request_of}

pub loop-client-preserved : goal.loop-client-preserved
loop-client-preserved c =
    let queues = c.args.port.now in
    let clients = c.args.clients.now in
    let place = c.loop-client.client-index in
    let name = c.client-item.result in
    elim c.match-next_of.branch [
      | in-Some w ↦
          let new = w.earlier.result in
          record {
            none = λ is. absurd (let wrong : Some w.earlier.result ≡ None = sym w.first-is ∙ is in cc wrong);
            some = subst (λ o. IfSome o (λ one. IsUnsaid queues one.0.now one.1)) (sym w.first-is) (elim w.earlier.ensures.one [
              | inl here ↦ subst (λ (n : List ℕ). IsUnsaid queues n w.earlier.result.1) (sym here.0) (record { request = _; due = sym w.in-Some.ensures; number_is = here.1 })
              | inr old ↦
                  let both = found_both c.loop-client.first _ _ old c.loop-client.invariant.some in
                  subst (λ (n : List ℕ). IsUnsaid queues n w.earlier.result.1) (sym both.1.0) (subst (λ (n : ℕ). IsUnsaid queues both.0.0.now n) (sym both.1.1) both.2)
            ]);
            first = subst (λ o. IfSome o (λ one. All (DueLater queues (one.0.now, one.1)) (take (place + 1) clients))) (sym w.first-is)
                (all_next (DueLater queues (new.0.now, new.1)) clients place name c.loop-client-test.true c.client-item.is
                (due_still (λ one. (one.0.now, one.1)) (new.0.now, new.1) queues (take place clients) c.loop-client.first c.loop-client.invariant.none w.earlier.ensures.old c.loop-client.invariant.first)
                (λ r due.
                let same : Some (request_of w.in-Some.request.now) ≡ Some r = w.in-Some.ensures ∙ due in
                let one : request_of w.in-Some.request.now ≡ r = cc same in
                ap (λ (x : Request). no_later (new.0.now, new.1) (name, x.number)) (sym one) ∙ w.earlier.ensures.new));
          }
      | in_default w ↦ record {
        none = λ is. all_next (λ (n : List ℕ). due_of n queues ≡ None) clients c.loop-client.client-index name c.loop-client-test.true c.client-item.is
            (c.loop-client.invariant.none (sym w.first-is ∙ is)) (sym w.in_default.ensures);
        some = subst (λ o. IfSome o (λ one. IsUnsaid queues one.0.now one.1)) (sym w.first-is) c.loop-client.invariant.some;
        first = subst (λ o. IfSome o (λ one. All (DueLater queues (one.0.now, one.1)) (take (place + 1) clients))) (sym w.first-is)
            (some_with c.loop-client.first (λ one. All (DueLater queues (one.0.now, one.1)) (take place clients)) (λ one. All (DueLater queues (one.0.now, one.1)) (take (place + 1) clients))
            (λ one all. all_next (DueLater queues (one.0.now, one.1)) clients place name c.loop-client-test.true c.client-item.is all
            (λ r due. let wrong : None ≡ Some r = w.in_default.ensures ∙ due in absurd (cc wrong)))
            c.loop-client.invariant.first);
      }
    ]

pub returns-clause-none : goal.returns-clause-none
returns-clause-none c =
    if_none c.loop-client.first (AreAllSaid c.args.port.now c.args.clients.now)
    (λ is. all_whole (λ (n : List ℕ). due_of n c.args.port.now ≡ None) c.args.clients.now c.loop-client.client-index c.loop-client-test.false (c.loop-client.invariant.none is))

pub returns-clause-some : goal.returns-clause-some
returns-clause-some c =
    let queues = c.args.port.now in
    let clients = c.args.clients.now in
    if_both c.loop-client.first (λ one. IsUnsaid queues one.0.now one.1) (λ one. All (DueLater queues (one.0.now, one.1)) (take c.loop-client.client-index clients)) (λ one. IsFirstUnsaid queues clients one.0.now one.1)
    (λ one unsaid first. record { unsaid = unsaid; first = all_whole (DueLater queues (one.0.now, one.1)) clients c.loop-client.client-index c.loop-client-test.false first }) c.loop-client.invariant.some c.loop-client.invariant.first
