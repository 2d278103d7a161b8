use Rattle.std.proofs.Common.{◌≡◌, ◌∙◌, ◌+◌, inl, inr, Some, None, true, false, length, map, take, refl, sym, subst}
use Rattle.std.specs.List.{All}
use Rattle.std.specs.Prelude.{IfSome}
use Rattle.dura_value.specs.declared.messages.Request.{Request as OwnRequest}
use Rattle.client_order.specs.Clashes.{clashes, taken_in, HasClash, IsClash, NoClash}
use Rattle.client_order.specs.Order.{no_later}
use Rattle.client_order.proofs.Found.{found_both, if_none, if_both, some_with, shown_there}
use Rattle.client_order.proofs.Ordered.{clash_still}
use Rattle.client_order.proofs.clashes.first_clash.Goals as goal
use Rattle.client_order.proofs.clashes.first_clash.Goals.{then-branch, else-branch}
use Rattle.client_order.proofs.Walks.{all_next_shown, all_whole_shown}
use Rattle.part_steps.specs.States.{parts_in}
use Rattle.request_reader.specs.Line.{Request, request_of}

pub loop-request-preserved : goal.loop-request-preserved
loop-request-preserved c =
    let p = taken_in (length c.args.states.now) (parts_in c.args.states.now) in
    let all = c.args.requests.now in
    let place = c.loop-request.request-index in
    let item = c.request-item.result in
    elim c.if-branch.branch [
      | then-branch w ↦
          let new = w.earlier.result in
          record {
            none = λ is. absurd (let wrong : Some w.earlier.result ≡ None = sym w.first-is ∙ is in cc wrong);
            some = subst (λ o. IfSome o (λ r. HasClash p (map request_of all) r.now.client r.now.number)) (sym w.first-is) (elim w.earlier.ensures.one [
              | inl here ↦ subst (λ (q : OwnRequest). HasClash p (map request_of all) q.client q.number) (sym here)
                  (record { request = request_of item; asked = shown_there request_of all place item c.loop-request-test.true c.request-item.is; client_is = refl; number_is = refl; clashes = sym c.in_ok-clashes.ensures ∙ w.if-branch.true })
              | inr old ↦
                  let both = found_both c.loop-request.first _ _ old c.loop-request.invariant.some in
                  subst (λ (q : OwnRequest). HasClash p (map request_of all) q.client q.number) (sym both.1) both.2
            ]);
            first = subst (λ o. IfSome o (λ one. All (λ (r : Request). clashes p r ≡ true → no_later (one.now.client, one.now.number) (r.client, r.number) ≡ true) (map request_of (take (place + 1) all)))) (sym w.first-is)
                (all_next_shown request_of (λ (r : Request). clashes p r ≡ true → no_later (new.now.client, new.now.number) (r.client, r.number) ≡ true) all place item c.loop-request-test.true c.request-item.is
                (clash_still (λ one. (one.now.client, one.now.number)) (new.now.client, new.now.number) (clashes p) (map request_of (take place all)) c.loop-request.first c.loop-request.invariant.none w.earlier.ensures.old c.loop-request.invariant.first)
                (λ is. w.earlier.ensures.new));
          }
      | else-branch w ↦ record {
        none = λ is. all_next_shown request_of (λ (r : Request). clashes p r ≡ false) all place item c.loop-request-test.true c.request-item.is
            (c.loop-request.invariant.none (sym w.first-is ∙ is)) (sym c.in_ok-clashes.ensures ∙ w.if-branch.false);
        some = subst (λ o. IfSome o (λ r. HasClash p (map request_of all) r.now.client r.now.number)) (sym w.first-is) c.loop-request.invariant.some;
        first = subst (λ o. IfSome o (λ one. All (λ (r : Request). clashes p r ≡ true → no_later (one.now.client, one.now.number) (r.client, r.number) ≡ true) (map request_of (take (place + 1) all)))) (sym w.first-is)
            (some_with c.loop-request.first (λ one. All (λ (r : Request). clashes p r ≡ true → no_later (one.now.client, one.now.number) (r.client, r.number) ≡ true) (map request_of (take place all)))
            (λ one. All (λ (r : Request). clashes p r ≡ true → no_later (one.now.client, one.now.number) (r.client, r.number) ≡ true) (map request_of (take (place + 1) all)))
            (λ one before. all_next_shown request_of (λ (r : Request). clashes p r ≡ true → no_later (one.now.client, one.now.number) (r.client, r.number) ≡ true) all place item c.loop-request-test.true c.request-item.is before
            (λ is. let wrong : false ≡ true = sym w.if-branch.false ∙ c.in_ok-clashes.ensures ∙ is in absurd (cc wrong)))
            c.loop-request.invariant.first);
      }
    ]

pub returns-clause-none : goal.returns-clause-none
returns-clause-none c =
    let p = taken_in (length c.args.states.now) (parts_in c.args.states.now) in
    if_none c.loop-request.first (NoClash p (map request_of c.args.requests.now))
    (λ is. all_whole_shown request_of (λ (r : Request). clashes p r ≡ false) c.args.requests.now c.loop-request.request-index c.loop-request-test.false (c.loop-request.invariant.none is))

pub returns-clause-some : goal.returns-clause-some
returns-clause-some c =
    let p = taken_in (length c.args.states.now) (parts_in c.args.states.now) in
    let all = c.args.requests.now in
    if_both c.loop-request.first (λ r. HasClash p (map request_of all) r.now.client r.now.number)
    (λ one. All (λ (r : Request). clashes p r ≡ true → no_later (one.now.client, one.now.number) (r.client, r.number) ≡ true) (map request_of (take c.loop-request.request-index all)))
    (λ r. IsClash p (map request_of all) r.now.client r.now.number)
    (λ one there before. record {
      there = there;
      first = all_whole_shown request_of (λ (r : Request). clashes p r ≡ true → no_later (one.now.client, one.now.number) (r.client, r.number) ≡ true) all c.loop-request.request-index c.loop-request-test.false before;
    }) c.loop-request.invariant.some c.loop-request.invariant.first
