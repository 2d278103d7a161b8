use Rattle.std.proofs.Common.{◌∙◌, sym, ap, subst}
use Rattle.std.specs.Option.{option_map}
use Rattle.dura_value.specs.Views.{message_of}
use Rattle.many_rules.specs.Rules.{pairs_of, rules_at}
use Rattle.request_reader.specs.Line.{request_of}
use Rattle.run_rules.specs.Rules.{IsDue}
use Rattle.round_steps.proofs.Queues.{is_due}
use Rattle.round_steps.proofs.clients.ask.Goals as goal

pub returns-in-Queued-clause-joined : goal.returns-in-Queued-clause-joined
returns-in-Queued-clause-joined g c = λ s said all.
    let rules = g.M.Picked.rules in
    let part = c.home-part.result in
    let due = is_due rules part s.told c.args.port.now c.args.client.now (request_of c.in-Some.request.now) said (sym c.next_of.ensures ∙ ap (option_map (λ r. request_of r.now)) c.in-Some.is) in
    c.in_ok-offer_at.ensures.joined s (λ serves. subst (λ m. IsDue (rules_at rules part) (pairs_of s.told) (message_of m)) (sym c.in_ok-message.ensures) due) all

pub returns-in-Taken-clause-joined : goal.returns-in-Taken-clause-joined
returns-in-Taken-clause-joined g c = λ s said all.
    let rules = g.M.Picked.rules in
    let part = c.home-part.result in
    let due = is_due rules part s.told c.args.port.now c.args.client.now (request_of c.in-Some.request.now) said (sym c.next_of.ensures ∙ ap (option_map (λ r. request_of r.now)) c.in-Some.is) in
    c.in_ok-offer_at.ensures.joined s (λ serves. subst (λ m. IsDue (rules_at rules part) (pairs_of s.told) (message_of m)) (sym c.in_ok-message.ensures) due) all

pub returns-in-Clash-clause-joined : goal.returns-in-Clash-clause-joined
returns-in-Clash-clause-joined g c = λ s said all.
    let rules = g.M.Picked.rules in
    let part = c.home-part.result in
    let due = is_due rules part s.told c.args.port.now c.args.client.now (request_of c.in-Some.request.now) said (sym c.next_of.ensures ∙ ap (option_map (λ r. request_of r.now)) c.in-Some.is) in
    c.in_ok-offer_at.ensures.joined s (λ serves. subst (λ m. IsDue (rules_at rules part) (pairs_of s.told) (message_of m)) (sym c.in_ok-message.ensures) due) all

pub returns-in-Kept-clause-joined : goal.returns-in-Kept-clause-joined
returns-in-Kept-clause-joined g c = λ s said all.
    let rules = g.M.Picked.rules in
    let part = c.home-part.result in
    let due = is_due rules part s.told c.args.port.now c.args.client.now (request_of c.in-Some.request.now) said (sym c.next_of.ensures ∙ ap (option_map (λ r. request_of r.now)) c.in-Some.is) in
    c.in_ok-offer_at.ensures.joined s (λ serves. subst (λ m. IsDue (rules_at rules part) (pairs_of s.told) (message_of m)) (sym c.in_ok-message.ensures) due) all
