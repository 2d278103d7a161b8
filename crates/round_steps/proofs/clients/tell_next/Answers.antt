use Rattle.std.proofs.Common.{◌≡◌, ◌≢◌, ◌∙◌, ◌++◌, ◌∷◌, [], List, Err, sym, ap, subst}
use Rattle.std.specs.Option.{option_map}
use Rattle.cell_frames.specs.Joined.{view_of}
use Rattle.client_port.specs.Ports.{Queue, at_client, with_said}
use Rattle.gated_store.specs.declared.refusal.SayRefusal.TheVariants as refusals
use Rattle.hub_store.specs.Changes.{asked, told_in}
use Rattle.hub_store.specs.Trail.{Said}
use Rattle.request_reader.specs.Line.{request_of}
use Rattle.round_steps.proofs.Goes.{said_serve, unsaid_serve}
use Rattle.round_steps.proofs.Queues.{is_next, said_on}
use Rattle.round_steps.specs.Serving.{HasSaid}
use Rattle.world_steps.specs.Says.{SaysAs}
use Rattle.round_steps.proofs.clients.tell_next.Goals as goal

pub say_answer-requires-clause-next : goal.say_answer-requires-clause-next
say_answer-requires-clause-next g c = λ serves.
    is_next g.M.Picked.rules (told_in c.args.store.now.logs) c.args.port.now c.args.client.now (request_of c.in-Some.request.now) c.requires.serving.said (sym c.next_of.ensures ∙ ap (option_map (λ r. request_of r.now)) c.in-Some.is)

pub returns-in-Ok-clause-serving : goal.returns-in-Ok-clause-serving
returns-in-Ok-clause-serving g c =
    let rules = g.M.Picked.rules in
    let old = c.args.store.now in
    let new = c.say_answer.new.store in
    let client = c.args.client.now in
    let r = request_of c.in-Some.request.now in
    let h = c.say_answer.ensures in
    let fine : c.say_answer.result ≢ Err refusals.SayFault = λ same. cc (same, c.in-Ok.is) in
    let told : told_in new.logs ≡ told_in old.logs ++ asked client r.number ∷ [] = ap (λ s. s.told) (subst (λ x. SaysAs rules client r.number (view_of old) (view_of new) x) c.in-Ok.is h.says).1 in
    let due = sym c.next_of.ensures ∙ ap (option_map (λ r. request_of r.now)) c.in-Some.is in
    let said = said_on rules.requests (told_in old.logs) c.args.port.now client r c.requires.serving.said due r.number in
    said_serve g.M.Picked.origin rules old new c.args.cells.now.items c.args.port.now c.said.new.self c.requires.serving h.kept (h.still fine) (h.whole fine) (h.joined fine)
    (subst (λ (queues : List Queue). HasSaid rules.requests (told_in new.logs) queues) (sym c.said.ensures) (subst (λ (l : List Said). HasSaid rules.requests l (at_client with_said client c.args.port.now)) (sym told) said))

pub returns-in-Err-NotAnswered-clause-serving : goal.returns-in-Err-NotAnswered-clause-serving
returns-in-Err-NotAnswered-clause-serving g c =
    let rules = g.M.Picked.rules in
    let old = c.args.store.now in
    let new = c.say_answer.new.store in
    let client = c.args.client.now in
    let r = request_of c.in-Some.request.now in
    let h = c.say_answer.ensures in
    let is : c.say_answer.result ≡ Err refusals.NotAnswered = c.in-Err-NotAnswered.is ∙ ap Err c.in-Err-NotAnswered.field-0-is in
    let fine : c.say_answer.result ≢ Err refusals.SayFault = λ same. cc (same, is) in
    let told : told_in new.logs ≡ told_in old.logs = ap (λ s. s.told) (subst (λ x. SaysAs rules client r.number (view_of old) (view_of new) x) is h.says).1 in
    unsaid_serve g.M.Picked.origin rules old new c.args.cells.now.items c.args.port.now c.requires.serving h.kept (h.still fine) (h.whole fine) (h.joined fine) told
