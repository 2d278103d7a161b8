-- The new queue has a place, and each other stands where it stood.
use Rattle.std.proofs.Common.{◌≡◌, sym, ap, subst, ◌∙◌, [], ◌∷◌, ◌++◌, length}
use Rattle.std.specs.Prelude.{map, IfOk}
use Rattle.std.specs.Cmp.Lexicographic.{slice_cmp}
use Rattle.std.specs.Ordering.{nat_cmp, is_eq}
use Rattle.std.proofs.lemmas.List.{length-map}
use Rattle.std.proofs.lemmas.Map.Text.{is_eq-slice_cmp}
use Rattle.request_reader.specs.Line.{request_of}
use Rattle.client_port.specs.Places.{all_of}
use Rattle.client_port.specs.Ports.{with_request}
use Rattle.client_port.specs.Views.{queue_of}
use Rattle.client_port.proofs.Changes.{opened}
use Rattle.client_port.proofs.Stays.{found_opened}
use Rattle.client_port.proofs.queues.Queues.open.Goals as goal

pub returns-clause-opened : goal.returns-clause-opened
returns-clause-opened c =
    let old = c.args.self.now.all.items in
    let r = request_of c.args.request in
    let second : c.in_ok-request.request ≡ c.args.request = c.in_ok-request.ensures.ok.1 ∙ c.in_ok-client.ensures.ok.1 in
    let third : c.in_ok-client-2.request ≡ c.args.request = c.in_ok-client-2.ensures.ok.1 ∙ second in
    let named : c.in_ok-client-2.client ≡ r.client = subst (λ made. IfOk made (λ n. n ≡ c.in_ok-request.request.client)) c.in_ok-client-2.ensures.ok.0 c.copy_of-2.ensures ∙ ap (λ q. q.client) second in
    ap (map queue_of) c.in_ok-push.ensures.items ∙ opened r old c.in_ok-queue.queue c.requires.new (rw named at (rw (ap request_of third) at c.in_ok-queue.ensures))

pub returns-clause-stands : goal.returns-clause-stands
returns-clause-stands c =
    let old = c.args.self.now.all.items in
    let r = request_of c.args.request in
    let items : c.push.new.self.items ≡ old ++ c.in_ok-queue.queue ∷ [] = c.in_ok-push.ensures.items in
    let second : c.in_ok-request.request ≡ c.args.request = c.in_ok-request.ensures.ok.1 ∙ c.in_ok-client.ensures.ok.1 in
    let third : c.in_ok-client-2.request ≡ c.args.request = c.in_ok-client-2.ensures.ok.1 ∙ second in
    let named : c.in_ok-client-2.client ≡ r.client = subst (λ made. IfOk made (λ n. n ≡ c.in_ok-request.request.client)) c.in_ok-client-2.ensures.ok.0 c.copy_of-2.ensures ∙ ap (λ q. q.client) second in
    let also : c.in_ok-client.client ≡ r.client = subst (λ made. IfOk made (λ n. n ≡ r.client)) c.in_ok-client.ensures.ok.0 c.copy_of.ensures in
    let queue = rw named at (rw (ap request_of third) at c.in_ok-queue.ensures) in
    let updates = rw c.in_ok-request.ensures.ok.0 at c.insert.ensures.updates in
    let all : map queue_of c.push.new.self.items ≡ with_request (all_of c.args.self.now) r = ap (map queue_of) items ∙ opened r old c.in_ok-queue.queue c.requires.new queue in
    let place : length c.as_slice-place.result.now ≡ length (map queue_of old) = ap length c.as_slice-place.ensures.value ∙ sym (length-map old queue_of) in
    record {
      places = λ name.
          let test = is_eq (slice_cmp nat_cmp c.in_ok-client.client name) in
          rw all (found_opened r (map queue_of old) name _ _ test (rw also (is_eq-slice_cmp r.client name)) (rw (← place) (updates.0 name)) (c.requires.stands.places name) c.requires.new);
    }
