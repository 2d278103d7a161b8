-- What a call over many partitions has done for its requests, once it is at rest.
use Rattle.std.proofs.Common.{◌≡◌, ◌∙◌, ℕ, Bool, true, false, List, ◌++◌, map, get_or, slice_get, Option, Some, None, refl, sym, ap, subst}
use Rattle.std.specs.Prelude.{is_some, not, bytes_eq}
use Rattle.std.specs.List.{All, AllByRecursion}
use Rattle.std.proofs.lemmas.List.Elements.{All-from_recursion, recursion_from_All}
use Rattle.client_order.specs.Unsaid.{AreAllSaid, IsFirstUnsaid}
use Rattle.client_port.specs.Clients.{clients_of, requests_of}
use Rattle.client_port.specs.Ports.{Queue, due_of}
use Rattle.dura_model.specs.Legal.{Quiet}
use Rattle.dura_model.specs.Partition.{shown}
use Rattle.dura_model.specs.World.{World}
use Rattle.dura_value.proofs.Ids.{bytes_self}
use Rattle.dura_value.specs.Items.{Entry}
use Rattle.dura_value.specs.Messages.{Answer}
use Rattle.end_laws.specs.Rested.{AreAccepted, IsNextAwaited, IsRested}
use Rattle.end_laws.specs.Served.{AllServed, Awaits}
use Rattle.end_laws.proofs.Lists.{of_clients, of_queue, each_of, at_place, filter_place, found_at, none_passes}
use Rattle.end_laws.proofs.Told.{told_answered}
use Rattle.end_laws.proofs.Worlds.{world_after}
use Rattle.hub_store.specs.Trail.{Settled, Said}
use Rattle.many_logs.specs.Labels.{labels_of_commits}
use Rattle.many_rules.specs.Rules.{Rules, rules_at, commits_of, pairs_of}
use Rattle.request_reader.specs.Line.{Request}
use Rattle.rest_laws.specs.Requests.{has_answer, first_open, AnswersTaken, AreTakenUp}
use Rattle.rest_laws.proofs.Answered.{answers_taken}
use Rattle.rest_laws.proofs.Asking.{served}
use Rattle.rest_laws.proofs.Quieted.{rest_quiet}
use Rattle.run_rules.specs.Rules.{count_told, request_at}
use Rattle.trail_states.specs.HaveMade.{HaveMade}

is_answered : (b : Bool) → not b ≡ false → b ≡ true
is_answered true is = refl
is_answered false is = absurd (cc is)

module _ (MayFollow : List Settled → List Said → ℕ → List Entry → Type 0) (rules : Rules) (trail : List Settled) (told : List Said) (lines : List ℕ) (queues : List Queue) (made : HaveMade rules trail) (accepted : AreAccepted rules trail)
    (rested : IsRested MayFollow rules trail told lines queues made.states) where
  abbrev world : World
  world = shown rules.flows rules.count made.states

  abbrev clients : List (List ℕ)
  clients = clients_of rules.requests

  -- a client's first request without an answer is its next one
  open_is_due : (name : List ℕ) → due_of name queues ≡ request_at (rules_at rules 0) name (count_told (pairs_of told) name) → IsNextAwaited rules.count made.states queues name → first_open world rules.requests name ≡ due_of name queues
  open_is_due name due awaited =
      found_at (λ (r : Request). not (has_answer world name r)) (requests_of name rules.requests) (count_told (pairs_of told) name)
      (λ i x low at. ap not (told_answered rules MayFollow rested.serves rested.said made.states made.made name i x low at))
      (λ x at. ap (λ (o : Option Answer). not (is_some o)) (awaited x (due ∙ at)).1)
      ∙ sym due

  open_of : All (λ name. first_open world rules.requests name ≡ due_of name queues) clients
  open_of k d inside = open_is_due (get_or clients k d) (rested.due k d inside) (rested.awaited k d inside)

  taken_up : AreTakenUp world rules.requests
  taken_up k d inside r found = (rested.awaited k d inside r (sym (open_of k d inside) ∙ found)).0

  rightly : AnswersTaken world
  rightly = answers_taken rules.flows (labels_of_commits rules.recovered ++ labels_of_commits (commits_of trail)) world (world_after rules trail made accepted).legal

  quiet : Quiet rules.flows (map (λ (r : Request). r.message) rules.requests) world
  quiet = served world rules.requests rested.asks rightly rules.flows taken_up (rest_quiet rules.flows rules.count made.states rested.some made.shown rested.rest)

  -- where each answer was said, each request has one
  answered_at : AreAllSaid queues clients → (k : ℕ) (r : Request) → slice_get rules.requests k ≡ Some r → has_answer world r.client r ≡ true
  answered_at all k r at =
      let none : All (λ name. first_open world rules.requests name ≡ None) clients = λ j d inside. open_of j d inside ∙ all j d inside in
      let its = at_place (λ (x : Request). first_open world rules.requests x.client ≡ None) rules.requests k r (of_clients (λ name. first_open world rules.requests name ≡ None) rules.requests none) at in
      let own = filter_place (λ (x : Request). bytes_eq x.client r.client) rules.requests k r at (bytes_self r.client) in
      is_answered (has_answer world r.client r)
      (at_place (λ (x : Request). not (has_answer world r.client x) ≡ false) (requests_of r.client rules.requests) own.0 r (none_passes (λ (x : Request). not (has_answer world r.client x)) (requests_of r.client rules.requests) its) own.1)

  pub done : AreAllSaid queues clients → AllServed rules.flows rules.requests world
  done all = record {
    quiet = quiet;
    answered = All-from_recursion (λ (r : Request). has_answer world r.client r ≡ true) rules.requests (each_of (λ (r : Request). has_answer world r.client r ≡ true) rules.requests (answered_at all));
  }

  pub waiting : (name : List ℕ) (number : ℕ) → IsFirstUnsaid queues clients name number → Awaits rules.flows rules.requests world name number
  waiting name number unsaid = record {
    quiet = quiet;
    first = record {
      request = unsaid.unsaid.request;
      unanswered = of_queue IsOpen queues name unsaid.unsaid.request named unsaid.unsaid.due ∙ unsaid.unsaid.due;
      number_is = unsaid.unsaid.number_is;
      first = λ k d inside r found. unsaid.first k d inside r (sym (open_of k d inside) ∙ found);
    };
  }
    where
      IsOpen : List ℕ → Type 0
      IsOpen other = first_open world rules.requests other ≡ due_of other queues

      named : AllByRecursion IsOpen (map (λ (q : Queue). q.client) queues)
      named = subst (AllByRecursion IsOpen) (sym rested.clients) (recursion_from_All IsOpen clients open_of)
