-- Where nothing is possible any more a run has served its requests.
use Rattle.std.proofs.Common.{◌≡◌, ◌<◌, ◌≤◌, ◌∙◌, ℕ, zero, suc, Bool, true, false, cond, List, [], ◌∷◌, ◌++◌, length, map, slice_get, Option, Some, None, refl, sym, ap, subst, append_assoc, arith}
use Rattle.std.specs.Prelude.{is_some, bytes_eq}
use Rattle.std.specs.List.{All, AllByRecursion}
use Rattle.std.specs.Option.{option_and_then}
use Rattle.std.proofs.lemmas.List.Elements.{All-from_recursion}
use Rattle.call_begins.specs.Begins.{call_rules}
use Rattle.client_order.specs.Unsaid.{AreAllSaid, IsFirstUnsaid}
use Rattle.client_port.specs.Clients.{clients_of, requests_of}
use Rattle.client_port.specs.Ports.{Queue, first_due, due_of}
use Rattle.cluster_run.specs.Causes.{EndsFor, IsRestOrMemory, WentBy, cause_of_halt}
use Rattle.cluster_run.specs.Served.{HasServed}
use Rattle.dura_model.specs.Partition.{fresh, shown}
use Rattle.dura_value.proofs.Basics.{some_same}
use Rattle.dura_value.proofs.Ids.{bytes_self}
use Rattle.end_laws.proofs.Ends.{done, waiting}
use Rattle.end_laws.proofs.Worlds.{world_after}
use Rattle.end_laws.specs.Rested.{AnyFollows, AreAccepted, IsRested}
use Rattle.end_laws.specs.Served.{IsWorldAfter}
use Rattle.engine_rounds.specs.Heard.{Heard}
use Rattle.engine_rounds.specs.Served.{IsServed, refusal_in}
use Rattle.engine_rounds.specs.declared.driving.End.{End}
use Rattle.engine_rounds.specs.declared.driving.End.TheVariants as ends
use Rattle.engine_rounds.specs.declared.serving.Came.{Came}
use Rattle.engine_rounds.specs.declared.serving.Came.TheVariants as cames
use Rattle.flow_syntax.specs.Syntax.{Flows}
use Rattle.hub_store.specs.Moments.{SaidSoFar}
use Rattle.hub_store.specs.Trail.{Settled, Said, settled_at}
use Rattle.join_laws.proofs.Histories.{some_image}
use Rattle.many_logs.specs.Labels.{AllGiven}
use Rattle.many_logs.specs.Placing.{Commit, AllBelow, frames_in_order}
use Rattle.many_logs.specs.Stands.{AreKept}
use Rattle.many_rules.specs.Leaves.{StandsOn}
use Rattle.many_rules.specs.Rules.{Rules, Answers, commits_of, pairs_of, rules_at}
use Rattle.node_core.specs.declared.halt.Halt.{Halt}
use Rattle.node_core.specs.declared.halt.Halt.TheVariants as halts
use Rattle.open_logs.proofs.KeptRun.{kept_by_other}
use Rattle.open_logs.specs.Begun.{MadeBy, AreTheirs}
use Rattle.open_logs.specs.declared.error.OpenError.{OpenError}
use Rattle.order_laws.proofs.Orders.{below_apart, given_front}
use Rattle.request_reader.specs.Line.{Request}
use Rattle.rest_check.specs.Rest.{IsAtRest}
use Rattle.rest_laws.specs.Requests.{IsRequest}
use Rattle.round_steps.proofs.Queues.{due_is}
use Rattle.round_steps.specs.Serving.{of_client, HasSaid}
use Rattle.run_causes.specs.declared.cause.Cause.{Cause}
use Rattle.run_causes.specs.declared.cause.Cause.TheVariants.{Done, Usage, BadFlows, BadRequests, Clash, BadPlan, TooLong, Waiting, Long, SiteFault, SayFault, ClockFault, Damaged, Illegal, Unclosed, OtherShape, OtherFlows, Memory, Full, Spent}
use Rattle.run_rules.specs.Rules.{count_told, request_at}
use Rattle.site_model.proofs.Paths.{no_shorter}
use Rattle.site_model.specs.History.{Step, back_to, content_of, IsImage}

-- ---- what comes next of a client

-- each client has a queue
queue_there : (queues : List Queue) → AllByRecursion (λ name. is_some (of_client name queues) ≡ true) (map (λ (q : Queue). q.client) queues)
queue_there [] = tt
queue_there (q ∷ queues) = (ap (λ (b : Bool). is_some (cond b (Some q) (of_client q.client queues))) (bytes_self q.client), wider (map (λ (x : Queue). x.client) queues) (queue_there queues))
  where
    one : (name : List ℕ) (here : Bool) → is_some (of_client name queues) ≡ true → is_some (cond here (Some q) (of_client name queues)) ≡ true
    one name true is = refl
    one name false is = is

    wider : (names : List (List ℕ)) → AllByRecursion (λ name. is_some (of_client name queues) ≡ true) names → AllByRecursion (λ name. is_some (of_client name (q ∷ queues)) ≡ true) names
    wider [] all = tt
    wider (name ∷ names) all = (one name (bytes_eq q.client name) all.0, wider names all.1)

module _ (rules : Rules) (told : List Said) (queues : List Queue) (said : HasSaid rules.requests told queues) where
  -- what comes next of a client that has a queue is what comes behind what was said
  due_there : (name : List ℕ) → is_some (of_client name queues) ≡ true → due_of name queues ≡ request_at (rules_at rules 0) name (count_told (pairs_of told) name)
  due_there name there = due_is name queues ∙ by (of_client name queues) refl there
    where
      by : (o : Option Queue) → of_client name queues ≡ o → is_some o ≡ true → option_and_then first_due o ≡ request_at (rules_at rules 0) name (count_told (pairs_of told) name)
      by None found is = absurd (cc is)
      by (Some q) found is =
          let both = said.each name q found in
          ap (λ (l : List Request). slice_get l q.said) both.0 ∙ ap (λ (n : ℕ). slice_get (requests_of name rules.requests) n) both.1

  each_due : (names : List (List ℕ)) → AllByRecursion (λ name. is_some (of_client name queues) ≡ true) names → AllByRecursion (λ name. due_of name queues ≡ request_at (rules_at rules 0) name (count_told (pairs_of told) name)) names
  each_due [] all = tt
  each_due (name ∷ names) all = (due_there name all.0, each_due names all.1)

  all_due_there : All (λ name. due_of name queues ≡ request_at (rules_at rules 0) name (count_told (pairs_of told) name)) (clients_of rules.requests)
  all_due_there = subst (All (λ name. due_of name queues ≡ request_at (rules_at rules 0) name (count_told (pairs_of told) name))) said.clients (All-from_recursion _ (map (λ (q : Queue). q.client) queues) (each_due (map (λ (q : Queue). q.client) queues) (queue_there queues)))

-- ---- what was accepted

-- what files keep behind what was recovered and settled was accepted
accepted_front : (flows : Flows) (count digest : ℕ) (files : ℕ → List ℕ) (run settled frames : List Commit) → AreKept flows count digest files (run ++ (settled ++ frames)) → AllBelow count (run ++ settled) × AllGiven flows count fresh (run ++ settled)
accepted_front flows count digest files run settled frames keeps = (
  (below_apart count (run ++ settled) frames (subst (AllBelow count) (sym (append_assoc run settled frames)) keeps.below)).0,
  given_front flows count (run ++ settled) frames fresh (subst (AllGiven flows count fresh) (sym (append_assoc run settled frames)) keeps.given),
)

halt_served : (rules : Rules) (trail : List Settled) (halt : Halt) → HasServed rules trail (cause_of_halt halt)
halt_served rules trail (halts.Full partition length_then) = tt
halt_served rules trail (halts.Spent partition number) = tt
halt_served rules trail halts.SiteFault = tt
halt_served rules trail halts.SayFault = tt
halt_served rules trail halts.ClockFault = tt
halt_served rules trail halts.Memory = tt

module _ (flows : Flows) (count digest segment batch most : ℕ) (requests : List Request) (heard : Heard) (tells : Type 0) (old new : List Step) (trail : List Settled) (some : 0 < count) (asks : All IsRequest requests) (told : tells) (kept : List Commit)
    (keeps : AreKept flows count digest (λ file. content_of file old) kept) where
  module _ (came : Came) (port : Option (List Queue)) (served : IsServed flows count digest segment batch most requests heard tells old new trail came port) where
    abbrev its : Rules
    its = call_rules flows count served.begun served.run served.since batch requests true

    -- what was recovered and settled was accepted
    are_accepted : AreAccepted its trail
    are_accepted =
        let own = kept_by_other flows count digest (λ file. content_of file old) served.begun served.run served.made (served.theirs told) kept keeps in
        let moment = length new in
        let image = some_image (back_to moment new) in
        let low : length served.steps ≤ moment = no_shorter (served.further told) in
        let high : moment ≤ length new = omega arith in
        let left = served.crash told served.run own moment low high image.0 image.1 in
        let on = left.3.on in
        let there : AreKept flows count digest image.0 (served.run ++ (commits_of trail ++ frames_in_order count on.going)) =
        subst (λ (t : List Settled). AreKept flows count digest image.0 (served.run ++ (commits_of t ++ frames_in_order count on.going))) (served.by_the_end told) on.kept in
        let both = accepted_front flows count digest image.0 served.run (commits_of trail) (frames_in_order count on.going) there in
        record { begin = served.made.made; below = both.0; given = both.1 }

    -- it came to rest in these states
    module _ (lines : List ℕ) (rest : IsAtRest its trail served.on.queues) (has : HasSaid requests served.on.told served.on.queues) (said : SaidSoFar AnyFollows (Answers its) trail served.on.told lines) where
      rested : IsRested AnyFollows its trail served.on.told lines served.on.queues rest.made.states
      rested = record {
        serves = refl;
        some = some;
        rest = rest.rest;
        asks = asks;
        said = said;
        clients = has.clients;
        due = all_due_there its served.on.told served.on.queues has;
        awaited = rest.awaited;
      }

      at_rest : (queues : List Queue) → queues ≡ served.on.queues → (cause : Cause) → IsRestOrMemory queues cause → HasServed its trail cause
      at_rest queues same Done is =
          let names : map (λ (q : Queue). q.client) queues ≡ clients_of requests = ap (map (λ (q : Queue). q.client)) same ∙ has.clients in
          let all : AreAllSaid served.on.queues (clients_of requests) = subst (λ (q : List Queue). AreAllSaid q (clients_of requests)) same (subst (AreAllSaid queues) names is) in
          (shown flows count rest.made.states, world_after its trail rest.made are_accepted, done AnyFollows its trail served.on.told lines served.on.queues rest.made are_accepted rested all)
      at_rest queues same (Waiting client number) is =
          let names : map (λ (q : Queue). q.client) queues ≡ clients_of requests = ap (map (λ (q : Queue). q.client)) same ∙ has.clients in
          let first : IsFirstUnsaid served.on.queues (clients_of requests) client number = subst (λ (q : List Queue). IsFirstUnsaid q (clients_of requests) client number) same (subst (λ (l : List (List ℕ)). IsFirstUnsaid queues l client number) names is) in
          (shown flows count rest.made.states, world_after its trail rest.made are_accepted, waiting AnyFollows its trail served.on.told lines served.on.queues rest.made are_accepted rested client number first)
      at_rest queues same Usage is = tt
      at_rest queues same (BadFlows fault) is = tt
      at_rest queues same (BadRequests line) is = tt
      at_rest queues same (Clash client number) is = tt
      at_rest queues same (BadPlan place) is = tt
      at_rest queues same (TooLong file) is = tt
      at_rest queues same (Long labels) is = tt
      at_rest queues same SiteFault is = tt
      at_rest queues same SayFault is = tt
      at_rest queues same ClockFault is = tt
      at_rest queues same (Damaged file offset) is = tt
      at_rest queues same (Illegal partition position) is = tt
      at_rest queues same (Unclosed partition position src seq) is = tt
      at_rest queues same (OtherShape found asked) is = tt
      at_rest queues same (OtherFlows found given) is = tt
      at_rest queues same Memory is = tt
      at_rest queues same (Full partition length_then) is = tt
      at_rest queues same (Spent partition number) is = tt

  pub served_so : (came : Came) (port : Option (List Queue)) (cause : Cause) (served : IsServed flows count digest segment batch most requests heard tells old new trail came port) → refusal_in came ≡ None → WentBy came port cause
      → HasServed (call_rules flows count served.begun served.run served.since batch requests true) trail cause
  served_so (cames.Refused error) port cause served went by = absurd (cc went)
  served_so (cames.Halted halt) port cause served went by = subst (HasServed (call_rules flows count served.begun served.run served.since batch requests true) trail) (sym by) (halt_served _ trail halt)
  served_so (cames.Ended (ends.Long labels)) port cause served went by = subst (HasServed (call_rules flows count served.begun served.run served.since batch requests true) trail) (sym by) tt
  served_so (cames.Ended ends.Rest) None cause served went by = absurd (let wrong = served.on.port_is in cc wrong)
  served_so (cames.Ended ends.Rest) (Some queues) cause served went by =
      let ended = served.on.ends ends.Rest refl in
      let says = served.on.says told (λ is. cc is) in
      at_rest (cames.Ended ends.Rest) (Some queues) served says.lines ended.1 ended.0 says.said queues (some_same served.on.port_is) cause by
