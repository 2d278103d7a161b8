-- How a call over many partitions came to rest.
use Rattle.std.specs.Prelude.{◌≡◌, ◌<◌, ℕ, true, is_some, List, ◌++◌, map, Some, None}
use Rattle.std.specs.List.{All}
use Rattle.client_port.specs.Clients.{clients_of}
use Rattle.client_port.specs.Ports.{Queue, due_of}
use Rattle.dura_model.specs.Partition.{Partition, fresh}
use Rattle.dura_value.specs.Ids.{client, home}
use Rattle.dura_value.specs.Items.{Entry}
use Rattle.hub_store.specs.Moments.{SaidSoFar}
use Rattle.hub_store.specs.Trail.{Settled, Said}
use Rattle.many_logs.specs.Labels.{AllGiven}
use Rattle.many_logs.specs.Placing.{states_after, AllBelow}
use Rattle.many_rules.specs.Rules.{Rules, Answers, rules_at, commits_of, pairs_of}
use Rattle.request_reader.specs.Line.{Request}
use Rattle.rest_laws.specs.Requests.{IsRequest}
use Rattle.rest_laws.specs.Rest.{AreAtRest}
use Rattle.run_rules.specs.Rules.{count_told, request_at}

-- whatever frames follow
abbrev pub AnyFollows : List Settled → List Said → ℕ → List Entry → Type 0
AnyFollows trail told partition going = Unit {0}

-- What was recovered made the states with which the call began. It is of the call's partitions, and so is what was settled; and each outcome
-- among both is one that its activity may give.
pub record AreAccepted (rules : Rules) (trail : List Settled) : Type 0 where
  pub begin : states_after rules.flows rules.count fresh rules.recovered ≡ Some rules.begin
  pub below : AllBelow rules.count (rules.recovered ++ commits_of trail)
  pub given : AllGiven rules.flows rules.count fresh (rules.recovered ++ commits_of trail)

-- what comes next of a client was taken, and isn't answered
abbrev pub IsNextAwaited : (count : ℕ) → (ℕ → Partition) → List Queue → (name : List ℕ) → Type 0
IsNextAwaited count states queues name = (r : Request) → due_of name queues ≡ Some r
    → (is_some ((states (home count (client name))).taken (client name) r.number) ≡ true) × ((states (home count (client name))).answers (client name) r.number ≡ None)

module _ (MayFollow : List Settled → List Said → ℕ → List Entry → Type 0) where
  -- A call that serves clients came to rest in these states, once this was settled and this was said.
  pub record IsRested (rules : Rules) (trail : List Settled) (told : List Said) (lines : List ℕ) (queues : List Queue) (states : ℕ → Partition) : Type 0 where
    pub serves : rules.serves ≡ true
    pub some : 0 < rules.count
    pub rest : AreAtRest rules.count states
    -- its requests are those that clients send under their numbers
    pub asks : All IsRequest rules.requests
    -- each line that was said answers its client's next request, as what was settled by then has it
    pub said : SaidSoFar MayFollow (Answers rules) trail told lines
    -- the queues are those of the clients, and what comes next of each is what comes behind what was said
    pub clients : map (λ q. q.client) queues ≡ clients_of rules.requests
    pub due : All (λ name. due_of name queues ≡ request_at (rules_at rules 0) name (count_told (pairs_of told) name)) (clients_of rules.requests)
    pub awaited : All (IsNextAwaited rules.count states queues) (clients_of rules.requests)
