-- What a call over many partitions has done for its requests.
use Rattle.std.specs.Prelude.{◌≡◌, ℕ, true, List, ◌++◌, map, Some}
use Rattle.std.specs.List.{All}
use Rattle.client_order.specs.Order.{no_later}
use Rattle.client_port.specs.Clients.{clients_of}
use Rattle.dura_model.specs.Legal.{Legal, Quiet}
use Rattle.dura_model.specs.Partition.{Partition, shown}
use Rattle.dura_model.specs.World.{World}
use Rattle.flow_syntax.specs.Syntax.{Flows}
use Rattle.hub_store.specs.Trail.{Settled}
use Rattle.many_logs.specs.Labels.{labels_of_commits}
use Rattle.many_logs.specs.Placing.{states_after}
use Rattle.many_rules.specs.Rules.{Rules, commits_of}
use Rattle.request_reader.specs.Line.{Request}
use Rattle.rest_laws.specs.Requests.{has_answer, first_open}

-- Nothing is left to do for any of these requests, and each has its answer.
pub record AllServed (flows : Flows) (requests : List Request) (w : World) : Type 0 where
  pub quiet : Quiet flows (map (λ r. r.message) requests) w
  pub answered : All (λ r. has_answer w r.client r ≡ true) requests

-- This is the number of the client's first request without an answer; and of all clients' first ones it comes first, by the client's
-- name and the number.
pub record IsFirstOpen (requests : List Request) (w : World) (name : List ℕ) (number : ℕ) : Type 0 where
  pub request : Request
  pub unanswered : first_open w requests name ≡ Some request
  pub number_is : number ≡ request.number
  pub first : All (λ other. (r : Request) → first_open w requests other ≡ Some r → no_later (name, number) (other, r.number) ≡ true) (clients_of requests)

-- Nothing is left to do for any of these requests, and the first without an answer is this one.
pub record Awaits (flows : Flows) (requests : List Request) (w : World) (name : List ℕ) (number : ℕ) : Type 0 where
  pub quiet : Quiet flows (map (λ r. r.message) requests) w
  pub first : IsFirstOpen requests w name number

-- This is the world that all partitions show once this was settled, and what was recovered and settled is a legal run to it.
pub record IsWorldAfter (rules : Rules) (trail : List Settled) (w : World) : Type 0 where
  pub states : ℕ → Partition
  pub made : states_after rules.flows rules.count rules.begin (commits_of trail) ≡ Some states
  pub world : w ≡ shown rules.flows rules.count states
  pub legal : Legal rules.flows (labels_of_commits rules.recovered ++ labels_of_commits (commits_of trail)) w
