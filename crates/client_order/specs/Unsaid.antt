-- Which answers wait to be said.
use Rattle.std.specs.Prelude.{◌≡◌, ℕ, List, true, Some, None}
use Rattle.std.specs.List.{All}
use Rattle.client_order.specs.Order.{no_later}
use Rattle.client_port.specs.Ports.{Queue, due_of}
use Rattle.request_reader.specs.Line.{Request}

-- each client's requests were answered, and the answers said
abbrev pub AreAllSaid : List Queue → (clients : List (List ℕ)) → Type 0
AreAllSaid queues clients = All (λ name. due_of name queues ≡ None) clients

-- this is the number of the client's next request, whose answer wasn't said
pub record IsUnsaid (queues : List Queue) (client : List ℕ) (number : ℕ) : Type 0 where
  pub request : Request
  pub due : due_of client queues ≡ Some request
  pub number_is : number ≡ request.number

-- and of these clients' next requests it comes first
pub record IsFirstUnsaid (queues : List Queue) (clients : List (List ℕ)) (client : List ℕ) (number : ℕ) : Type 0 where
  pub unsaid : IsUnsaid queues client number
  pub first : All (λ name. (r : Request) → due_of name queues ≡ Some r → no_later (client, number) (name, r.number) ≡ true) clients
