-- What clients have asked, and what may be sent next.
use Rattle.std.specs.Prelude.{ℕ, ◌+◌, List, [], ◌∷◌, ◌++◌, fold, length, nat_lt, Bool, if◌then◌else◌, Option, None}
use Rattle.std.specs.List.{filter_map, list_any, slice_get}
use Rattle.std.specs.Str.{bytes_eq}
use Rattle.request_reader.specs.Line.{Request}

-- the requests of a client in their order, the first of which were said
pub record Queue : Type 0 where
  pub client : List ℕ
  pub requests : List Request
  pub said : ℕ

-- whether it is this client's
abbrev pub is_of : List ℕ → Queue → Bool
is_of name q = bytes_eq q.client name

-- the client's queue is changed
abbrev pub at_client : (Queue → Queue) → List ℕ → List Queue → List Queue
at_client f name [] = []
at_client f name (q ∷ qs) = if is_of name q then f q ∷ qs else q ∷ at_client f name qs

-- a request comes behind its client's others
abbrev pub with_last : Request → Queue → Queue
with_last r q = record q { requests = q.requests ++ r ∷ [] }

abbrev pub with_request : List Queue → Request → List Queue
with_request qs r = if list_any (is_of r.client) qs then at_client (with_last r) r.client qs else qs ++ record { client = r.client; requests = r ∷ []; said = 0 } ∷ []

-- the requests of a file by client
abbrev pub queues_of : List Request → List Queue
queues_of requests = fold with_request [] requests

-- the client's first request that wasn't said
abbrev pub first_due : Queue → Option Request
first_due q = slice_get q.requests q.said

-- the first request of each client that wasn't said
abbrev pub all_due : List Queue → List Request
all_due qs = filter_map first_due qs

-- the same of one client
abbrev pub due_of : List ℕ → List Queue → Option Request
due_of name [] = None
due_of name (q ∷ qs) = if is_of name q then first_due q else due_of name qs

-- one more was said, where there is one
abbrev pub with_said : Queue → Queue
with_said q = if nat_lt q.said (length q.requests) then record q { said = q.said + 1 } else q
