-- The clients of a file, and what each of them asks.
use Rattle.std.specs.Prelude.{ℕ, List, [], ◌∷◌, ◌++◌, fold, if◌then◌else◌}
use Rattle.std.specs.List.{filter, list_any}
use Rattle.std.specs.Str.{bytes_eq}
use Rattle.client_port.specs.Ports.{Queue}
use Rattle.request_reader.specs.Line.{Request}

-- the requests of one client, in their order
abbrev pub requests_of : List ℕ → List Request → List Request
requests_of name requests = filter (λ r. bytes_eq r.client name) requests

-- the client of a request stands behind the others, unless it is one of them
abbrev pub with_client : List (List ℕ) → Request → List (List ℕ)
with_client names r = if list_any (λ name. bytes_eq name r.client) names then names else names ++ r.client ∷ []

-- the clients, in the order of their first requests
abbrev pub clients_of : List Request → List (List ℕ)
clients_of requests = fold with_client [] requests

-- a client's queue where nothing was said
abbrev pub queue_for : List Request → List ℕ → Queue
queue_for requests name = record { client = name; requests = requests_of name requests; said = 0 }
