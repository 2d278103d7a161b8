-- Clients that ask one request after another, and how far a world has come with them.
use Rattle.std.specs.Prelude.{◌≡◌, ℕ, Bool, true, not, is_some, List, Option, Some}
use Rattle.std.specs.List.{All, find}
use Rattle.client_port.specs.Clients.{clients_of, requests_of}
use Rattle.dura_model.specs.Steps.{is_request}
use Rattle.dura_model.specs.World.{World}
use Rattle.dura_value.specs.Ids.{Id, client}
use Rattle.request_reader.specs.Line.{Request}

-- its message is one that its client sends under its number
abbrev pub IsRequest : Request → Type 0
IsRequest r = is_request (client r.client) r.number r.message ≡ true

-- whether a client's request was taken, and whether it has its answer
abbrev pub was_taken : World → List ℕ → Request → Bool
was_taken w name r = is_some (w.taken (client name) r.number)

abbrev pub has_answer : World → List ℕ → Request → Bool
has_answer w name r = is_some (w.answers (client name) r.number)

-- a client's first request without an answer
abbrev pub first_open : World → List Request → (name : List ℕ) → Option Request
first_open w requests name = find (λ r. not (has_answer w name r)) (requests_of name requests)

-- only what was taken is answered
abbrev pub AnswersTaken : World → Type 0
AnswersTaken w = (who : Id) (number : ℕ) → is_some (w.answers who number) ≡ true → is_some (w.taken who number) ≡ true

-- Of each client the first request without an answer was taken: the others wait for it, or all have their answers.
abbrev pub AreTakenUp : World → List Request → Type 0
AreTakenUp w requests = All (λ name. (r : Request) → first_open w requests name ≡ Some r → was_taken w name r ≡ true) (clients_of requests)
