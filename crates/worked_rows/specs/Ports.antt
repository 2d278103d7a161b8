-- What is due of two clients' requests, and the lines of what was said.
use Rattle.std.specs.Prelude.{◌≡◌, ℕ, List, [], ◌∷◌, ◌++◌, map, option_map, option_to_list, codes, Option, Some, None, pos}
use Rattle.client_port.specs.Lines.{line_of}
use Rattle.client_port.specs.Ports.{Queue, queues_of, all_due, at_client, due_of, with_said}
use Rattle.dura_value.specs.declared.data.Value.TheVariants as values
use Rattle.dura_value.specs.Ids.{orchestration, client}
use Rattle.dura_value.specs.Messages.{Answer, was_started, is_done, Body, start, query, wait, to_request}
use Rattle.request_reader.specs.Line.{Request}

-- a client's request of the instance Sum/x
abbrev asked : List ℕ → ℕ → Body → Request
asked name number body = record {
  client = name;
  number = number;
  message = record { from = client name; to = orchestration (codes "Sum") (codes "x"); body = body };
}

abbrev pub requests : List Request
requests =
    asked (codes "a") 1 (start values.Null (to_request 1))
    ∷ asked (codes "b") 4 (query 4)
    ∷ asked (codes "a") 2 (wait 2)
    ∷ []

abbrev pub at_first : List Queue
at_first = queues_of requests

-- client a's next request is answered
abbrev a_is_told : List Queue → List Queue
a_is_told queues = at_client with_said (codes "a") queues

abbrev pub started : List Queue
started = a_is_told at_first

-- its last answer, and one to a request that isn't there
abbrev pub told : List Queue
told = a_is_told (a_is_told started)

-- the line of an answer to what is due of client a, where something is
abbrev line_of_a : List Queue → Answer → List (List ℕ)
line_of_a queues answer = option_to_list (option_map (λ (r : Request). line_of r.client r.number answer) (due_of (codes "a") queues))

-- the lines of these answers
abbrev pub lines_told : List (List ℕ)
lines_told = line_of_a at_first was_started ++ line_of_a started (is_done (values.Int (pos 5))) ++ line_of_a (a_is_told started) was_started

abbrev numbers_due : List Queue → List ℕ
numbers_due queues = map (λ (r : Request). r.number) (all_due queues)

abbrev next_number : List ℕ → List Queue → Option ℕ
next_number name queues = option_map (λ (r : Request). r.number) (due_of name queues)

abbrev pub BeginsSo : Type 0
BeginsSo = numbers_due at_first ≡ 1 ∷ 4 ∷ []

abbrev pub GoesOnSo : Type 0
GoesOnSo =
    (numbers_due started ≡ 2 ∷ 4 ∷ [])
    × (next_number (codes "a") started ≡ Some 2)
    × (next_number (codes "b") started ≡ Some 4)
    × (next_number (codes "c") started ≡ None)

abbrev pub EndsSo : Type 0
EndsSo =
    (numbers_due told ≡ 4 ∷ [])
    × (lines_told ≡ codes "a 1 started\n" ∷ codes "a 2 done 5\n" ∷ [])
