-- The requests of a file, or the first line that is wrong.
use Rattle.std.specs.Prelude.{◌≡◌, ℕ, ◌+◌, ◌==◌, ◌&&◌, ◌||◌, List, [], ◌∷◌, ◌++◌, Bool, false, true, nat_lt, if◌then◌else◌, fold, Result, Ok, Err}
use Rattle.std.specs.List.{list_all, find, slice_split}
use Rattle.std.specs.Option.{option_map_or}
use Rattle.std.specs.Str.{bytes_eq}
use Rattle.dura_value.specs.declared.data.Value.{Value}
use Rattle.dura_value.specs.contracts.data.ValuePartialEq.TheImpl as values
use Rattle.dura_value.specs.Ids.{id_eq}
use Rattle.dura_value.specs.Messages.{Body, Message, start, raise, query, wait}
use Rattle.request_reader.specs.declared.error.RequestsError.{RequestsError}
use Rattle.request_reader.specs.declared.error.RequestsError.TheVariants.{BadLine, Clash, Memory}
use Rattle.request_reader.specs.Line.{Request, request_on}

-- a line that is no request, the first from 1; or another request than an earlier one of this client with this number
pub data Fault : Type 0 where
  bad_line : (line : ℕ) → Fault
  clash : (client : List ℕ) → (number : ℕ) → Fault

-- what was answered, seen by view, is what is wanted, unless memory ran out
abbrev pub RequestsFail : {Y : Type 0} → RequestsError → Result Y Fault → Type 0
RequestsFail (BadLine line) wanted = wanted ≡ Err (bad_line line)
RequestsFail (Clash client number) wanted = wanted ≡ Err (clash client number)
RequestsFail Memory wanted = Unit {0}

abbrev pub RequestsGive : {X Y : Type 0} → (X → Y) → Result X RequestsError → Result Y Fault → Type 0
RequestsGive view (Ok x) wanted = wanted ≡ Ok (view x)
RequestsGive view (Err error) wanted = RequestsFail error wanted

infixl 10 ◌>>=◌
-- a step goes on with what was read, or ends with the fault
abbrev pub ◌>>=◌ : {X Y : Type 0} → Result X Fault → (X → Result Y Fault) → Result Y Fault
(Ok x) >>= f = f x
(Err fault) >>= f = Err fault

-- whether two values are the same
abbrev pub value_eq : Value → Value → Bool
value_eq = (values.ghosts).eq

-- whether two requests ask the same, their numbers aside
abbrev pub body_eq : Body → Body → Bool
body_eq (start argument reply) (start other_argument other_reply) = value_eq argument other_argument
body_eq (raise event value number) (raise other_event other_value other_number) = bytes_eq event other_event && value_eq value other_value
body_eq (query number) (query other_number) = true
body_eq (wait number) (wait other_number) = true
body_eq a b = false

-- whether two messages of one client with one number ask the same
abbrev pub asks_same : Message → Message → Bool
asks_same a b = id_eq a.to b.to && body_eq a.body b.body

abbrev pub request_eq : Request → Request → Bool
request_eq a b = asks_same a.message b.message

-- of this client and with this number
abbrev pub is_by : List ℕ → ℕ → Request → Bool
is_by name number r = bytes_eq r.client name && r.number == number

-- the number of the client's latest request, 0 where it has none
abbrev pub latest : List ℕ → List Request → ℕ
latest name requests = fold (λ n r. if bytes_eq r.client name then r.number else n) 0 requests

-- a request whose number wasn't used: the number has to be above the client's others
abbrev pub with_new : ℕ → List Request → Request → Result (List Request) Fault
with_new line requests r = if nat_lt (latest r.client requests) r.number then Ok (requests ++ r ∷ []) else Err (bad_line line)

-- a request whose number an earlier one has: it is passed over where it is the same
abbrev pub with_used : List Request → Request → Request → Result (List Request) Fault
with_used requests earlier r = if request_eq earlier r then Ok requests else Err (clash r.client r.number)

-- the request of the line with this number, behind those of the lines before
abbrev pub with_request : ℕ → List Request → Request → Result (List Request) Fault
with_request line requests r = option_map_or (λ earlier. with_used requests earlier r) (find (is_by r.client r.number) requests) (with_new line requests r)

-- spaces, tabs and carriage returns alone
abbrev pub is_blank : List ℕ → Bool
is_blank line = list_all (λ byte. byte == 32 || byte == 9 || byte == 13) line

-- the line of this number is passed over, or is a request
abbrev pub after_line : ℕ → List Request → List ℕ → Result (List Request) Fault
after_line number requests line = if is_blank line then Ok requests else option_map_or (with_request number requests) (request_on line) (Err (bad_line number))

-- the lines from this number on
abbrev pub after_lines : ℕ → List Request → List (List ℕ) → Result (List Request) Fault
after_lines number requests [] = Ok requests
after_lines number requests (line ∷ lines) = after_line number requests line >>= λ more. after_lines (number + 1) more lines

abbrev pub is_line_feed : ℕ → Bool
is_line_feed byte = byte == 10

-- the parts between line feeds
abbrev pub lines_of : List ℕ → List (List ℕ)
lines_of bytes = slice_split is_line_feed bytes

-- the requests of a file, in its order
abbrev pub requests_in : List ℕ → Result (List Request) Fault
requests_in bytes = after_lines 1 [] (lines_of bytes)
