-- What a call may commit and say.
use Rattle.std.specs.Prelude.{◌≡◌, ℕ, ◌≤◌, max, List, length, Option, Some, Ok, IsSome}
use Rattle.std.specs.List.{All, filter, slice_get}
use Rattle.std.specs.Str.{bytes_eq}
use Rattle.client_port.specs.Lines.{line_of}
use Rattle.client_port.specs.Clients.{requests_of}
use Rattle.dura_model.specs.Partition.{Partition}
use Rattle.dura_value.specs.Ids.{client}
use Rattle.dura_value.specs.Items.{Item, Entry, took, got, ran, ended, fired, trim}
use Rattle.dura_value.specs.Messages.{Answer, Message}
use Rattle.flow_syntax.specs.Syntax.{Flows}
use Rattle.dura_model.specs.Entries.{placed, AllGiven}
use Rattle.request_reader.specs.Line.{Request}

-- What is fixed when a call begins: the flows, the state that the entries of the log made, the incarnation of the entries that come, and
-- what clients ask.
pub record Rules : Type 0 where
  pub flows : Flows
  pub begin : Partition
  pub incarnation : ℕ
  pub requests : List Request

-- Requests whose answers were said, the first first: their clients' names, and their numbers.
abbrev pub Told : Type 0
Told = List (List ℕ × ℕ)

-- how many of them are a client's
abbrev pub count_told : Told → List ℕ → ℕ
count_told told name = length (filter (λ (one : List ℕ × ℕ). bytes_eq one.0 name) told)

-- a client's request at a place among its own
abbrev pub request_at : Rules → List ℕ → ℕ → Option Request
request_at rules name place = slice_get (requests_of name rules.requests) place

-- A client's request is taken only once those before it were answered.
pub record IsDue (rules : Rules) (told : Told) (message : Message) : Type 0 where
  pub name : List ℕ
  pub place : ℕ
  pub request : Request
  pub asked : request_at rules name place ≡ Some request
  pub sends : message ≡ request.message
  pub answered : place ≤ count_told told name

abbrev pub IsAsked : Rules → Told → Item → Type 0
IsAsked rules told (took message) = IsDue rules told message
IsAsked rules told (got source number message) = Unit {0}
IsAsked rules told (ran from to stamp) = Unit {0}
IsAsked rules told (ended id task outcome) = Unit {0}
IsAsked rules told (fired id task stamp) = Unit {0}
IsAsked rules told (trim reader number) = Unit {0}

-- no item is of a later stamp than this
abbrev pub IsBy : ℕ → Item → Type 0
IsBy now (took message) = Unit {0}
IsBy now (got source number message) = Unit {0}
IsBy now (ran from to stamp) = stamp ≤ now
IsBy now (ended id task outcome) = Unit {0}
IsBy now (fired id task stamp) = stamp ≤ now
IsBy now (trim reader number) = Unit {0}

-- The items of an entry are asked for, its incarnation is this call's, and none of its items is of a later stamp than both the log's
-- entries at the beginning and the clock's latest.
pub record IsOurs (rules : Rules) (latest : ℕ) (told : Told) (entry : Entry) : Type 0 where
  pub incarnation : entry.incarnation ≡ rules.incarnation
  pub asked : All (IsAsked rules told) entry.items
  pub timely : All (IsBy (max rules.begin.stamp latest)) entry.items

-- an outcome is that of an activity which is pending in this state
abbrev pub EndsPending : Partition → Item → Type 0
EndsPending p (took message) = Unit {0}
EndsPending p (got source number message) = Unit {0}
EndsPending p (ran from to stamp) = Unit {0}
EndsPending p (ended id task outcome) = IsSome (p.activities id task)
EndsPending p (fired id task stamp) = Unit {0}
EndsPending p (trim reader number) = Unit {0}

-- all outcomes of these entries are
abbrev pub EndPending : Partition → List Entry → Type 0
EndPending p = All (λ entry. All (EndsPending p) entry.items)

-- Entries that may be committed behind these, where the clock gave no later stamp than this: each is accepted in the state that those
-- before it make, each outcome is one that its activity may give, and they are this call's. No activity ran before the entry was
-- settled that asks for it: each outcome is that of an activity which is pending already in the state that the settled entries make.
pub record Follows (rules : Rules) (latest : ℕ) (settled : List Entry) (told : Told) (going : List Entry) : Type 0 where
  pub before : Partition
  pub made : placed rules.flows 1 rules.begin settled ≡ Ok before
  pub after : Partition
  pub accepted : placed rules.flows 1 before going ≡ Ok after
  pub given : AllGiven rules.flows 1 before going
  pub ours : All (IsOurs rules latest told) going
  pub pending : EndPending before going

-- A line that may be said, once these entries are settled: the answer to its client's next request, as the state has it.
pub record Answers (rules : Rules) (settled : List Entry) (told : Told) (name : List ℕ) (number : ℕ) (line : List ℕ) : Type 0 where
  pub state : Partition
  pub made : placed rules.flows 1 rules.begin settled ≡ Ok state
  pub answer : Answer
  pub has : state.answers (client name) number ≡ Some answer
  pub request : Request
  pub next : request_at rules name (count_told told name) ≡ Some request
  pub number_is : request.number ≡ number
  pub line_is : line ≡ line_of name number answer
