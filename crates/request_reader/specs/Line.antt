-- The request that a line is.
use Rattle.std.specs.Prelude.{ℕ, ◌+◌, ◌^◌, ◌&&◌, List, codes, Bool, true, false, nat_le, nat_lt, if◌then◌else◌, is_some, Option, Some}
use Rattle.serde_json.specs.Data.{Data}
use Rattle.serde_json.specs.Find.{get, as_number, as_u64}
use Rattle.dura_value.specs.Ids.{Id, orchestration, entity, client}
use Rattle.dura_value.specs.Messages.{Body, start, raise, query, wait, to_request, Message}
use Rattle.dura_value.specs.declared.messages.Request.{Request as OwnRequest}
use Rattle.dura_value.specs.Views.{message_of}
use Rattle.request_reader.specs.Json.{data_of, has_members, one_if, name_at, id_at}
use Rattle.dura_value.specs.Optional.{◌>>=◌, guard, where_it}
use Rattle.request_reader.specs.Values.{value_at}

-- a request: whose it is, its number, and the message that it sends
pub record Request : Type 0 where
  pub client : List ℕ
  pub number : ℕ
  pub message : Message

abbrev pub request_of : OwnRequest → Request
request_of r = record { client = r.client; number = r.number; message = message_of r.message }

-- 1 to 2^32 - 1
abbrev pub is_number : ℕ → Bool
is_number n = nat_le 1 n && nat_lt n (2 ^ 32)

abbrev pub number_in : Data → Option ℕ
number_in d = get (codes "n") d >>= as_number >>= as_u64 >>= where_it is_number

-- an instance of a flow
abbrev pub is_instance : Id → Bool
is_instance (orchestration flow key) = true
is_instance (entity class key) = false
is_instance (client name) = false

-- whom a query may ask: all but clients
abbrev pub has_state : Id → Bool
has_state (orchestration flow key) = true
has_state (entity class key) = true
has_state (client name) = false

-- whom a message is for, and what it says
abbrev pub Sent : Type 0
Sent = Id × Body

-- {"client":c,"n":n,"start":"F/k","arg":v}, where the argument may lack
abbrev pub start_in : ℕ → Data → Option Sent
start_in n d = guard (has_members (3 + one_if (get (codes "arg") d)) d)
    (id_at (codes "start") d >>= where_it is_instance >>= λ to. value_at (codes "arg") d >>= λ argument. Some (to, start argument (to_request n)))

-- {"client":c,"n":n,"wait":"F/k"}
abbrev pub wait_in : ℕ → Data → Option Sent
wait_in n d = guard (has_members 3 d) (id_at (codes "wait") d >>= where_it is_instance >>= λ to. Some (to, wait n))

-- {"client":c,"n":n,"raise":"F/k","event":e,"value":v}, where the value may lack
abbrev pub raise_in : ℕ → Data → Option Sent
raise_in n d = guard (has_members (4 + one_if (get (codes "value") d)) d)
    (id_at (codes "raise") d >>= where_it is_instance >>= λ to. name_at (codes "event") d >>= λ event.
    value_at (codes "value") d >>= λ value. Some (to, raise event value n))

-- {"client":c,"n":n,"query":"F/k"}, or of an entity
abbrev pub query_in : ℕ → Data → Option Sent
query_in n d = guard (has_members 3 d) (id_at (codes "query") d >>= where_it has_state >>= λ to. Some (to, query n))

-- of the kind that the members tell
abbrev pub sent_in : ℕ → Data → Option Sent
sent_in n d =
    if is_some (get (codes "start") d) then start_in n d
    else (if is_some (get (codes "wait") d) then wait_in n d
    else (if is_some (get (codes "raise") d) then raise_in n d
    else query_in n d))

-- the request of an object with the members client, n and those of one kind
abbrev pub request_in : Data → Option Request
request_in d = name_at (codes "client") d >>= λ name. number_in d >>= λ n. sent_in n d >>= λ sent.
    Some (record { client = name; number = n; message = record { from = client name; to = sent.0; body = sent.1 } })

-- the request of a line
abbrev pub request_on : List ℕ → Option Request
request_on line = data_of line >>= request_in
