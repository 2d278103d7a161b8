-- Whether what was taken before is what is asked for.
use Rattle.std.specs.Prelude.{◌≡◌, ℕ, Bool, true, false, not, List, Option, Some, None}
use Rattle.std.specs.List.{All, Contains}
use Rattle.client_order.specs.Order.{no_later}
use Rattle.dura_model.specs.Partition.{Partition}
use Rattle.dura_value.specs.Ids.{client, home}
use Rattle.dura_value.specs.Messages.{Message}
use Rattle.request_reader.specs.Line.{Request}
use Rattle.request_reader.specs.Requests.{asks_same}

-- the request that was taken under a client's name and a number, if one was
abbrev pub Taken : Type 0
Taken = (name : List ℕ) (number : ℕ) → Option Message

-- as the client's home has it, of so many partitions
abbrev pub taken_in : (count : ℕ) → (states : ℕ → Partition) → Taken
taken_in count states name number = (states (home count (client name))).taken (client name) number

abbrev pub differs : Option Message → Message → Bool
differs None asked = false
differs (Some taken) asked = not (asks_same taken asked)

-- whether another request was taken under the client's name and number
abbrev pub clashes : Taken → Request → Bool
clashes taken r = differs (taken r.client r.number) r.message

-- a request of these has this client and this number, and another was taken under them
pub record HasClash (taken : Taken) (requests : List Request) (name : List ℕ) (number : ℕ) : Type 0 where
  pub request : Request
  pub asked : Contains requests request
  pub client_is : name ≡ request.client
  pub number_is : number ≡ request.number
  pub clashes : clashes taken request ≡ true

-- and of those that clash it comes first
pub record IsClash (taken : Taken) (requests : List Request) (name : List ℕ) (number : ℕ) : Type 0 where
  pub there : HasClash taken requests name number
  pub first : All (λ r. clashes taken r ≡ true → no_later (name, number) (r.client, r.number) ≡ true) requests

-- none of these clashes
abbrev pub NoClash : Taken → List Request → Type 0
NoClash taken requests = All (λ r. clashes taken r ≡ false) requests
