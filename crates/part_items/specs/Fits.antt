-- What is within the limits of the format, so that what is written of it is read again.
use Rattle.std.specs.Prelude.{◌≡◌, ℕ, ◌<◌, ◌≤◌, ◌^◌, List, length, true, FitsSigned}
use Rattle.std.specs.List.{All, flat_map}
use Rattle.std.specs.Int.{w64}
use Rattle.dura_value.specs.declared.data.Scalar.{Scalar}
use Rattle.dura_value.specs.declared.data.Scalar.TheVariants as scalars
use Rattle.dura_value.specs.declared.data.Value.{Value}
use Rattle.dura_value.specs.declared.data.Value.TheVariants as values
use Rattle.dura_value.specs.declared.outcome.Outcome.{Outcome}
use Rattle.dura_value.specs.declared.outcome.Outcome.TheVariants as outcomes
use Rattle.dura_value.specs.Ids.{Id, orchestration, entity, client}
use Rattle.dura_value.specs.Messages.{Reply, to_nobody, to_task, to_request, Answer, is_done, has_failed, is_value, Spot, Body, start, raise, query, wait, result, operate, lock, granted, Message}
use Rattle.dura_value.specs.Limits.{most_scalars, most_scalars_bytes, most_spots, number_limit}
use Rattle.dura_value.specs.Names.{is_name, is_key}
use Rattle.dura_value.specs.Text.{IsText}
use Rattle.dura_codec.specs.Spelling.{spell_scalar}

-- numbers that are bytes
abbrev pub AreBytes : List ℕ → Type 0
AreBytes bytes = All (λ byte. byte < 256) bytes

abbrev pub FitsScalar : Scalar → Type 0
FitsScalar (scalars.Int n) = FitsSigned w64 n
FitsScalar (scalars.Text text) = IsText text
FitsScalar other = Unit {0}

-- a list has at most 1,024 scalars, which take no more bytes than a value has
pub record FitsList (parts : List Scalar) : Type 0 where
  pub few : length parts ≤ most_scalars
  pub short : length (flat_map spell_scalar parts) ≤ most_scalars_bytes
  pub each : All FitsScalar parts

abbrev pub FitsValue : Value → Type 0
FitsValue (values.Int n) = FitsSigned w64 n
FitsValue (values.Text text) = IsText text
FitsValue (values.List parts) = FitsList parts
FitsValue other = Unit {0}

-- an entity's class and key, or a flow's name and the key of an instance
pub record FitsPair (name key : List ℕ) : Type 0 where
  pub name_is : is_name name ≡ true
  pub key_is : is_key key ≡ true

abbrev pub FitsId : Id → Type 0
FitsId (orchestration flow key) = FitsPair flow key
FitsId (entity class key) = FitsPair class key
FitsId (client name) = is_name name ≡ true

-- a number of 32 bits
abbrev pub FitsNumber : ℕ → Type 0
FitsNumber number = number < 2 ^ 32

-- a number of 64 bits whose highest bit is clear
abbrev pub FitsCount : ℕ → Type 0
FitsCount number = number < number_limit

-- a request's number isn't 0
pub record FitsRequest (number : ℕ) : Type 0 where
  pub some : 0 < number
  pub fits : FitsNumber number

abbrev pub FitsReply : Reply → Type 0
FitsReply to_nobody = Unit {0}
FitsReply (to_task number) = FitsNumber number
FitsReply (to_request number) = FitsRequest number

abbrev pub FitsAnswer : Answer → Type 0
FitsAnswer (is_done value) = FitsValue value
FitsAnswer (has_failed text) = IsText text
FitsAnswer (is_value value) = FitsValue value
FitsAnswer other = Unit {0}

abbrev pub FitsOutcome : Outcome → Type 0
FitsOutcome (outcomes.Done value) = FitsValue value
FitsOutcome (outcomes.Failed text) = IsText text

abbrev pub FitsSpot : Spot → Type 0
FitsSpot spot = FitsPair spot.class spot.key

-- a lock's set has at most 16 entities, and its place is a byte
pub record FitsLock (id : Id) (task : ℕ) (set : List Spot) (index : ℕ) : Type 0 where
  pub id_fits : FitsId id
  pub task_fits : FitsNumber task
  pub few : length set ≤ most_spots
  pub each : All FitsSpot set

abbrev pub FitsBody : Body → Type 0
FitsBody (start argument reply) = FitsValue argument × FitsReply reply
FitsBody (raise event value number) = (is_name event ≡ true) × FitsValue value × FitsRequest number
FitsBody (query number) = FitsRequest number
FitsBody (wait number) = FitsRequest number
FitsBody (result reply answer) = FitsReply reply × FitsAnswer answer
FitsBody (operate operation argument reply) = (is_name operation ≡ true) × FitsValue argument × FitsReply reply
FitsBody (lock id task set index) = FitsLock id task set index
FitsBody (granted task) = FitsNumber task
FitsBody other = Unit {0}

pub record FitsMessage (message : Message) : Type 0 where
  pub from_fits : FitsId message.from
  pub to_fits : FitsId message.to
  pub body_fits : FitsBody message.body
