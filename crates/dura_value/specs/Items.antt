-- What a partition's log keeps of its steps.
use Rattle.std.specs.Prelude.{ℕ, List}
use Rattle.dura_value.specs.declared.outcome.Outcome.{Outcome}
use Rattle.dura_value.specs.Ids.{Id}
use Rattle.dura_value.specs.Messages.{Message}

-- an entry by its partition, the incarnation of the partition that made it, and its position there
pub record Identity : Type 0 where
  pub partition : ℕ
  pub incarnation : ℕ
  pub position : ℕ

-- A request was taken; the message with this number of the stream from another partition's entry came in; the first message
-- of a link was delivered; an activity was over; a timer fired; of the stream to another partition all before this number
-- is let go, since that partition's entry has the one before it.
pub data Item : Type 0 where
  took : (message : Message) → Item
  got : (source : Identity) → (number : ℕ) → (message : Message) → Item
  ran : (from to : Id) → (stamp : ℕ) → Item
  ended : (id : Id) → (task : ℕ) → (outcome : Outcome) → Item
  fired : (id : Id) → (task stamp : ℕ) → Item
  trim : (reader : Identity) → (number : ℕ) → Item

-- an entry: its position in the log, the incarnation of the partition that made it, and its items
pub record Entry : Type 0 where
  pub position : ℕ
  pub incarnation : ℕ
  pub items : List Item

-- a message to another partition, and the entry that sends it
pub record Posted : Type 0 where
  pub entry : Identity
  pub message : Message

-- an incarnation of a partition began, and gave up all entries of earlier ones from this position on
pub record Floor : Type 0 where
  pub partition : ℕ
  pub incarnation : ℕ
  pub from : ℕ
