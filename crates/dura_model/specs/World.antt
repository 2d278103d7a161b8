-- The world of the failure-free machine.
use Rattle.std.specs.Prelude.{ℕ, ◌==◌, ◌&&◌, List, [], if◌then◌else◌, Option, None}
use Rattle.dura_value.specs.declared.data.Value.{Value}
use Rattle.dura_value.specs.Ids.{Id, id_eq}
use Rattle.dura_value.specs.Messages.{Answer, Message}
use Rattle.flow_syntax.specs.Machine.{Machine}
use Rattle.flow_syntax.specs.Entity.{Entity}

-- an instance: its machine, and the clients that wait for its end, with the numbers of their requests, the longest waiting first
pub record Orchestration : Type 0 where
  pub machine : Machine
  pub waiting : List (Id × ℕ)

-- an activity that is asked for
pub record Activity : Type 0 where
  pub name : List ℕ
  pub argument : Value

-- All instances and all entities that a message reached; the messages under way from each sender to each receiver, the
-- oldest first; the activities and the timers that are pending, by instance and task; the requests taken and the answers
-- that came, by client and number.
pub record World : Type 0 where
  pub orchestrations : Id → Option Orchestration
  pub entities : Id → Option Entity
  pub links : Id → Id → List Message
  pub activities : Id → ℕ → Option Activity
  pub timers : Id → ℕ → Option ℕ
  pub taken : Id → ℕ → Option Message
  pub answers : Id → ℕ → Option Answer

-- nothing happened yet
abbrev pub empty : World
empty = record {
  orchestrations = λ id. None;
  entities = λ id. None;
  links = λ from to. [];
  activities = λ id task. None;
  timers = λ id task. None;
  taken = λ client number. None;
  answers = λ client number. None;
}

-- at one link this, elsewhere as before
abbrev pub at_link : {X : Type 0} → (Id → Id → X) → Id → Id → X → Id → Id → X
at_link f from to x other_from other_to = if id_eq from other_from && id_eq to other_to then x else f other_from other_to
