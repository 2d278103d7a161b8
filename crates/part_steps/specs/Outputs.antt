-- What an item makes a partition send and answer.
use Rattle.std.specs.Prelude.{ℕ, List, [], ◌∷◌, map, Option, Some, None}
use Rattle.dura_value.specs.declared.outcome.Outcome.{Outcome}
use Rattle.dura_value.specs.Ids.{Id, orchestration, entity, client}
use Rattle.dura_value.specs.Items.{Item, took, ran, ended, fired}
use Rattle.dura_value.specs.Messages.{to_request, Answer, Body, result, Message}
use Rattle.dura_value.specs.Views.{answer_of as seen, messages_of}
use Rattle.dura_value.specs.declared.outputs.Answered as seen_answers
use Rattle.dura_value.specs.declared.outputs.Outputs as seen_outputs
use Rattle.flow_syntax.specs.Syntax.{Flows}
use Rattle.flow_syntax.specs.Machine.{resulted, fired as timer_fired}
use Rattle.flow_syntax.specs.Entity.{deliver as deliver_to}
use Rattle.dura_model.specs.World.{Orchestration}
use Rattle.dura_model.specs.Deliveries.{goes_on_from, to_instance}
use Rattle.dura_model.specs.Steps.{answer_of, entity_of}
use Rattle.dura_model.specs.Partition.{Partition, first_in, instance_at}

-- the answer to a client's request
pub record Answered : Type 0 where
  pub client : List ℕ
  pub number : ℕ
  pub answer : Answer

-- what is sent, in its order, and the answers that came
pub record Outputs : Type 0 where
  pub sent : List Message
  pub answers : List Answered

-- what a message makes its receiver send at this stamp
abbrev pub sent_to : Flows → Partition → (from to : Id) → ℕ → Body → List Message
sent_to flows p from (orchestration flow key) stamp body =
    let to = orchestration flow key in (to_instance flows (instance_at flows p to) from to stamp body).sent
sent_to flows p from (entity class key) stamp body =
    let to = entity class key in (deliver_to flows (record (entity_of flows class (p.entities to)) { last = stamp }) class from to body).sent
sent_to flows p from (client name) stamp body = []

abbrev pub sent_at : Flows → Partition → (from to : Id) → ℕ → Option Body → List Message
sent_at flows p from to stamp None = []
sent_at flows p from to stamp (Some body) = sent_to flows p from to stamp body

-- what the outcome of an activity makes its instance send
abbrev pub sent_at_end : Option Orchestration → ℕ → Outcome → List Message
sent_at_end None task outcome = []
sent_at_end (Some o) task outcome = (goes_on_from o (resulted task (answer_of outcome)) o.machine.last []).sent

-- what a timer that fires makes its instance send
abbrev pub sent_at_timer : Option Orchestration → (task stamp : ℕ) → List Message
sent_at_timer None task stamp = []
sent_at_timer (Some o) task stamp = (goes_on_from o (timer_fired task) stamp []).sent

-- what an item makes a partition send: a request that is taken, and what its receiver or its instance sends
abbrev pub sent_by : Flows → Partition → Item → List Message
sent_by flows p (took message) = message ∷ []
sent_by flows p (ran from to stamp) = sent_at flows p from to stamp (first_in p.queue from to)
sent_by flows p (ended id task outcome) = sent_at_end (instance_at flows p id) task outcome
sent_by flows p (fired id task stamp) = sent_at_timer (instance_at flows p id) task stamp
sent_by flows p other = []

abbrev pub answered_at : List ℕ → ℕ → Answer → Option Message → List Answered
answered_at name number answer None = []
answered_at name number answer (Some message) = record { client = name; number = number; answer = answer } ∷ []

abbrev pub answered_to : Partition → Id → Option Body → List Answered
answered_to p (client name) (Some (result (to_request number) answer)) = answered_at name number answer (p.taken (client name) number)
answered_to p to found = []

-- the answers that an item brings: the one that reaches a client for a request that was taken
abbrev pub answered_by : Partition → Item → List Answered
answered_by p (ran from to stamp) = answered_to p to (first_in p.queue from to)
answered_by p other = []

abbrev pub outputs_by : Flows → Partition → Item → Outputs
outputs_by flows p item = record { sent = sent_by flows p item; answers = answered_by p item }

-- ---- what outputs stand for

abbrev pub answered_of : seen_answers.Answered → Answered
answered_of one = record { client = one.client; number = one.number; answer = seen one.answer }

abbrev pub outputs_of : seen_outputs.Outputs → Outputs
outputs_of made = record { sent = messages_of made.messages; answers = map answered_of made.answers }
