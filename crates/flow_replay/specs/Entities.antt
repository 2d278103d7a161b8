-- What a message makes of an entity.
use Rattle.std.specs.Prelude.{◌≡◌, List}
use Rattle.dura_value.specs.Ids.{Id}
use Rattle.dura_value.specs.Views.{answer_of, messages_of}
use Rattle.dura_value.specs.declared.messages.Answer.{Answer}
use Rattle.dura_value.specs.declared.messages.Message.{Message}
use Rattle.dura_value.specs.declared.data.Value.{Value}
use Rattle.flow_syntax.specs.Syntax as plain_syntax
use Rattle.flow_syntax.specs.Syntax.{Block}
use Rattle.flow_syntax.specs.Views.{class_of}
use Rattle.flow_syntax.specs.declared.flows.Class.{Class}
use Rattle.std.specs.Borrow.{Bor}
use Rattle.flow_syntax.specs.Machine.{Machine, go, most_steps}
use Rattle.flow_syntax.specs.Entity as plain
use Rattle.flow_messages.specs.declared.entities.Entity.{Entity}
use Rattle.flow_messages.specs.Views.{entity_of}

-- An entity has become the one of this delivery, and this is all that it sent.
pub record Delivers (made : List Message) (e : Entity) (d : plain.Delivered) : Type 0 where
  pub entity : entity_of e ≡ d.entity
  pub sent : messages_of made ≡ d.sent

-- the machine that ran an operation's body
unfoldable pub body_run : Id → Value → Value → Block → Machine
body_run id value argument body = (go most_steps (plain.body_begun id value argument body)).machine

-- An entity has become what the end of an operation's body makes of it, and the answer is that of this end.
pub record Finishes (answer : Answer) (e : Entity) (was : plain.Entity) (end : Machine) : Type 0 where
  pub entity : entity_of e ≡ record was { value = plain.new_value was.value end.variables end.progress }
  pub answer_is : answer_of answer ≡ plain.body_answer end.progress

-- a class where it lies
abbrev pub shown_class : Bor Class → plain_syntax.Class
shown_class class = class_of class.now
