-- Messages of one link.
use Rattle.std.specs.Prelude.{◌&&◌, Bool, Option, Some, None}
use Rattle.dura_value.specs.declared.messages.Message.{Message}
use Rattle.dura_value.specs.Ids.{Id, id_eq}
use Rattle.dura_value.specs.Messages.{Body}
use Rattle.dura_value.specs.Views.{id_of, body_of}

-- whether a message is from one to the other
abbrev pub is_of_link : Id → Id → Message → Bool
is_of_link from to message = id_eq from (id_of message.from) && id_eq to (id_of message.to)

-- what a message says
abbrev pub said_in : Option Message → Option Body
said_in None = None
said_in (Some message) = Some (body_of message.body)
