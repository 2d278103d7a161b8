-- A message joins others.
use Rattle.std.proofs.Common.{◌≡◌, ◌++◌, ◌∷◌, List, []}
use Rattle.std.proofs.lemmas.List.{map-append}
use Rattle.dura_value.specs.declared.messages.Message.{Message}
use Rattle.dura_value.specs.Views.{message_of, messages_of}

pub joined : (queue : List Message) (message : Message) → messages_of (queue ++ message ∷ []) ≡ messages_of queue ++ message_of message ∷ []
joined queue message = map-append message_of queue (message ∷ [])
