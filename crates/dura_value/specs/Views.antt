-- The plain data that ids, replies, answers, bodies and messages stand for.
use Rattle.std.specs.Prelude.{List, map}
use Rattle.dura_value.specs.declared.addresses.Id.{Id}
use Rattle.dura_value.specs.declared.addresses.Id.TheVariants.{Client, Entity, Flow}
use Rattle.dura_value.specs.declared.messages.Reply.{Reply}
use Rattle.dura_value.specs.declared.messages.Reply.TheVariants as replies
use Rattle.dura_value.specs.declared.messages.Answer.{Answer}
use Rattle.dura_value.specs.declared.messages.Answer.TheVariants as answers
use Rattle.dura_value.specs.declared.messages.Body.{Body}
use Rattle.dura_value.specs.declared.messages.Body.TheVariants as bodies
use Rattle.dura_value.specs.declared.messages.Message.{Message}
use Rattle.dura_value.specs.declared.outputs.Answered.{Answered}
use Rattle.dura_value.specs.declared.outputs.Outputs.{Outputs}
use Rattle.dura_value.specs.declared.identity.Identity.{Identity}
use Rattle.dura_value.specs.declared.identity.Posted.{Posted}
use Rattle.dura_value.specs.declared.identity.Floor.{Floor}
use Rattle.dura_value.specs.declared.spots.Spot.{Spot}
use Rattle.dura_value.specs.Items as items
use Rattle.dura_value.specs.Ids as plain
use Rattle.dura_value.specs.Messages as said

abbrev pub id_of : Id → plain.Id
id_of (Client name) = plain.client name
id_of (Entity class key) = plain.entity class key
id_of (Flow flow key) = plain.orchestration flow key

abbrev pub reply_of : Reply → said.Reply
reply_of replies.None = said.to_nobody
reply_of (replies.Task number) = said.to_task number
reply_of (replies.Request number) = said.to_request number

abbrev pub answer_of : Answer → said.Answer
answer_of (answers.Done value) = said.is_done value
answer_of (answers.Failed text) = said.has_failed text
answer_of answers.Started = said.was_started
answer_of answers.Exists = said.was_there
answer_of answers.Unknown = said.is_unknown
answer_of answers.Raised = said.was_raised
answer_of answers.Ended = said.has_ended
answer_of answers.None = said.is_missing
answer_of answers.Running = said.is_running
answer_of (answers.Value value) = said.is_value value

abbrev pub spot_of : Spot → said.Spot
spot_of spot = record { class = spot.class; key = spot.key }

abbrev pub spots_of : List Spot → List said.Spot
spots_of = map spot_of

abbrev pub body_of : Body → said.Body
body_of (bodies.Start argument reply) = said.start argument (reply_of reply)
body_of (bodies.Raise event value number) = said.raise event value number
body_of (bodies.Query number) = said.query number
body_of (bodies.Wait number) = said.wait number
body_of (bodies.Result reply answer) = said.result (reply_of reply) (answer_of answer)
body_of (bodies.Op operation argument reply) = said.operate operation argument (reply_of reply)
body_of (bodies.Lock id task set index) = said.lock (id_of id) task (spots_of set) index
body_of (bodies.Granted task) = said.granted task
body_of bodies.Release = said.release

abbrev pub message_of : Message → said.Message
message_of message = record { from = id_of message.from; to = id_of message.to; body = body_of message.body }

abbrev pub messages_of : List Message → List said.Message
messages_of = map message_of

abbrev pub answered_of : Answered → said.Answered
answered_of one = record { client = plain.client one.client; number = one.number; answer = answer_of one.answer }

abbrev pub outputs_of : Outputs → said.Outputs
outputs_of made = record { sent = messages_of made.messages; answered = map answered_of made.answers }

-- ---- entries by who they are

abbrev pub identity_of : Identity → items.Identity
identity_of i = record { partition = i.partition; incarnation = i.incarnation; position = i.position }

abbrev pub posted_of : Posted → items.Posted
posted_of posted = record { entry = identity_of posted.entry; message = message_of posted.message }

abbrev pub floor_of : Floor → items.Floor
floor_of floor = record { partition = floor.partition; incarnation = floor.incarnation; from = floor.from }
