-- What bytes read as. A fault is told by how many bytes are left from its field on.
use Rattle.std.specs.Prelude.{ℕ, ◌+◌, ◌-◌, ◌==◌, ◌&&◌, List, length, take, drop, Ok, Err, Option, Some, None, nat_lt, nat_le, if◌then◌else◌}
use Rattle.std.specs.Int.{w16, w32, w64, cast_signed}
use Rattle.std.specs.Str.{is_utf8}
use Rattle.dura_value.specs.declared.data.Scalar.{Scalar}
use Rattle.dura_value.specs.declared.data.Scalar.TheVariants as scalars
use Rattle.dura_value.specs.declared.data.Value.{Value}
use Rattle.dura_value.specs.declared.data.Value.TheVariants as values
use Rattle.dura_value.specs.declared.outcome.Outcome.{Outcome}
use Rattle.dura_value.specs.declared.outcome.Outcome.TheVariants as outcomes
use Rattle.dura_value.specs.Ids.{Id, orchestration, entity, client}
use Rattle.dura_value.specs.Limits.{most_word_bytes, most_text_bytes, most_scalars, most_scalars_bytes, most_spots}
use Rattle.dura_value.specs.Messages.{Reply, to_nobody, to_task, to_request, Answer, is_done, has_failed, was_started, was_there, is_unknown, was_raised, has_ended, is_missing, is_running, is_value, Spot, Body, start, raise, query, wait, result, operate, lock, granted, release, Message}
use Rattle.dura_value.specs.Names.{is_name, is_key}
use Rattle.dura_value.specs.Reading.{◌>>=◌}
use Rattle.dura_value.specs.Values.{value_of}
use Rattle.dura_codec.specs.Fields.{Read, byte_at, number_at, request_number_at, run_at, several_at}
use Rattle.dura_codec.specs.Tags.{null_tag, false_tag, true_tag, int_tag, text_tag, list_tag, flow_tag, entity_tag, client_tag, nobody_tag, task_tag, request_tag, done_tag, failed_tag, started_tag, exists_tag, unknown_tag, raised_tag, ended_tag, missing_tag, running_tag, value_tag, start_tag, raise_tag, query_tag, wait_tag, result_tag, operate_tag, lock_tag, granted_tag, release_tag}

-- the length of a name or key: 1 to 64
unfoldable pub word_size_at : List ℕ → Read ℕ
word_size_at bytes = do
  size ← byte_at bytes
  if nat_lt 0 size.0 && nat_le size.0 most_word_bytes then Ok size else Err (length bytes)

unfoldable pub name_at : List ℕ → Read (List ℕ)
name_at bytes = do
  size ← word_size_at bytes
  run_at is_name size.0 size.1

unfoldable pub key_at : List ℕ → Read (List ℕ)
key_at bytes = do
  size ← word_size_at bytes
  run_at is_key size.0 size.1

unfoldable pub text_at : List ℕ → Read (List ℕ)
text_at bytes = do
  size ← number_at w16 bytes
  if nat_le size.0 most_text_bytes then run_at is_utf8 size.0 size.1 else Err (length bytes)

unfoldable pub scalar_at : List ℕ → Read Scalar
scalar_at bytes =
    byte_at bytes >>= λ tag.
    if tag.0 == null_tag
    then Ok (scalars.Null, tag.1)
    else if tag.0 == false_tag
    then Ok (scalars.False, tag.1)
    else if tag.0 == true_tag
    then Ok (scalars.True, tag.1)
    else if tag.0 == int_tag
    then (number_at w64 tag.1 >>= λ n. Ok (scalars.Int (cast_signed w64 n.0), n.1))
    else if tag.0 == text_tag
    then (text_at tag.1 >>= λ text. Ok (scalars.Text text.0, text.1))
    else Err (length bytes)

-- the bytes that the scalars of a list may take: a value has at most 65,536
unfoldable pub value_front : List ℕ → List ℕ
value_front bytes = take most_scalars_bytes bytes

-- what was read of a front, and all of the bytes behind it
abbrev pub of_front : {X : Type 0} → (bytes front : List ℕ) → Read X → Read X
of_front bytes front (Ok x) = Ok (x.0, drop (length front - length x.1) bytes)
of_front bytes front (Err left) = Err (left + (length bytes - length front))

-- a count of at most 1,024, and so many scalars in at most 65,536 bytes with the tag and the count
unfoldable pub scalars_at : List ℕ → Read (List Scalar)
scalars_at bytes = do
  count ← number_at w16 bytes
  if nat_le count.0 most_scalars then of_front count.1 (value_front count.1) (several_at scalar_at count.0 (value_front count.1)) else Err (length bytes)

unfoldable pub value_at : List ℕ → Read Value
value_at bytes =
    byte_at bytes >>= λ tag.
    if tag.0 == list_tag then (scalars_at tag.1 >>= λ parts. Ok (values.List parts.0, parts.1)) else (scalar_at bytes >>= λ scalar. Ok (value_of scalar.0, scalar.1))

unfoldable pub id_at : List ℕ → Read Id
id_at bytes =
    byte_at bytes >>= λ tag.
    if tag.0 == flow_tag
    then (name_at tag.1 >>= λ flow. key_at flow.1 >>= λ key. Ok (orchestration flow.0 key.0, key.1))
    else if tag.0 == entity_tag
    then (name_at tag.1 >>= λ class. key_at class.1 >>= λ key. Ok (entity class.0 key.0, key.1))
    else if tag.0 == client_tag
    then (name_at tag.1 >>= λ name. Ok (client name.0, name.1))
    else Err (length bytes)

unfoldable pub reply_at : List ℕ → Read Reply
reply_at bytes =
    byte_at bytes >>= λ tag.
    if tag.0 == nobody_tag
    then Ok (to_nobody, tag.1)
    else if tag.0 == task_tag
    then (number_at w32 tag.1 >>= λ number. Ok (to_task number.0, number.1))
    else if tag.0 == request_tag
    then (request_number_at tag.1 >>= λ number. Ok (to_request number.0, number.1))
    else Err (length bytes)

-- an answer that is a word
abbrev pub word_of : ℕ → Option Answer
word_of tag =
    if tag == started_tag
    then Some was_started
    else if tag == exists_tag
    then Some was_there
    else if tag == unknown_tag
    then Some is_unknown
    else if tag == raised_tag
    then Some was_raised
    else if tag == ended_tag
    then Some has_ended
    else if tag == missing_tag
    then Some is_missing
    else if tag == running_tag
    then Some is_running
    else None

-- it is by the grammar where there is such a word
abbrev pub word_or_fault : List ℕ → List ℕ → Option Answer → Read Answer
word_or_fault bytes rest (Some answer) = Ok (answer, rest)
word_or_fault bytes rest None = Err (length bytes)

unfoldable pub answer_at : List ℕ → Read Answer
answer_at bytes =
    byte_at bytes >>= λ tag.
    if tag.0 == done_tag
    then (value_at tag.1 >>= λ value. Ok (is_done value.0, value.1))
    else if tag.0 == failed_tag
    then (text_at tag.1 >>= λ text. Ok (has_failed text.0, text.1))
    else if tag.0 == value_tag
    then (value_at tag.1 >>= λ value. Ok (is_value value.0, value.1))
    else word_or_fault bytes tag.1 (word_of tag.0)

-- an answer that is an end: done or failed
unfoldable pub outcome_at : List ℕ → Read Outcome
outcome_at bytes =
    byte_at bytes >>= λ tag.
    if tag.0 == done_tag
    then (value_at tag.1 >>= λ value. Ok (outcomes.Done value.0, value.1))
    else if tag.0 == failed_tag
    then (text_at tag.1 >>= λ text. Ok (outcomes.Failed text.0, text.1))
    else Err (length bytes)

unfoldable pub spot_at : List ℕ → Read Spot
spot_at bytes = do
  class ← name_at bytes
  key ← key_at class.1
  Ok (record { class = class.0; key = key.0 }, key.1)

-- how many entities a lock's set has: at most 16
unfoldable pub spot_count_at : List ℕ → Read ℕ
spot_count_at bytes = do
  count ← byte_at bytes
  if nat_le count.0 most_spots then Ok count else Err (length bytes)

unfoldable pub lock_at : List ℕ → Read Body
lock_at bytes = do
  id ← id_at bytes
  task ← number_at w32 id.1
  count ← spot_count_at task.1
  set ← several_at spot_at count.0 count.1
  index ← byte_at set.1
  Ok (lock id.0 task.0 set.0 index.0, index.1)

unfoldable pub start_at : List ℕ → Read Body
start_at bytes = do
  argument ← value_at bytes
  reply ← reply_at argument.1
  Ok (start argument.0 reply.0, reply.1)

unfoldable pub raise_at : List ℕ → Read Body
raise_at bytes = do
  event ← name_at bytes
  value ← value_at event.1
  number ← request_number_at value.1
  Ok (raise event.0 value.0 number.0, number.1)

unfoldable pub query_at : List ℕ → Read Body
query_at bytes = do
  number ← request_number_at bytes
  Ok (query number.0, number.1)

unfoldable pub wait_at : List ℕ → Read Body
wait_at bytes = do
  number ← request_number_at bytes
  Ok (wait number.0, number.1)

unfoldable pub result_at : List ℕ → Read Body
result_at bytes = do
  reply ← reply_at bytes
  answer ← answer_at reply.1
  Ok (result reply.0 answer.0, answer.1)

unfoldable pub operate_at : List ℕ → Read Body
operate_at bytes = do
  operation ← name_at bytes
  argument ← value_at operation.1
  reply ← reply_at argument.1
  Ok (operate operation.0 argument.0 reply.0, reply.1)

unfoldable pub granted_at : List ℕ → Read Body
granted_at bytes = do
  task ← number_at w32 bytes
  Ok (granted task.0, task.1)

unfoldable pub body_at : List ℕ → Read Body
body_at bytes =
    byte_at bytes >>= λ tag.
    if tag.0 == start_tag
    then start_at tag.1
    else if tag.0 == raise_tag
    then raise_at tag.1
    else if tag.0 == query_tag
    then query_at tag.1
    else if tag.0 == wait_tag
    then wait_at tag.1
    else if tag.0 == result_tag
    then result_at tag.1
    else if tag.0 == operate_tag
    then operate_at tag.1
    else if tag.0 == lock_tag
    then lock_at tag.1
    else if tag.0 == granted_tag
    then granted_at tag.1
    else if tag.0 == release_tag
    then Ok (release, tag.1)
    else Err (length bytes)

unfoldable pub message_at : List ℕ → Read Message
message_at bytes = do
  from ← id_at bytes
  to ← id_at from.1
  body ← body_at to.1
  Ok (record { from = from.0; to = to.0; body = body.0 }, body.1)
