-- How each thing is spelled. Numbers are big-endian.
use Rattle.std.specs.Prelude.{ℕ, ◌≤◌, List, [], ◌∷◌, ◌++◌, length}
use Rattle.std.specs.List.{flat_map}
use Rattle.std.specs.Int.{w16, w32, w64, to_be_bytes, cast_unsigned}
use Rattle.dura_value.specs.declared.data.Scalar.{Scalar}
use Rattle.dura_value.specs.declared.data.Scalar.TheVariants as scalars
use Rattle.dura_value.specs.declared.data.Value.{Value}
use Rattle.dura_value.specs.declared.data.Value.TheVariants as values
use Rattle.dura_value.specs.declared.outcome.Outcome.{Outcome}
use Rattle.dura_value.specs.declared.outcome.Outcome.TheVariants as outcomes
use Rattle.dura_value.specs.Ids.{Id, orchestration, entity, client}
use Rattle.dura_value.specs.Limits.{most_scalars, most_spots}
use Rattle.dura_value.specs.Messages.{Reply, to_nobody, to_task, to_request, Answer, is_done, has_failed, was_started, was_there, is_unknown, was_raised, has_ended, is_missing, is_running, is_value, Spot, Body, start, raise, query, wait, result, operate, lock, granted, release, Message}
use Rattle.dura_codec.specs.Tags.{null_tag, false_tag, true_tag, int_tag, text_tag, list_tag, flow_tag, entity_tag, client_tag, nobody_tag, task_tag, request_tag, done_tag, failed_tag, started_tag, exists_tag, unknown_tag, raised_tag, ended_tag, missing_tag, running_tag, value_tag, start_tag, raise_tag, query_tag, wait_tag, result_tag, operate_tag, lock_tag, granted_tag, release_tag}

-- a name or a key behind its length
abbrev pub spell_word : List ℕ → List ℕ
spell_word word = length word ∷ word

-- a text behind its length
abbrev pub spell_text : List ℕ → List ℕ
spell_text text = to_be_bytes w16 (length text) ++ text

abbrev pub spell_scalar : Scalar → List ℕ
spell_scalar scalars.Null = null_tag ∷ []
spell_scalar scalars.False = false_tag ∷ []
spell_scalar scalars.True = true_tag ∷ []
spell_scalar (scalars.Int n) = int_tag ∷ to_be_bytes w64 (cast_unsigned w64 n)
spell_scalar (scalars.Text text) = text_tag ∷ spell_text text

abbrev pub spell_value : Value → List ℕ
spell_value values.Null = null_tag ∷ []
spell_value values.False = false_tag ∷ []
spell_value values.True = true_tag ∷ []
spell_value (values.Int n) = int_tag ∷ to_be_bytes w64 (cast_unsigned w64 n)
spell_value (values.Text text) = text_tag ∷ spell_text text
spell_value (values.List parts) = list_tag ∷ to_be_bytes w16 (length parts) ++ flat_map spell_scalar parts

abbrev pub spell_id : Id → List ℕ
spell_id (orchestration flow key) = flow_tag ∷ spell_word flow ++ spell_word key
spell_id (entity class key) = entity_tag ∷ spell_word class ++ spell_word key
spell_id (client name) = client_tag ∷ spell_word name

abbrev pub spell_reply : Reply → List ℕ
spell_reply to_nobody = nobody_tag ∷ []
spell_reply (to_task number) = task_tag ∷ to_be_bytes w32 number
spell_reply (to_request number) = request_tag ∷ to_be_bytes w32 number

abbrev pub spell_answer : Answer → List ℕ
spell_answer (is_done value) = done_tag ∷ spell_value value
spell_answer (has_failed text) = failed_tag ∷ spell_text text
spell_answer was_started = started_tag ∷ []
spell_answer was_there = exists_tag ∷ []
spell_answer is_unknown = unknown_tag ∷ []
spell_answer was_raised = raised_tag ∷ []
spell_answer has_ended = ended_tag ∷ []
spell_answer is_missing = missing_tag ∷ []
spell_answer is_running = running_tag ∷ []
spell_answer (is_value value) = value_tag ∷ spell_value value

-- what an activity came to is spelled as the answer is
abbrev pub spell_outcome : Outcome → List ℕ
spell_outcome (outcomes.Done value) = done_tag ∷ spell_value value
spell_outcome (outcomes.Failed text) = failed_tag ∷ spell_text text

abbrev pub spell_spot : Spot → List ℕ
spell_spot spot = spell_word spot.class ++ spell_word spot.key

abbrev pub spell_body : Body → List ℕ
spell_body (start argument reply) = start_tag ∷ spell_value argument ++ spell_reply reply
spell_body (raise event value number) = raise_tag ∷ spell_word event ++ spell_value value ++ to_be_bytes w32 number
spell_body (query number) = query_tag ∷ to_be_bytes w32 number
spell_body (wait number) = wait_tag ∷ to_be_bytes w32 number
spell_body (result reply answer) = result_tag ∷ spell_reply reply ++ spell_answer answer
spell_body (operate operation argument reply) = operate_tag ∷ spell_word operation ++ spell_value argument ++ spell_reply reply
spell_body (lock id task set index) = lock_tag ∷ spell_id id ++ to_be_bytes w32 task ++ (length set ∷ flat_map spell_spot set) ++ index ∷ []
spell_body (granted task) = granted_tag ∷ to_be_bytes w32 task
spell_body release = release_tag ∷ []

abbrev pub spell_message : Message → List ℕ
spell_message message = spell_id message.from ++ spell_id message.to ++ spell_body message.body

-- ---- what may be written

-- a list has at most 1,024 scalars
abbrev pub CanSpell : Value → Type 0
CanSpell (values.List parts) = length parts ≤ most_scalars
CanSpell other = Unit {0}

abbrev pub CanSpellAnswer : Answer → Type 0
CanSpellAnswer (is_done value) = CanSpell value
CanSpellAnswer (is_value value) = CanSpell value
CanSpellAnswer other = Unit {0}

abbrev pub CanSpellOutcome : Outcome → Type 0
CanSpellOutcome (outcomes.Done value) = CanSpell value
CanSpellOutcome (outcomes.Failed text) = Unit {0}

-- a lock's set has at most 16 entities
abbrev pub CanSpellBody : Body → Type 0
CanSpellBody (start argument reply) = CanSpell argument
CanSpellBody (raise event value number) = CanSpell value
CanSpellBody (result reply answer) = CanSpellAnswer answer
CanSpellBody (operate operation argument reply) = CanSpell argument
CanSpellBody (lock id task set index) = length set ≤ most_spots
CanSpellBody other = Unit {0}
