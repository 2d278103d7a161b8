-- Messages are read again, and their parts.
use Rattle.std.proofs.Common.{◌≡◌, ℕ, ◌≤◌, List, [], ◌∷◌, ◌++◌, length, Ok, refl, ap, ◌∙◌, append_assoc}
use Rattle.std.specs.Int.{w32, to_be_bytes}
use Rattle.std.specs.List.{flat_map}
use Rattle.dura_value.specs.Ids.{Id}
use Rattle.dura_value.specs.declared.data.Value.{Value}
use Rattle.dura_value.specs.declared.outcome.Outcome.{Outcome}
use Rattle.dura_value.specs.declared.outcome.Outcome.TheVariants as outcomes
use Rattle.dura_value.specs.Messages.{Reply, Answer, is_done, has_failed, was_started, was_there, is_unknown, was_raised, has_ended, is_missing, is_running, is_value, Spot, Body, start, raise, query, wait, result, operate, lock, granted, release, Message}
use Rattle.dura_codec.specs.Grammar.{answer_at, outcome_at, spot_at, spot_count_at, lock_at, start_at, raise_at, query_at, wait_at, result_at, operate_at, granted_at, body_at, message_at}
use Rattle.dura_codec.specs.Spelling.{spell_word, spell_id, spell_reply, spell_value, spell_answer, spell_outcome, spell_spot, spell_body, spell_message}
use Rattle.part_items.specs.Fits.{FitsAnswer, FitsOutcome, FitsSpot, FitsLock, FitsBody, FitsMessage}
use Rattle.part_items.proofs.Numbers.{number_again_4, request_again}
use Rattle.part_items.proofs.Words.{name_again, key_again, text_again}
use Rattle.part_items.proofs.Values.{several_again, value_again}
use Rattle.part_items.proofs.Ids.{id_again, reply_again}
use Rattle.std.proofs.lemmas.Bool.{le-leb}

pub answer_again : (answer : Answer) (rest : List ℕ) → FitsAnswer answer → answer_at (spell_answer answer ++ rest) ≡ Ok (answer, rest)
unfolding answer_at
answer_again (is_done value) rest fits = rw (value_again value rest fits) refl
answer_again (has_failed text) rest fits = rw (text_again text rest fits) refl
answer_again was_started rest fits = refl
answer_again was_there rest fits = refl
answer_again is_unknown rest fits = refl
answer_again was_raised rest fits = refl
answer_again has_ended rest fits = refl
answer_again is_missing rest fits = refl
answer_again is_running rest fits = refl
answer_again (is_value value) rest fits = rw (value_again value rest fits) refl

pub outcome_again : (outcome : Outcome) (rest : List ℕ) → FitsOutcome outcome → outcome_at (spell_outcome outcome ++ rest) ≡ Ok (outcome, rest)
unfolding outcome_at
outcome_again (outcomes.Done value) rest fits = rw (value_again value rest fits) refl
outcome_again (outcomes.Failed text) rest fits = rw (text_again text rest fits) refl

pub spot_again : (spot : Spot) (rest : List ℕ) → FitsSpot spot → spot_at (spell_spot spot ++ rest) ≡ Ok (spot, rest)
unfolding spot_at
spot_again spot rest fits = rw (append_assoc, name_again spot.class (spell_word spot.key ++ rest) fits.name_is, key_again spot.key rest fits.key_is) refl

-- how many entities there are
count_again : (count : ℕ) (rest : List ℕ) → count ≤ 16 → spot_count_at (count ∷ rest) ≡ Ok (count, rest)
unfolding spot_count_at
count_again count rest few = rw (le-leb count 16 few) refl

lock_again : (id : Id) (task : ℕ) (set : List Spot) (index : ℕ) (rest : List ℕ) → FitsLock id task set index
    → lock_at (spell_id id ++ (to_be_bytes w32 task ++ (length set ∷ (flat_map spell_spot set ++ (index ∷ rest))))) ≡ Ok (lock id task set index, rest)
unfolding lock_at
lock_again id task set index rest fits =
    rw (
      id_again id (to_be_bytes w32 task ++ (length set ∷ (flat_map spell_spot set ++ (index ∷ rest)))) fits.id_fits,
      number_again_4 task (length set ∷ (flat_map spell_spot set ++ (index ∷ rest))) fits.task_fits,
      count_again (length set) (flat_map spell_spot set ++ (index ∷ rest)) fits.few,
      several_again spot_at spell_spot FitsSpot spot_again set (index ∷ rest) fits.each,
    ) refl

start_again : (argument : Value) (reply : Reply) (rest : List ℕ) → FitsBody (start argument reply) → start_at (spell_value argument ++ (spell_reply reply ++ rest)) ≡ Ok (start argument reply, rest)
unfolding start_at
start_again argument reply rest fits = rw (value_again argument (spell_reply reply ++ rest) fits.0, reply_again reply rest fits.1) refl

raise_again : (event : List ℕ) (value : Value) (number : ℕ) (rest : List ℕ) → FitsBody (raise event value number)
    → raise_at (spell_word event ++ (spell_value value ++ (to_be_bytes w32 number ++ rest))) ≡ Ok (raise event value number, rest)
unfolding raise_at
raise_again event value number rest fits =
    rw (
      name_again event (spell_value value ++ (to_be_bytes w32 number ++ rest)) fits.0,
      value_again value (to_be_bytes w32 number ++ rest) fits.1,
      request_again number rest fits.2.some fits.2.fits,
    ) refl

result_again : (reply : Reply) (answer : Answer) (rest : List ℕ) → FitsBody (result reply answer) → result_at (spell_reply reply ++ (spell_answer answer ++ rest)) ≡ Ok (result reply answer, rest)
unfolding result_at
result_again reply answer rest fits = rw (reply_again reply (spell_answer answer ++ rest) fits.0, answer_again answer rest fits.1) refl

operate_again : (operation : List ℕ) (argument : Value) (reply : Reply) (rest : List ℕ) → FitsBody (operate operation argument reply)
    → operate_at (spell_word operation ++ (spell_value argument ++ (spell_reply reply ++ rest))) ≡ Ok (operate operation argument reply, rest)
unfolding operate_at
operate_again operation argument reply rest fits =
    rw (
      name_again operation (spell_value argument ++ (spell_reply reply ++ rest)) fits.0,
      value_again argument (spell_reply reply ++ rest) fits.1,
      reply_again reply rest fits.2,
    ) refl

query_again : (number : ℕ) (rest : List ℕ) → FitsBody (query number) → query_at (to_be_bytes w32 number ++ rest) ≡ Ok (query number, rest)
unfolding query_at
query_again number rest fits = rw (request_again number rest fits.some fits.fits) refl

wait_again : (number : ℕ) (rest : List ℕ) → FitsBody (wait number) → wait_at (to_be_bytes w32 number ++ rest) ≡ Ok (wait number, rest)
unfolding wait_at
wait_again number rest fits = rw (request_again number rest fits.some fits.fits) refl

granted_again : (task : ℕ) (rest : List ℕ) → FitsBody (granted task) → granted_at (to_be_bytes w32 task ++ rest) ≡ Ok (granted task, rest)
unfolding granted_at
granted_again task rest fits = rw (number_again_4 task rest fits) refl

pub regroup : (a b c rest : List ℕ) → ((a ++ b) ++ c) ++ rest ≡ a ++ (b ++ (c ++ rest))
regroup a b c rest = simp append_assoc

pub two : (tag : ℕ) (a b rest : List ℕ) → ((tag ∷ a) ++ b) ++ rest ≡ tag ∷ (a ++ (b ++ rest))
two tag a b rest = append_assoc (tag ∷ a) b rest

pub three : (tag : ℕ) (a b c rest : List ℕ) → (((tag ∷ a) ++ b) ++ c) ++ rest ≡ tag ∷ (a ++ (b ++ (c ++ rest)))
three tag a b c rest = regroup (tag ∷ a) b c rest

-- the parts of a lock
parts : (tag size index : ℕ) (a b c rest : List ℕ) → ((((tag ∷ a) ++ b) ++ (size ∷ c)) ++ (index ∷ [])) ++ rest ≡ tag ∷ (a ++ (b ++ (size ∷ (c ++ (index ∷ rest)))))
parts tag size index a b c rest = append_assoc (((tag ∷ a) ++ b) ++ (size ∷ c)) (index ∷ []) rest ∙ regroup (tag ∷ a) b (size ∷ c) (index ∷ rest)

-- each body behind its tag
start_tagged : (bytes : List ℕ) → body_at (0x10 ∷ bytes) ≡ start_at bytes
unfolding body_at
start_tagged bytes = refl

raise_tagged : (bytes : List ℕ) → body_at (0x11 ∷ bytes) ≡ raise_at bytes
unfolding body_at
raise_tagged bytes = refl

query_tagged : (bytes : List ℕ) → body_at (0x12 ∷ bytes) ≡ query_at bytes
unfolding body_at
query_tagged bytes = refl

wait_tagged : (bytes : List ℕ) → body_at (0x13 ∷ bytes) ≡ wait_at bytes
unfolding body_at
wait_tagged bytes = refl

result_tagged : (bytes : List ℕ) → body_at (0x14 ∷ bytes) ≡ result_at bytes
unfolding body_at
result_tagged bytes = refl

operate_tagged : (bytes : List ℕ) → body_at (0x15 ∷ bytes) ≡ operate_at bytes
unfolding body_at
operate_tagged bytes = refl

lock_tagged : (bytes : List ℕ) → body_at (0x16 ∷ bytes) ≡ lock_at bytes
unfolding body_at
lock_tagged bytes = refl

granted_tagged : (bytes : List ℕ) → body_at (0x17 ∷ bytes) ≡ granted_at bytes
unfolding body_at
granted_tagged bytes = refl

release_tagged : (bytes : List ℕ) → body_at (0x18 ∷ bytes) ≡ Ok (release, bytes)
unfolding body_at
release_tagged bytes = refl

pub body_again : (body : Body) (rest : List ℕ) → FitsBody body → body_at (spell_body body ++ rest) ≡ Ok (body, rest)
body_again (start argument reply) rest fits = ap body_at (two 0x10 (spell_value argument) (spell_reply reply) rest) ∙ (start_tagged _ ∙ start_again argument reply rest fits)
body_again (raise event value number) rest fits =
    ap body_at (three 0x11 (spell_word event) (spell_value value) (to_be_bytes w32 number) rest) ∙ (raise_tagged _ ∙ raise_again event value number rest fits)
body_again (query number) rest fits = query_tagged _ ∙ query_again number rest fits
body_again (wait number) rest fits = wait_tagged _ ∙ wait_again number rest fits
body_again (result reply answer) rest fits = ap body_at (two 0x14 (spell_reply reply) (spell_answer answer) rest) ∙ (result_tagged _ ∙ result_again reply answer rest fits)
body_again (operate operation argument reply) rest fits =
    ap body_at (three 0x15 (spell_word operation) (spell_value argument) (spell_reply reply) rest) ∙ (operate_tagged _ ∙ operate_again operation argument reply rest fits)
body_again (lock id task set index) rest fits =
    ap body_at (parts 0x16 (length set) index (spell_id id) (to_be_bytes w32 task) (flat_map spell_spot set) rest) ∙ (lock_tagged _ ∙ lock_again id task set index rest fits)
body_again (granted task) rest fits = granted_tagged _ ∙ granted_again task rest fits
body_again release rest fits = release_tagged rest

pub message_again : (message : Message) (rest : List ℕ) → FitsMessage message → message_at (spell_message message ++ rest) ≡ Ok (message, rest)
unfolding message_at
message_again message rest fits =
    simp append_assoc (rw (
      id_again message.from (spell_id message.to ++ (spell_body message.body ++ rest)) fits.from_fits,
      id_again message.to (spell_body message.body ++ rest) fits.to_fits,
      body_again message.body rest fits.body_fits,
    ) refl)
