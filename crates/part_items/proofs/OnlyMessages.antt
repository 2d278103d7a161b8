-- What was read as an id, a body or a message is spelled by the bytes that it was read from.
use Rattle.std.proofs.Common.{◌≡◌, ℕ, List, [], ◌∷◌, ◌++◌, length, Bool, true, false, ◌==◌, if◌then◌else◌, Option, Ok, refl, sym, ap, ◌∙◌, inl, inr, ◌⊎◌, append_assoc}
use Rattle.std.specs.Int.{w32, to_be_bytes}
use Rattle.std.specs.List.{flat_map}
use Rattle.dura_value.specs.declared.outcome.Outcome.{Outcome}
use Rattle.dura_value.specs.declared.outcome.Outcome.TheVariants as outcomes
use Rattle.dura_value.specs.Ids.{Id, orchestration, entity, client}
use Rattle.dura_value.specs.Messages.{Reply, to_nobody, to_task, to_request, Answer, is_done, has_failed, was_started, was_there, is_unknown, was_raised, has_ended, is_missing, is_running, is_value, Spot, Body, start, raise, query, wait, result, operate, lock, granted, release, Message}
use Rattle.dura_value.specs.Reading.{◌>>=◌}
use Rattle.dura_codec.specs.Fields.{byte_at, number_at, request_number_at, several_at}
use Rattle.dura_codec.specs.Grammar.{name_at, key_at, text_at, value_at, id_at, reply_at, word_of, word_or_fault, answer_at, outcome_at, spot_at, spot_count_at, lock_at, start_at, raise_at, query_at, wait_at, result_at, operate_at, granted_at, body_at, message_at}
use Rattle.dura_codec.specs.Spelling.{spell_word, spell_text, spell_value, spell_id, spell_reply, spell_answer, spell_outcome, spell_spot, spell_body, spell_message}
use Rattle.part_items.specs.Fits.{AreBytes}
use Rattle.part_items.proofs.Steps.{ok_is, either, rest_are, byte_only, number_only_4, request_only, several_only, tagged, join_1, join_2, join_3, join_4}
use Rattle.part_items.proofs.OnlyValues.{name_only, key_only, text_only, value_only}
use Rattle.dura_value.proofs.Basics.{both_ok, passed_ok}

spelled_id : {bytes : List ℕ} (one read : Id × List ℕ) → bytes ≡ spell_id one.0 ++ one.1 → one ≡ read → bytes ≡ spell_id read.0 ++ read.1
spelled_id one read is e = is ∙ ap (λ (q : Id × List ℕ). spell_id q.0 ++ q.1) e

flow_only : (rest : List ℕ) (read : Id × List ℕ) → (name_at rest >>= λ flow. key_at flow.1 >>= λ key. Ok (orchestration flow.0 key.0, key.1)) ≡ Ok read → 1 ∷ rest ≡ spell_id read.0 ++ read.1
flow_only rest read h =
    let s = both_ok (name_at rest) _ read h in
    let t = both_ok (key_at s.0.1) _ read s.2 in
    spelled_id (orchestration s.0.0 t.0.0, t.0.1) read (join_2 1 rest (spell_word s.0.0) s.0.1 (spell_word t.0.0) t.0.1 (name_only rest s.0 s.1) (key_only s.0.1 t.0 t.1)) (ok_is _ read t.2)

entity_only : (rest : List ℕ) (read : Id × List ℕ) → (name_at rest >>= λ class. key_at class.1 >>= λ key. Ok (entity class.0 key.0, key.1)) ≡ Ok read → 2 ∷ rest ≡ spell_id read.0 ++ read.1
entity_only rest read h =
    let s = both_ok (name_at rest) _ read h in
    let t = both_ok (key_at s.0.1) _ read s.2 in
    spelled_id (entity s.0.0 t.0.0, t.0.1) read (join_2 2 rest (spell_word s.0.0) s.0.1 (spell_word t.0.0) t.0.1 (name_only rest s.0 s.1) (key_only s.0.1 t.0 t.1)) (ok_is _ read t.2)

client_only : (rest : List ℕ) (read : Id × List ℕ) → (name_at rest >>= λ name. Ok (client name.0, name.1)) ≡ Ok read → 3 ∷ rest ≡ spell_id read.0 ++ read.1
client_only rest read h =
    let s = both_ok (name_at rest) _ read h in
    spelled_id (client s.0.0, s.0.1) read (join_1 3 rest (spell_word s.0.0) s.0.1 (name_only rest s.0 s.1)) (ok_is _ read s.2)

pub id_only : (bytes : List ℕ) (read : Id × List ℕ) → AreBytes bytes → id_at bytes ≡ Ok read → bytes ≡ spell_id read.0 ++ read.1
unfolding id_at
id_only bytes read all h =
    let s = both_ok (byte_at bytes) _ read h in
    let is : bytes ≡ s.0.0 ∷ s.0.1 = byte_only bytes s.0 s.1 in
    elim (either (s.0.0 == 1) _ _ read s.2) [
      | inl p ↦ tagged bytes s.0.1 s.0.0 1 is p.0 ∙ flow_only s.0.1 read p.1
      | inr p ↦ elim (either (s.0.0 == 2) _ _ read p.1) [
        | inl q ↦ tagged bytes s.0.1 s.0.0 2 is q.0 ∙ entity_only s.0.1 read q.1
        | inr q ↦
            let r = passed_ok (s.0.0 == 3) _ _ read q.1 in
            tagged bytes s.0.1 s.0.0 3 is r.0 ∙ client_only s.0.1 read r.1
      ]
    ]

spelled_reply : {bytes : List ℕ} (one read : Reply × List ℕ) → bytes ≡ spell_reply one.0 ++ one.1 → one ≡ read → bytes ≡ spell_reply read.0 ++ read.1
spelled_reply one read is e = is ∙ ap (λ (q : Reply × List ℕ). spell_reply q.0 ++ q.1) e

task_only : (rest : List ℕ) (read : Reply × List ℕ) → AreBytes rest → (number_at w32 rest >>= λ number. Ok (to_task number.0, number.1)) ≡ Ok read → 1 ∷ rest ≡ spell_reply read.0 ++ read.1
task_only rest read all h =
    let s = both_ok (number_at w32 rest) _ read h in
    spelled_reply (to_task s.0.0, s.0.1) read (join_1 1 rest (to_be_bytes w32 s.0.0) s.0.1 (number_only_4 rest s.0 all s.1)) (ok_is _ read s.2)

asked_only : (rest : List ℕ) (read : Reply × List ℕ) → AreBytes rest → (request_number_at rest >>= λ number. Ok (to_request number.0, number.1)) ≡ Ok read → 2 ∷ rest ≡ spell_reply read.0 ++ read.1
asked_only rest read all h =
    let s = both_ok (request_number_at rest) _ read h in
    spelled_reply (to_request s.0.0, s.0.1) read (join_1 2 rest (to_be_bytes w32 s.0.0) s.0.1 (request_only rest s.0 all s.1)) (ok_is _ read s.2)

pub reply_only : (bytes : List ℕ) (read : Reply × List ℕ) → AreBytes bytes → reply_at bytes ≡ Ok read → bytes ≡ spell_reply read.0 ++ read.1
unfolding reply_at
reply_only bytes read all h =
    let s = both_ok (byte_at bytes) _ read h in
    let is : bytes ≡ s.0.0 ∷ s.0.1 = byte_only bytes s.0 s.1 in
    let rest : AreBytes s.0.1 = rest_are bytes (s.0.0 ∷ []) s.0.1 is all in
    elim (either (s.0.0 == 0) _ _ read s.2) [
      | inl p ↦ spelled_reply (to_nobody, s.0.1) read (tagged bytes s.0.1 s.0.0 0 is p.0) (ok_is _ read p.1)
      | inr p ↦ elim (either (s.0.0 == 1) _ _ read p.1) [
        | inl q ↦ tagged bytes s.0.1 s.0.0 1 is q.0 ∙ task_only s.0.1 read rest q.1
        | inr q ↦
            let r = passed_ok (s.0.0 == 2) _ _ read q.1 in
            tagged bytes s.0.1 s.0.0 2 is r.0 ∙ asked_only s.0.1 read rest r.1
      ]
    ]

spelled_answer : {bytes : List ℕ} (one read : Answer × List ℕ) → bytes ≡ spell_answer one.0 ++ one.1 → one ≡ read → bytes ≡ spell_answer read.0 ++ read.1
spelled_answer one read is e = is ∙ ap (λ (q : Answer × List ℕ). spell_answer q.0 ++ q.1) e

-- which of two words was found
word_test : (test : Bool) (x y : Option Answer) (bytes rest : List ℕ) (read : Answer × List ℕ) → word_or_fault bytes rest (if test then x else y) ≡ Ok read
    → ((test ≡ true) × (word_or_fault bytes rest x ≡ Ok read)) ⊎ ((test ≡ false) × (word_or_fault bytes rest y ≡ Ok read))
word_test true x y bytes rest read h = inl (refl, h)
word_test false x y bytes rest read h = inr (refl, h)

answer_word_only : (bytes rest : List ℕ) (tag : ℕ) (read : Answer × List ℕ) → bytes ≡ tag ∷ rest → word_or_fault bytes rest (word_of tag) ≡ Ok read → bytes ≡ spell_answer read.0 ++ read.1
answer_word_only bytes rest tag read is h = elim (word_test (tag == 2) _ _ bytes rest read h) [
  | inl p ↦ spelled_answer (was_started, rest) read (tagged bytes rest tag 2 is p.0) (ok_is _ read p.1)
  | inr p ↦ elim (word_test (tag == 3) _ _ bytes rest read p.1) [
    | inl p ↦ spelled_answer (was_there, rest) read (tagged bytes rest tag 3 is p.0) (ok_is _ read p.1)
    | inr p ↦ elim (word_test (tag == 4) _ _ bytes rest read p.1) [
      | inl p ↦ spelled_answer (is_unknown, rest) read (tagged bytes rest tag 4 is p.0) (ok_is _ read p.1)
      | inr p ↦ elim (word_test (tag == 5) _ _ bytes rest read p.1) [
        | inl p ↦ spelled_answer (was_raised, rest) read (tagged bytes rest tag 5 is p.0) (ok_is _ read p.1)
        | inr p ↦ elim (word_test (tag == 6) _ _ bytes rest read p.1) [
          | inl p ↦ spelled_answer (has_ended, rest) read (tagged bytes rest tag 6 is p.0) (ok_is _ read p.1)
          | inr p ↦ elim (word_test (tag == 7) _ _ bytes rest read p.1) [
            | inl p ↦ spelled_answer (is_missing, rest) read (tagged bytes rest tag 7 is p.0) (ok_is _ read p.1)
            | inr p ↦ elim (word_test (tag == 8) _ _ bytes rest read p.1) [
              | inl p ↦ spelled_answer (is_running, rest) read (tagged bytes rest tag 8 is p.0) (ok_is _ read p.1)
              | inr p ↦ absurd (cc (p.1))
            ]
          ]
        ]
      ]
    ]
  ]
]

pub answer_only : (bytes : List ℕ) (read : Answer × List ℕ) → AreBytes bytes → answer_at bytes ≡ Ok read → bytes ≡ spell_answer read.0 ++ read.1
unfolding answer_at
answer_only bytes read all h =
    let s = both_ok (byte_at bytes) _ read h in
    let is : bytes ≡ s.0.0 ∷ s.0.1 = byte_only bytes s.0 s.1 in
    let rest : AreBytes s.0.1 = rest_are bytes (s.0.0 ∷ []) s.0.1 is all in
    elim (either (s.0.0 == 0) _ _ read s.2) [
      | inl p ↦
          let t = both_ok (value_at s.0.1) _ read p.1 in
          tagged bytes s.0.1 s.0.0 0 is p.0 ∙ spelled_answer (is_done t.0.0, t.0.1) read (join_1 0 s.0.1 (spell_value t.0.0) t.0.1 (value_only s.0.1 t.0 rest t.1)) (ok_is _ read t.2)
      | inr p ↦ elim (either (s.0.0 == 1) _ _ read p.1) [
        | inl p ↦
            let t = both_ok (text_at s.0.1) _ read p.1 in
            tagged bytes s.0.1 s.0.0 1 is p.0 ∙ spelled_answer (has_failed t.0.0, t.0.1) read (join_1 1 s.0.1 (spell_text t.0.0) t.0.1 (text_only s.0.1 t.0 rest t.1)) (ok_is _ read t.2)
        | inr p ↦ elim (either (s.0.0 == 9) _ _ read p.1) [
          | inl p ↦
              let t = both_ok (value_at s.0.1) _ read p.1 in
              tagged bytes s.0.1 s.0.0 9 is p.0 ∙ spelled_answer (is_value t.0.0, t.0.1) read (join_1 9 s.0.1 (spell_value t.0.0) t.0.1 (value_only s.0.1 t.0 rest t.1)) (ok_is _ read t.2)
          | inr p ↦ answer_word_only bytes s.0.1 s.0.0 read is p.1
        ]
      ]
    ]

spelled_outcome : {bytes : List ℕ} (one read : Outcome × List ℕ) → bytes ≡ spell_outcome one.0 ++ one.1 → one ≡ read → bytes ≡ spell_outcome read.0 ++ read.1
spelled_outcome one read is e = is ∙ ap (λ (q : Outcome × List ℕ). spell_outcome q.0 ++ q.1) e

pub outcome_only : (bytes : List ℕ) (read : Outcome × List ℕ) → AreBytes bytes → outcome_at bytes ≡ Ok read → bytes ≡ spell_outcome read.0 ++ read.1
unfolding outcome_at
outcome_only bytes read all h =
    let s = both_ok (byte_at bytes) _ read h in
    let is : bytes ≡ s.0.0 ∷ s.0.1 = byte_only bytes s.0 s.1 in
    let rest : AreBytes s.0.1 = rest_are bytes (s.0.0 ∷ []) s.0.1 is all in
    elim (either (s.0.0 == 0) _ _ read s.2) [
      | inl p ↦
          let t = both_ok (value_at s.0.1) _ read p.1 in
          tagged bytes s.0.1 s.0.0 0 is p.0 ∙ spelled_outcome (outcomes.Done t.0.0, t.0.1) read (join_1 0 s.0.1 (spell_value t.0.0) t.0.1 (value_only s.0.1 t.0 rest t.1)) (ok_is _ read t.2)
      | inr p ↦
          let q = passed_ok (s.0.0 == 1) _ _ read p.1 in
          let t = both_ok (text_at s.0.1) _ read q.1 in
          tagged bytes s.0.1 s.0.0 1 is q.0 ∙ spelled_outcome (outcomes.Failed t.0.0, t.0.1) read (join_1 1 s.0.1 (spell_text t.0.0) t.0.1 (text_only s.0.1 t.0 rest t.1)) (ok_is _ read t.2)
    ]

-- parts one behind the other
pub chain_2 : (bytes a x b y : List ℕ) → bytes ≡ a ++ x → x ≡ b ++ y → bytes ≡ (a ++ b) ++ y
chain_2 bytes a x b y is next = is ∙ (ap (λ (rest : List ℕ). a ++ rest) next ∙ sym (append_assoc a b y))

pub spot_only : (bytes : List ℕ) (read : Spot × List ℕ) → AreBytes bytes → spot_at bytes ≡ Ok read → bytes ≡ spell_spot read.0 ++ read.1
unfolding spot_at
spot_only bytes read all h =
    let s = both_ok (name_at bytes) _ read h in
    let t = both_ok (key_at s.0.1) _ read s.2 in
    chain_2 bytes (spell_word s.0.0) s.0.1 (spell_word t.0.0) t.0.1 (name_only bytes s.0 s.1) (key_only s.0.1 t.0 t.1) ∙ ap (λ (q : Spot × List ℕ). spell_spot q.0 ++ q.1) (ok_is _ read t.2)

spelled_body : {bytes : List ℕ} (one read : Body × List ℕ) → bytes ≡ spell_body one.0 ++ one.1 → one ≡ read → bytes ≡ spell_body read.0 ++ read.1
spelled_body one read is e = is ∙ ap (λ (q : Body × List ℕ). spell_body q.0 ++ q.1) e

start_only : (rest : List ℕ) (read : Body × List ℕ) → AreBytes rest → start_at rest ≡ Ok read → 0x10 ∷ rest ≡ spell_body read.0 ++ read.1
unfolding start_at
start_only rest read all h =
    let s = both_ok (value_at rest) _ read h in
    let first : rest ≡ spell_value s.0.0 ++ s.0.1 = value_only rest s.0 all s.1 in
    let t = both_ok (reply_at s.0.1) _ read s.2 in
    spelled_body (start s.0.0 t.0.0, t.0.1) read (join_2 0x10 rest (spell_value s.0.0) s.0.1 (spell_reply t.0.0) t.0.1 first (reply_only s.0.1 t.0 (rest_are rest (spell_value s.0.0) s.0.1 first all) t.1)) (ok_is _ read t.2)

raise_only : (rest : List ℕ) (read : Body × List ℕ) → AreBytes rest → raise_at rest ≡ Ok read → 0x11 ∷ rest ≡ spell_body read.0 ++ read.1
unfolding raise_at
raise_only rest read all h =
    let s = both_ok (name_at rest) _ read h in
    let first : rest ≡ spell_word s.0.0 ++ s.0.1 = name_only rest s.0 s.1 in
    let after : AreBytes s.0.1 = rest_are rest (spell_word s.0.0) s.0.1 first all in
    let t = both_ok (value_at s.0.1) _ read s.2 in
    let second : s.0.1 ≡ spell_value t.0.0 ++ t.0.1 = value_only s.0.1 t.0 after t.1 in
    let u = both_ok (request_number_at t.0.1) _ read t.2 in
    spelled_body (raise s.0.0 t.0.0 u.0.0, u.0.1) read (join_3 0x11 rest (spell_word s.0.0) s.0.1 (spell_value t.0.0) t.0.1 (to_be_bytes w32 u.0.0) u.0.1 first second (request_only t.0.1 u.0 (rest_are s.0.1 (spell_value t.0.0) t.0.1 second after) u.1)) (ok_is _ read u.2)

query_only : (rest : List ℕ) (read : Body × List ℕ) → AreBytes rest → query_at rest ≡ Ok read → 0x12 ∷ rest ≡ spell_body read.0 ++ read.1
unfolding query_at
query_only rest read all h =
    let s = both_ok (request_number_at rest) _ read h in
    spelled_body (query s.0.0, s.0.1) read (join_1 0x12 rest (to_be_bytes w32 s.0.0) s.0.1 (request_only rest s.0 all s.1)) (ok_is _ read s.2)

wait_only : (rest : List ℕ) (read : Body × List ℕ) → AreBytes rest → wait_at rest ≡ Ok read → 0x13 ∷ rest ≡ spell_body read.0 ++ read.1
unfolding wait_at
wait_only rest read all h =
    let s = both_ok (request_number_at rest) _ read h in
    spelled_body (wait s.0.0, s.0.1) read (join_1 0x13 rest (to_be_bytes w32 s.0.0) s.0.1 (request_only rest s.0 all s.1)) (ok_is _ read s.2)

result_only : (rest : List ℕ) (read : Body × List ℕ) → AreBytes rest → result_at rest ≡ Ok read → 0x14 ∷ rest ≡ spell_body read.0 ++ read.1
unfolding result_at
result_only rest read all h =
    let s = both_ok (reply_at rest) _ read h in
    let first : rest ≡ spell_reply s.0.0 ++ s.0.1 = reply_only rest s.0 all s.1 in
    let t = both_ok (answer_at s.0.1) _ read s.2 in
    spelled_body (result s.0.0 t.0.0, t.0.1) read (join_2 0x14 rest (spell_reply s.0.0) s.0.1 (spell_answer t.0.0) t.0.1 first (answer_only s.0.1 t.0 (rest_are rest (spell_reply s.0.0) s.0.1 first all) t.1)) (ok_is _ read t.2)

operate_only : (rest : List ℕ) (read : Body × List ℕ) → AreBytes rest → operate_at rest ≡ Ok read → 0x15 ∷ rest ≡ spell_body read.0 ++ read.1
unfolding operate_at
operate_only rest read all h =
    let s = both_ok (name_at rest) _ read h in
    let first : rest ≡ spell_word s.0.0 ++ s.0.1 = name_only rest s.0 s.1 in
    let after : AreBytes s.0.1 = rest_are rest (spell_word s.0.0) s.0.1 first all in
    let t = both_ok (value_at s.0.1) _ read s.2 in
    let second : s.0.1 ≡ spell_value t.0.0 ++ t.0.1 = value_only s.0.1 t.0 after t.1 in
    let u = both_ok (reply_at t.0.1) _ read t.2 in
    spelled_body (operate s.0.0 t.0.0 u.0.0, u.0.1) read (join_3 0x15 rest (spell_word s.0.0) s.0.1 (spell_value t.0.0) t.0.1 (spell_reply u.0.0) u.0.1 first second (reply_only t.0.1 u.0 (rest_are s.0.1 (spell_value t.0.0) t.0.1 second after) u.1)) (ok_is _ read u.2)

spot_count_only : (bytes : List ℕ) (read : ℕ × List ℕ) → spot_count_at bytes ≡ Ok read → bytes ≡ read.0 ∷ read.1
unfolding spot_count_at
spot_count_only bytes read h =
    let s = both_ok (byte_at bytes) _ read h in
    let p = passed_ok _ (Ok s.0) _ read s.2 in
    byte_only bytes s.0 s.1 ∙ ap (λ (q : ℕ × List ℕ). q.0 ∷ q.1) (ok_is s.0 read p.1)

lock_only : (rest : List ℕ) (read : Body × List ℕ) → AreBytes rest → lock_at rest ≡ Ok read → 0x16 ∷ rest ≡ spell_body read.0 ++ read.1
unfolding lock_at
lock_only rest read all h =
    let s = both_ok (id_at rest) _ read h in
    let first : rest ≡ spell_id s.0.0 ++ s.0.1 = id_only rest s.0 all s.1 in
    let after : AreBytes s.0.1 = rest_are rest (spell_id s.0.0) s.0.1 first all in
    let t = both_ok (number_at w32 s.0.1) _ read s.2 in
    let second : s.0.1 ≡ to_be_bytes w32 t.0.0 ++ t.0.1 = number_only_4 s.0.1 t.0 after t.1 in
    let behind : AreBytes t.0.1 = rest_are s.0.1 (to_be_bytes w32 t.0.0) t.0.1 second after in
    let u = both_ok (spot_count_at t.0.1) _ read t.2 in
    let count : t.0.1 ≡ u.0.0 ∷ u.0.1 = spot_count_only t.0.1 u.0 u.1 in
    let v = both_ok (several_at spot_at u.0.0 u.0.1) _ read u.2 in
    let set = several_only spot_at spell_spot spot_only u.0.0 u.0.1 v.0 (rest_are t.0.1 (u.0.0 ∷ []) u.0.1 count behind) v.1 in
    let third : t.0.1 ≡ (length v.0.0 ∷ flat_map spell_spot v.0.0) ++ v.0.1 = count ∙ (ap (λ (n : ℕ). n ∷ u.0.1) (sym set.1) ∙ ap (λ (bs : List ℕ). length v.0.0 ∷ bs) set.0) in
    let w = both_ok (byte_at v.0.1) _ read v.2 in
    spelled_body (lock s.0.0 t.0.0 v.0.0 w.0.0, w.0.1) read
    (join_4 0x16 rest (spell_id s.0.0) s.0.1 (to_be_bytes w32 t.0.0) t.0.1 (length v.0.0 ∷ flat_map spell_spot v.0.0) v.0.1 (w.0.0 ∷ []) w.0.1 first second third (byte_only v.0.1 w.0 w.1)) (ok_is (lock s.0.0 t.0.0 v.0.0 w.0.0, w.0.1) read w.2)

granted_only : (rest : List ℕ) (read : Body × List ℕ) → AreBytes rest → granted_at rest ≡ Ok read → 0x17 ∷ rest ≡ spell_body read.0 ++ read.1
unfolding granted_at
granted_only rest read all h =
    let s = both_ok (number_at w32 rest) _ read h in
    spelled_body (granted s.0.0, s.0.1) read (join_1 0x17 rest (to_be_bytes w32 s.0.0) s.0.1 (number_only_4 rest s.0 all s.1)) (ok_is _ read s.2)

pub body_only : (bytes : List ℕ) (read : Body × List ℕ) → AreBytes bytes → body_at bytes ≡ Ok read → bytes ≡ spell_body read.0 ++ read.1
unfolding body_at
body_only bytes read all h =
    let s = both_ok (byte_at bytes) _ read h in
    let is : bytes ≡ s.0.0 ∷ s.0.1 = byte_only bytes s.0 s.1 in
    let rest : AreBytes s.0.1 = rest_are bytes (s.0.0 ∷ []) s.0.1 is all in
    elim (either (s.0.0 == 0x10) _ _ read s.2) [
      | inl p ↦ tagged bytes s.0.1 s.0.0 0x10 is p.0 ∙ start_only s.0.1 read rest p.1
      | inr p ↦ elim (either (s.0.0 == 0x11) _ _ read p.1) [
        | inl p ↦ tagged bytes s.0.1 s.0.0 0x11 is p.0 ∙ raise_only s.0.1 read rest p.1
        | inr p ↦ elim (either (s.0.0 == 0x12) _ _ read p.1) [
          | inl p ↦ tagged bytes s.0.1 s.0.0 0x12 is p.0 ∙ query_only s.0.1 read rest p.1
          | inr p ↦ elim (either (s.0.0 == 0x13) _ _ read p.1) [
            | inl p ↦ tagged bytes s.0.1 s.0.0 0x13 is p.0 ∙ wait_only s.0.1 read rest p.1
            | inr p ↦ elim (either (s.0.0 == 0x14) _ _ read p.1) [
              | inl p ↦ tagged bytes s.0.1 s.0.0 0x14 is p.0 ∙ result_only s.0.1 read rest p.1
              | inr p ↦ elim (either (s.0.0 == 0x15) _ _ read p.1) [
                | inl p ↦ tagged bytes s.0.1 s.0.0 0x15 is p.0 ∙ operate_only s.0.1 read rest p.1
                | inr p ↦ elim (either (s.0.0 == 0x16) _ _ read p.1) [
                  | inl p ↦ tagged bytes s.0.1 s.0.0 0x16 is p.0 ∙ lock_only s.0.1 read rest p.1
                  | inr p ↦ elim (either (s.0.0 == 0x17) _ _ read p.1) [
                    | inl p ↦ tagged bytes s.0.1 s.0.0 0x17 is p.0 ∙ granted_only s.0.1 read rest p.1
                    | inr p ↦
                        let q = passed_ok (s.0.0 == 0x18) _ _ read p.1 in
                        spelled_body (release, s.0.1) read (tagged bytes s.0.1 s.0.0 0x18 is q.0) (ok_is _ read q.1)
                  ]
                ]
              ]
            ]
          ]
        ]
      ]
    ]

pub message_only : (bytes : List ℕ) (read : Message × List ℕ) → AreBytes bytes → message_at bytes ≡ Ok read → bytes ≡ spell_message read.0 ++ read.1
unfolding message_at
message_only bytes read all h =
    let s = both_ok (id_at bytes) _ read h in
    let first : bytes ≡ spell_id s.0.0 ++ s.0.1 = id_only bytes s.0 all s.1 in
    let after : AreBytes s.0.1 = rest_are bytes (spell_id s.0.0) s.0.1 first all in
    let t = both_ok (id_at s.0.1) _ read s.2 in
    let second : s.0.1 ≡ spell_id t.0.0 ++ t.0.1 = id_only s.0.1 t.0 after t.1 in
    let u = both_ok (body_at t.0.1) _ read t.2 in
    let third : t.0.1 ≡ spell_body u.0.0 ++ u.0.1 = body_only t.0.1 u.0 (rest_are s.0.1 (spell_id t.0.0) t.0.1 second after) u.1 in
    chain_2 bytes (spell_id s.0.0 ++ spell_id t.0.0) t.0.1 (spell_body u.0.0) u.0.1 (chain_2 bytes (spell_id s.0.0) s.0.1 (spell_id t.0.0) t.0.1 first second) third
    ∙ ap (λ (q : Message × List ℕ). spell_message q.0 ++ q.1) (ok_is _ read u.2)
