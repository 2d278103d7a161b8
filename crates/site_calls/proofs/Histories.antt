-- What follows from the definitions of events.
use Rattle.std.proofs.Common.{◌≡◌, true, false, ◌||◌, cond, ℕ, ◌+◌, ◌-◌, ◌≤◌, min, List, [], ◌∷◌, ◌++◌, length, take, drop, sym, refl, ◌∙◌, ap, subst, arith, length-take, length-drop}
use Rattle.std.proofs.Math.Seq.{take-append_seam, drop-append_seam}
use Rattle.std.proofs.lemmas.List.{take-take, drop-take}
use Rattle.site_model.specs.History.{Step, on, wrote, synced, content_of, reads}
use Rattle.site_model.specs.History as history
use Rattle.site_model.proofs.Paths.{own_change}
use Rattle.site_calls.specs.Events.{Event, Unseen, Standing, found, made, measured, got, begun, put, lost, flushed, named, absent, printed, failed, unprinted, after, replay, IsHonest, Tells, start_of}
use Rattle.site_calls.specs.Laws.{HasHonestAnswers, HoldsTwoBytes, honest_events, NoneIsHonest, SyncCounts, LeavesUnseen, left_by}
use Rattle.site_calls.proofs.FirstSteps.{held, length-start_of}

-- ---- answers

pub honest_answers : (steps : List Step) → HasHonestAnswers steps
honest_answers steps = record {
  to_find = λ file. (true, tt);
  to_measure = λ file. (length (content_of file steps), refl);
  to_read_some = λ file at want done below there.
      let content = content_of file steps in
      let count = min want (length content - at) - done in
      let bytes = take (done + count) (drop at content) in
      let long : length bytes ≡ done + count = omega (arith, length-take (done + count) (drop at content), length-drop at content) in
      (count, bytes, long, omega (arith, long), (ap (λ (n : ℕ). take n (drop at content)) (sym long), λ none short. omega (arith, long)));
}

-- ---- examples

module _ (unseen : Unseen) (holds : HoldsTwoBytes unseen) where
  first_content : content_of 0 (start_of unseen.files) ≡ 7 ∷ 8 ∷ []
  first_content = held unseen.files 0 (omega arith) ∙ holds

  at_first : (P : List ℕ → Type 0) → P (7 ∷ 8 ∷ []) → P (content_of 0 (start_of unseen.files))
  at_first P = subst P (sym first_content)

  pub honest_example : Tells unseen honest_events
  honest_example =
      let start = length-start_of unseen.files in
      let was_two : 2 ≡ length (content_of 0 (start_of unseen.files)) = at_first (λ c. 2 ≡ length c) refl in
      let is_three : 3 ≡ length (history.put 2 (9 ∷ []) (content_of 0 (start_of unseen.files))) = at_first (λ c. 3 ≡ length (history.put 2 (9 ∷ []) c)) refl in
      let last_two : 8 ∷ 9 ∷ [] ≡ take 2 (drop 1 (history.put 2 (9 ∷ []) (content_of 0 (start_of unseen.files)))) = at_first (λ c. 8 ∷ 9 ∷ [] ≡ take 2 (drop 1 (history.put 2 (9 ∷ []) c))) refl in
      ((((((((tt, tt), was_two), tt), tt), is_three), (last_two, λ none. absurd (omega arith))), (last_two, λ none short. omega (arith, is_three))), omega (arith, start))

  at_now : (P : List ℕ → Type 0) → P (content_of 0 (start_of unseen.files)) → P (7 ∷ 8 ∷ [])
  at_now P = subst P first_content

  pub wrong_examples : NoneIsHonest unseen
  wrong_examples = record {
    a_wrong_length = λ honest. absurd (omega (arith, at_now (λ c. 3 ≡ length c) honest.1));
    a_wrong_byte = λ honest. let same : 7 ∷ 9 ∷ [] ≡ 7 ∷ 8 ∷ [] = at_now (λ c. 7 ∷ 9 ∷ [] ≡ take 2 (drop 0 c)) honest.1.0 in cc;
    an_early_end = λ honest. absurd (omega (arith, at_now (λ c. length c ≤ 0 + 1) (honest.1.1 refl (omega arith))));
    no_file = λ honest. let none : 7 ∷ 8 ∷ [] ≡ [] = at_now (λ c. c ≡ []) honest.1 in cc;
    an_old_length = λ honest. absurd (omega (arith, at_now (λ c. 2 ≡ length (history.put 2 (9 ∷ []) c)) honest.1));
  }

-- ---- the past

pub honest_before : (unseen : Unseen) (later events : List Event) → IsHonest unseen (later ++ events) → IsHonest unseen events
honest_before unseen [] events honest = honest
honest_before unseen (event ∷ later) events honest = honest_before unseen later events honest.0

-- ---- syncs

pub sync_counts : (file : ℕ) (unseen : Unseen) (events : List Event) → SyncCounts file unseen events
sync_counts file unseen events =
    let m = replay unseen events in
    record {
      counts = λ named unbroken. ap (λ b. cond (b || m.broken) m.steps (on file synced ∷ m.steps)) named ∙ ap (λ b. cond b m.steps (on file synced ∷ m.steps)) unbroken;
      not_with_a_loose_name = λ loose. ap (λ b. cond (b || m.broken) m.steps (on file synced ∷ m.steps)) loose;
      not_when_broken = λ broken.
          ap (λ b. cond (m.loose || b) m.steps (on file synced ∷ m.steps)) broken
          ∙ elim m.loose as (λ b. cond (b || true) m.steps (on file synced ∷ m.steps) ≡ m.steps) [ true ↦ refl | false ↦ refl ];
    }

-- no event mends it
stays_broken : (left : List ℕ) (event : Event) (m : Standing) → m.broken ≡ true → (after left event m).broken ≡ true
stays_broken left (found file is_there) m broken = broken
stays_broken left (made file) m broken = broken
stays_broken left (measured file size) m broken = broken
stays_broken left (got file at want count bytes) m broken = broken
stays_broken left (begun file at size) m broken = broken
stays_broken left (put bytes) m broken = broken
stays_broken left (lost bytes) m broken = broken
stays_broken left (flushed file true) m broken = broken
stays_broken left (flushed file false) m broken = refl
stays_broken left (named true) m broken = broken
stays_broken left (named false) m broken = refl
stays_broken left (absent file) m broken = broken
stays_broken left (printed bytes) m broken = broken
stays_broken left (failed file) m broken = broken
stays_broken left unprinted m broken = broken

pub broken_later : (unseen : Unseen) (later events : List Event) → (replay unseen events).broken ≡ true → (replay unseen (later ++ events)).broken ≡ true
broken_later unseen [] events broken = broken
broken_later unseen (event ∷ later) events broken =
    stays_broken (unseen.left (length (later ++ events))) event (replay unseen (later ++ events)) (broken_later unseen later events broken)

-- ---- a lost write

pub leaves_unseen : (unseen : Unseen) (events : List Event) → LeavesUnseen unseen events
leaves_unseen unseen events file at size bytes =
    ap reads (own_change file (wrote at size (left_by bytes size (unseen.left (length (begun file at size ∷ events))))) (replay unseen events).steps)

module _ (bytes left : List ℕ) (size : ℕ) where
  pub left_within : length (left_by bytes size left) ≤ size
  left_within = omega (arith, length-take size (bytes ++ drop (length bytes) left))

  module _ (fits : length bytes ≤ size) where
    pub left_front : take (length bytes) (left_by bytes size left) ≡ bytes
    left_front = take-take (length bytes) size (bytes ++ drop (length bytes) left) fits ∙ take-append_seam bytes (drop (length bytes) left)

    pub left_behind : drop (length bytes) (left_by bytes size left) ≡ drop (length bytes) (take size left)
    left_behind =
        let whole : length bytes + (size - length bytes) ≡ size = omega arith in
        ap (λ (n : ℕ). drop (length bytes) (take n (bytes ++ drop (length bytes) left))) (sym whole)
        ∙ drop-take (length bytes) (size - length bytes) (bytes ++ drop (length bytes) left)
        ∙ ap (λ (l : List ℕ). take (size - length bytes) l) (drop-append_seam bytes (drop (length bytes) left))
        ∙ sym (drop-take (length bytes) (size - length bytes) left)
        ∙ ap (λ (n : ℕ). drop (length bytes) (take n left)) whole
