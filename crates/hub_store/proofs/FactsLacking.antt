-- What is refused for one fact alone, in the examples.
use Rattle.std.proofs.Common.{◌≡◌, ℕ, inl, inr, ◌⊎◌, List, [], ◌∷◌, ◌++◌, refl, ap, sym, subst, ◌∙◌, arith}
use Rattle.site_model.specs.History.{Change, wrote, reads}
use Rattle.std.specs.Str.{is_utf8, chars}
use lib.Utf8.{encode}
use Rattle.commit_log.specs.Segment.{header_at, frame_at}
use Rattle.dura_codec.specs.Fields.{request_number_at, several_at, run_at, count_at}
use Rattle.dura_codec.specs.Grammar.{word_size_at, name_at, key_at, text_at, scalar_at, scalars_at, value_front, value_at, id_at, reply_at, answer_at, spot_at, spot_count_at, lock_at, start_at, raise_at, query_at, wait_at, result_at, operate_at, granted_at, body_at, message_at, outcome_at}
use Rattle.part_items.specs.Grammar.{took_at, item_at, members_at, entry_items_at}
use Rattle.part_items.specs.Numbered.{position_at, incarnation_at, next_entry_at, next_entries_at, next_frame_at}
use Rattle.part_items.specs.Examples.{empty_log, taking, taking_log}
use Rattle.part_items.specs.Kept.{entries_from, keeps, kept_in}
use Rattle.hub_store.specs.Trail.{Settled, Said}
use Rattle.hub_store.specs.Moments.SaidSoFar.{silent, settles as told_settles, says}
use Rattle.hub_store.specs.Examples.{frame, settled_when, request, answer, speaking, one_log, IsTold, Stand, StandWith}
use Rattle.hub_store.specs.FieldExamples.{wrong_byte, IsNext, TakingFollows, NoneFollows, frame_opened, body_written, other_byte, HasNext, WroteBehind}
use Rattle.hub_store.proofs.LogsStand.{nothing_kept}

-- ---- the tape

abbrev first_byte : List ℕ → ℕ
first_byte [] = 0
first_byte (byte ∷ rest) = byte

-- lines are there where somebody was answered, and there alone, and each begins as the answer does
abbrev BeginRight : List Said → List ℕ → Type 0
BeginRight [] lines = lines ≡ []
BeginRight (one ∷ told) lines = (rest : List ℕ) × (lines ≡ 65 ∷ rest)

one_more : (told : List Said) (lines : List ℕ) (one : Said) → BeginRight told lines → BeginRight (told ++ one ∷ []) (lines ++ answer)
one_more [] lines one right = (10 ∷ [], ap (λ (l : List ℕ). l ++ answer) right)
one_more (first ∷ told) lines one right = (right.0 ++ answer, ap (λ (l : List ℕ). l ++ answer) right.1)

lines_right : {trail : List Settled} {told : List Said} {lines : List ℕ} → IsTold trail told lines → BeginRight told lines
lines_right silent = refl
lines_right (told_settles before partition at going may) = lines_right before
lines_right (says {trail} {told} {lines} before one line may) =
    subst (λ (l : List ℕ). BeginRight (told ++ one ∷ []) (lines ++ l)) (sym may.1) (one_more told lines one (lines_right before))

pub not_of_nobody : IsTold [] [] answer → ⊥
not_of_nobody told = let none : answer ≡ [] = lines_right told in cc none

pub nobody_answered : StandWith [] (settled_when 0) [] []
nobody_answered = record { lines = []; rightly = told_settles silent 0 0 frame refl; spoken = refl; images = λ partition below. absurd (omega (arith, below)); others = λ file none. refl }

pub not_unsaid : StandWith [] (settled_when 0) (request ∷ []) [] → ⊥
not_unsaid stands =
    let right : BeginRight (request ∷ []) stands.lines = lines_right stands.rightly in
    let wrong : [] ≡ (65 ∷ right.0) ++ [] = subst (λ (l : List ℕ). [] ≡ l ++ []) right.1 stands.spoken in
    cc wrong

pub half_next : IsNext (settled_when 0) speaking (65 ∷ [])
half_next = record { speaking = (65, [], refl); one = request; line = answer; may = (omega arith, refl); front = (10 ∷ [], refl) }

pub not_silent : IsNext (settled_when 0) [] (65 ∷ []) → ⊥
not_silent next = cc next.speaking.2

pub not_before : IsNext [] speaking (65 ∷ []) → ⊥
not_before next = omega (arith, next.may.0)

-- the answer begins with no such byte
other_first : (rest : List ℕ) → answer ≡ 66 ∷ rest → ⊥
other_first rest is = let first : 65 ≡ 66 = ap first_byte is in omega (arith, first)

pub not_other : IsNext (settled_when 0) speaking (66 ∷ []) → ⊥
not_other next = other_first next.front.0 (sym next.may.1 ∙ next.front.1)

-- no line that is there and no part of the next begins with the byte
begins_wrong : (told : List Said) (lines part : List ℕ) → BeginRight told lines → 66 ∷ [] ≡ lines ++ part → ((part ≡ []) ⊎ ((rest : List ℕ) × (answer ≡ part ++ rest))) → ⊥
begins_wrong [] lines part right spoken (inl none) =
    let wrong : 66 ∷ [] ≡ [] = spoken ∙ ap (λ (l : List ℕ). l ++ part) right ∙ none in cc wrong
begins_wrong [] lines part right spoken (inr next) =
    let part_is : 66 ∷ [] ≡ part = spoken ∙ ap (λ (l : List ℕ). l ++ part) right in
    other_first next.0 (next.1 ∙ ap (λ (l : List ℕ). l ++ next.0) (sym part_is))
begins_wrong (one ∷ told) lines part right spoken any =
    let first : 66 ≡ 65 = ap first_byte (spoken ∙ ap (λ (l : List ℕ). l ++ part) right.1) in omega (arith, first)

pub not_wrong_byte : Stand wrong_byte (settled_when 0) → ⊥
not_wrong_byte stands =
    let right = lines_right stands.stands.rightly in
    elim stands.speaking [
      | inl none ↦ begins_wrong stands.told stands.stands.lines stands.part right stands.stands.spoken (inl none)
      | inr next ↦ begins_wrong stands.told stands.stands.lines stands.part right stands.stands.spoken (inr (next.front.0, sym next.may.1 ∙ next.front.1))
    ]

-- ---- frames

-- behind a closed gate a frame isn't kept
body_kept : kept_in 0 (reads body_written) ≡ keeps (one_log.logs 0).header [] 33
unfolding header_at entries_from
body_kept = refl

frame_kept : kept_in 0 taking_log ≡ keeps (one_log.logs 0).header (taking 0 ∷ []) 76
unfolding is_utf8 chars encode request_number_at several_at run_at word_size_at name_at key_at text_at scalar_at scalars_at value_front value_at id_at reply_at answer_at spot_at spot_count_at lock_at start_at raise_at query_at wait_at result_at operate_at granted_at body_at message_at count_at outcome_at took_at item_at members_at entry_items_at position_at incarnation_at next_entry_at next_entries_at next_frame_at header_at frame_at entries_from
frame_kept = refl

pub gate_written : WroteBehind [] frame_opened
gate_written = record { gate = 33; bytes = 0xC3 ∷ []; before = body_written; last = refl; kept = body_kept }

pub has_next : HasNext TakingFollows frame_opened taking_log
has_next = record { going = taking 0 ∷ []; follows = refl; gate = gate_written; keeps = (76, frame_kept) }

pub not_following : HasNext NoneFollows frame_opened taking_log → ⊥
not_following next = next.follows

one_byte : (gate : ℕ) (bytes other : List ℕ) (before changes : List Change) → wrote 34 43 bytes ∷ changes ≡ wrote gate 1 other ∷ before → ⊥
one_byte gate bytes other before changes is = cc is

pub not_body : WroteBehind [] body_written → ⊥
not_body written = one_byte written.gate _ written.bytes written.before _ written.last

pub not_closed : HasNext TakingFollows body_written taking_log → ⊥
not_closed next = not_body next.gate

pub not_without : HasNext TakingFollows frame_opened empty_log → ⊥
not_without next =
    let kept : keeps (one_log.logs 0).header [] 33 ≡ keeps (one_log.logs 0).header next.going next.keeps.0 = sym nothing_kept ∙ next.keeps.1 in
    let none : [] ≡ next.going = cc kept in
    let wrong : [] ≡ taking 0 ∷ [] = none ∙ next.follows in
    cc wrong

pub not_elsewhere : WroteBehind [] other_byte → ⊥
not_elsewhere written =
    let last : wrote 40 1 (0 ∷ []) ∷ body_written ≡ wrote written.gate 1 written.bytes ∷ written.before = written.last in
    let before : body_written ≡ written.before = cc last in
    let gate : 40 ≡ written.gate = cc last in
    let kept : keeps (one_log.logs 0).header [] 33 ≡ keeps (one_log.logs 0).header [] written.gate = sym body_kept ∙ ap (λ (c : List Change). kept_in 0 (reads c)) before ∙ written.kept in
    let other : 33 ≡ written.gate = cc kept in
    omega (arith, gate, other)

pub not_unsettled : WroteBehind (taking 0 ∷ []) frame_opened → ⊥
not_unsettled written =
    let last : wrote 33 1 (0xC3 ∷ []) ∷ body_written ≡ wrote written.gate 1 written.bytes ∷ written.before = written.last in
    let before : body_written ≡ written.before = cc last in
    let kept : keeps (one_log.logs 0).header [] 33 ≡ keeps (one_log.logs 0).header (taking 0 ∷ []) written.gate = sym body_kept ∙ ap (λ (c : List Change). kept_in 0 (reads c)) before ∙ written.kept in
    cc kept
