-- Opening a log.
use Rattle.std.proofs.Common.{◌≡◌, ◌≢◌, ◌==◌, Bool, MatchBool, ℕ, true, false, List, [], ◌∷◌, ◌++◌, get_or, Result, sym, ap, subst, ◌∙◌, arith}
use Rattle.std.proofs.lemmas.Bool.{eqb-true, eqb-false}
use Rattle.std.proofs.lemmas.List.{get_or_at, append_assoc}
use Rattle.site_model.specs.History.{Change, Step, on, synced, reads, changes_of, content_of, Leaves, writes_inside}
use Rattle.site_model.specs.Calls.{Syncs}
use Rattle.site_model.specs.Moments.{LeavesOnly}
use Rattle.site_model.proofs.Images.{reads_is_image}
use Rattle.commit_log.specs.declared.header.Header.{Header}
use Rattle.commit_log.specs.Segment.{segment_bytes, framed, open_gate}
use Rattle.commit_log.specs.States.{IsResting, IsBrokenBody, IsBrokenGate, IsBeforeOrAfter}
use Rattle.commit_log.proofs.Written.{segment-push}
use Rattle.commit_log.proofs.Steps.{sync_during, synced_changes, dropped}

-- a sync leaves no image that wasn't there before
pub opening_during : {T E : Type 0} (file : ℕ) (old mid new : List Step) (result : Result T E) → Syncs file old mid result → new ≡ mid → writes_inside (changes_of file old) ≡ true
    → LeavesOnly file old new (Leaves (changes_of file old))
opening_during file old mid new result syncs same inside =
    subst (λ (steps : List Step). LeavesOnly file old steps (Leaves (changes_of file old))) (sym same)
    (sync_during file old mid (Leaves (changes_of file old)) result syncs (λ image left. left)
    (λ image left. subst (Leaves (changes_of file old)) (sym left) (reads_is_image (changes_of file old) inside)))

-- ---- opening again

-- a sync leaves a log whose gate was tried as it is
pub broken_gate_synced : (changes : List Change) (h : Header) (payloads : List (List ℕ)) (payload : List ℕ) (gate next : ℕ) → IsBrokenGate changes h payloads payload gate next → IsBrokenGate (synced ∷ changes) h payloads payload gate next
broken_gate_synced changes h payloads payload gate next broken = record {
  ends = broken.ends;
  ends_after = broken.ends_after;
  content = broken.content;
  images = λ image left. subst (IsBeforeOrAfter h payloads payload) (sym left) broken.content;
}

module _ (changes : List Change) (h : Header) (payloads : List (List ℕ)) (payload : List ℕ) (gate next : ℕ) (broken : IsBrokenGate changes h payloads payload gate next) where
  pub at_gate : get_or (reads changes) gate 0 ≡ broken.content.byte
  at_gate = ap (λ (l : List ℕ). get_or l gate 0) broken.content.split ∙ get_or_at (segment_bytes h payloads) broken.content.byte broken.content.rest 0 gate (sym broken.ends.place)

  -- where the gate reads open, the log rests behind the frame
  pub reopened_open : get_or (reads changes) gate 0 ≡ open_gate → IsResting (synced ∷ changes) h (payloads ++ payload ∷ []) next
  reopened_open is =
      let is_open : broken.content.byte ≡ open_gate = sym at_gate ∙ is in
      let behind = broken.content.whole is_open in
      record {
        ends = broken.ends_after;
        byte = 0;
        rest = behind.0;
        content =
            broken.content.split ∙ ap (λ (b : ℕ). segment_bytes h payloads ++ b ∷ broken.content.rest) is_open ∙ ap (λ (l : List ℕ). segment_bytes h payloads ++ open_gate ∷ l) behind.1
            ∙ sym (append_assoc (segment_bytes h payloads) (open_gate ∷ framed payload) (0 ∷ behind.0)) ∙ ap (λ (l : List ℕ). l ++ 0 ∷ behind.0) (sym (segment-push h payloads payload));
        closed = omega arith;
        kept = λ image left. left;
      }

  -- and else before it
  pub reopened_closed : get_or (reads changes) gate 0 ≢ open_gate → IsResting (synced ∷ changes) h payloads gate
  reopened_closed closed = record {
    ends = broken.ends;
    byte = broken.content.byte;
    rest = broken.content.rest;
    content = broken.content.split;
    closed = λ is. closed (at_gate ∙ is);
    kept = λ image left. left;
  }

-- by what was read
pub reopens : (file : ℕ) (old new : List Step) (h : Header) (payloads : List (List ℕ)) (payload : List ℕ) (gate next : ℕ) (is_open : Bool) → IsBrokenGate (changes_of file old) h payloads payload gate next
    → new ≡ on file synced ∷ old → is_open ≡ (get_or (content_of file old) gate 0 == open_gate)
    → MatchBool is_open (IsResting (changes_of file new) h (payloads ++ payload ∷ []) next) (IsResting (changes_of file new) h payloads gate)
reopens file old new h payloads payload gate next true broken is test =
    subst (λ (changes : List Change). IsResting changes h (payloads ++ payload ∷ []) next) (sym (synced_changes file old new is))
    (reopened_open (changes_of file old) h payloads payload gate next broken (eqb-true _ _ (sym test)))
reopens file old new h payloads payload gate next false broken is test =
    subst (λ (changes : List Change). IsResting changes h payloads gate) (sym (synced_changes file old new is))
    (reopened_closed (changes_of file old) h payloads payload gate next broken (eqb-false _ _ (sym test)))

-- what dropping a frame leaves whose gate was never tried
pub drop_rests : (file : ℕ) (old new : List Step) (h : Header) (payloads : List (List ℕ)) (gate : ℕ) → IsBrokenBody (changes_of file old) h payloads gate
    → new ≡ on file synced ∷ old → IsResting (changes_of file new) h payloads gate
drop_rests file old new h payloads gate broken is =
    subst (λ (changes : List Change). IsResting changes h payloads gate) (sym (synced_changes file old new is)) (dropped h payloads gate (changes_of file old) broken)
