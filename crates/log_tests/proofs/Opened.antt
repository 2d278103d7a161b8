-- A log that is opened and read frame by frame rests at its end.
use Rattle.std.proofs.Common.{◌≡◌, ◌∙◌, ℕ, List, [], ◌∷◌, ◌++◌, length, Ok, sym, ap, subst}
use Rattle.site_model.specs.History.{Step, on, synced, reads, changes_of, content_of, IsKept}
use Rattle.site_model.proofs.Paths.{own_change}
use Rattle.commit_log.specs.declared.states.Resting.{Resting}
use Rattle.commit_log.specs.declared.reader.LogReader.{LogReader}
use Rattle.commit_log.specs.declared.reader.OpenedLog.{OpenedLog}
use Rattle.commit_log.specs.Segment.{first_gate}
use Rattle.commit_log.specs.Frames.{HasRead}
use Rattle.commit_log.specs.Outcomes.{RestsAs}
use Rattle.commit_log.specs.Reading.{Opens, Goes, IsAhead, StaysInFile}
use Rattle.commit_log.specs.declared.reader.Next.TheVariants.{Frame}
use Rattle.commit_log.specs.States.{Rests}

-- The file was synced, and of it some payloads were read up to the reader's gate.
pub record IsReading (file : ℕ) (old now : List Step) (reader : LogReader) : Type 0 where
  pub steps : now ≡ on file synced ∷ old
  pub place : reader.file ≡ file
  pub ahead : IsAhead (content_of reader.file now) reader
  pub payloads : List (List ℕ)
  pub read : HasRead (content_of reader.file now) reader.header payloads reader.gate
  pub kept : IsKept (changes_of reader.file now)

module _ (file : ℕ) (old now : List Step) (reader : LogReader) where
  -- a log that was opened, before its first frame
  pub begun : (opened : OpenedLog) → now ≡ on file synced ∷ old → opened.file ≡ file → Opens 0 (content_of file old) (Ok opened)
      → (reader.file ≡ opened.file) × (reader.header ≡ opened.header) × (reader.gate ≡ first_gate) × (reader.size ≡ opened.size) → ((content : List ℕ) → length content ≡ opened.size → IsAhead content reader) → IsReading file old now reader
  begun opened is place opens stands ahead =
      let own : changes_of file now ≡ synced ∷ changes_of file old = ap (changes_of file) is ∙ own_change file synced old in
      let there : reader.file ≡ file = stands.0 ∙ place in
      let same : content_of reader.file now ≡ content_of file old = ap (λ (f : ℕ). content_of f now) there ∙ ap reads own in
      record {
        steps = is;
        place = there;
        ahead = ahead (content_of reader.file now) (ap (λ (c : List ℕ). length c) same ∙ sym opens.2);
        payloads = [];
        read = subst (λ (c : List ℕ). HasRead c reader.header [] reader.gate) (sym same) (rw (stands.1, stands.2) opens.1);
        kept = subst (λ (f : ℕ). IsKept (changes_of f now)) (sym there) (subst IsKept (sym own) (λ image left. left));
      }

  -- a frame more
  pub more : (behind : LogReader) (payload : List ℕ) (after : List Step) (was : IsReading file old now reader) → after ≡ now → StaysInFile reader (Ok (Frame payload behind))
      → Goes (content_of reader.file now) reader was.payloads (Ok (Frame payload behind)) → IsAhead (content_of reader.file now) behind → IsReading file old after behind
  more behind payload after was same stays goes ahead =
      let here : changes_of behind.file after ≡ changes_of reader.file now = ap (λ (f : ℕ). changes_of f after) stays.0 ∙ ap (changes_of reader.file) same in
      let content : content_of behind.file after ≡ content_of reader.file now = ap reads here in
      record {
        steps = same ∙ was.steps;
        place = stays.0 ∙ was.place;
        ahead = subst (λ (c : List ℕ). IsAhead c behind) (sym content) ahead;
        payloads = was.payloads ++ payload ∷ [];
        read = subst (λ (c : List ℕ). HasRead c behind.header (was.payloads ++ payload ∷ []) behind.gate) (sym content)
            (subst (λ h. HasRead (content_of reader.file now) h (was.payloads ++ payload ∷ []) behind.gate) (sym stays.1) goes.1);
        kept = subst IsKept (sym here) was.kept;
      }

  -- the closed gate behind the last
  pub at_end : (log : Resting) (after : List Step) (was : IsReading file old now reader) → log.file ≡ reader.file → RestsAs after reader.header was.payloads log → Rests (changes_of file after) log.gate
  at_end log after was place rests = subst (λ (f : ℕ). Rests (changes_of f after) log.gate) (place ∙ was.place) (reader.header, was.payloads, rests)
