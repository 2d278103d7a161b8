-- What a step of reading makes of what was read of a log.
use Rattle.std.proofs.Common.{◌≡◌, ◌∙◌, ℕ, ◌+◌, List, [], ◌∷◌, ◌++◌, length, drop, Result, Ok, Err, refl, sym, ap, subst, append_assoc, append-nil, arith}
use Rattle.site_model.specs.History.{Step, content_of, changes_of, IsKept}
use Rattle.commit_log.specs.Segment.{◌>>=◌}
use Rattle.commit_log.specs.Frames.{frame, found_at, HasRead}
use Rattle.commit_log.specs.Reading.{IsAhead, Goes, RestsAtEnd, StaysAhead}
use Rattle.commit_log.specs.declared.header.Header.{Header}
use Rattle.commit_log.specs.declared.reader.FrameError.{FrameError}
use Rattle.commit_log.specs.declared.reader.FrameError.TheVariants as unread
use Rattle.commit_log.specs.declared.reader.Next as gates
use Rattle.commit_log.specs.declared.reader.LogReader.{LogReader}
use Rattle.commit_log.specs.declared.reader.OpenedLog.{OpenedLog}
use Rattle.dura_value.specs.Items.{Entry}
use Rattle.dura_value.specs.Reading.{ReadFails}
use Rattle.dura_value.specs.declared.faults.ReadError.{ReadError}
use Rattle.dura_value.specs.declared.faults.ReadError.TheVariants as faults
use Rattle.part_items.specs.Coming.{Coming, IsFirst}
use Rattle.part_items.specs.Numbered.{Next, behind, behind_all, next_frame_in}
use Rattle.part_items.specs.Kept.{in_file, left_from, first_of}
use Rattle.part_items.proofs.Behind.{behind_both}
use Rattle.part_items.proofs.FrameByFrame.{left_frame, left_wrong}
use Rattle.dura_value.proofs.Basics.{both_ok}
use Rattle.log_files.specs.Entries.{frames_in, with_front, fault_behind, IsFaultBefore, whole_of, IsBefore, IsInside, Turns}
use Rattle.log_files.proofs.NextFrames.{fault_inside}

front_front : (a b : List Entry) (read : Result (List Entry × ℕ) ℕ) → with_front a (with_front b read) ≡ with_front (a ++ b) read
front_front a b (Ok more) = ap (λ (l : List Entry). Ok (l, more.1)) (sym (append_assoc a b more.0))
front_front a b (Err offset) = refl

front_none : (read : Result (List Entry × ℕ) ℕ) → with_front [] read ≡ read
front_none (Ok more) = refl
front_none (Err offset) = refl

-- a payload behind others
frames_more : (next : Next) (payloads : List (List ℕ)) (payload : List ℕ) (entries more : List Entry) → frames_in next payloads ≡ Ok entries → next_frame_in (behind_all next entries) payload ≡ Ok more
    → frames_in next (payloads ++ payload ∷ []) ≡ Ok (entries ++ more)
frames_more next [] payload entries more is here =
    let none : [] ≡ entries = cc is in
    let first : next_frame_in next payload ≡ Ok more = subst (λ (e : List Entry). next_frame_in (behind_all next e) payload ≡ Ok more) (sym none) here in
    rw first (ap (λ (l : List Entry). Ok l) (append-nil more) ∙ ap (λ (e : List Entry). Ok (e ++ more)) none)
frames_more next (one ∷ payloads) payload entries more is here =
    let first = both_ok (next_frame_in next one) _ entries is in
    let later = both_ok (frames_in (behind_all next first.0) payloads) _ entries first.2 in
    let both : first.0 ++ later.0 ≡ entries = let same : Path (Result (List Entry) ℕ) (Ok (first.0 ++ later.0)) (Ok entries) = later.2 in cc same in
    let behind : next_frame_in (behind_all (behind_all next first.0) later.0) payload ≡ Ok more =
    subst (λ (n : Next). next_frame_in n payload ≡ Ok more) (ap (behind_all next) (sym both) ∙ behind_both next first.0 later.0) here in
    let rest = frames_more (behind_all next first.0) payloads payload later.0 more later.1 behind in
    rw (first.1, rest) (ap (λ (l : List Entry). Ok l) (sym (append_assoc first.0 later.0 more) ∙ ap (λ (l : List Entry). l ++ more) both))

-- what is left inside a frame
abbrev pub left_inside : (content : List ℕ) → (start gate : ℕ) → (next : Next) → Result (List Entry) ℕ → Result (List Entry × ℕ) ℕ
left_inside content start gate next coming = in_file start coming >>= λ entries. with_front entries (left_from content gate (behind_all next entries))

-- the first entry of those to come
pub entry_left : (content : List ℕ) (start gate : ℕ) (old new : Coming) (entry : Entry) → IsFirst old entry new
    → left_inside content start gate old.next old.entries ≡ with_front (entry ∷ []) (left_inside content start gate new.next new.entries)
entry_left content start gate old new entry first =
    ap (left_inside content start gate old.next) first.entries ∙ by new.entries
    ∙ ap (λ (n : Next). with_front (entry ∷ []) (left_inside content start gate n new.entries)) (sym first.behind)
  where
    by : (coming : Result (List Entry) ℕ) → left_inside content start gate old.next (coming >>= λ more. Ok (entry ∷ more)) ≡ with_front (entry ∷ []) (left_inside content start gate (behind entry) coming)
    by (Ok more) = sym (front_front (entry ∷ []) more (left_from content gate (behind_all (behind entry) more)))
    by (Err offset) = refl

pub none_inside : (content : List ℕ) (start gate : ℕ) (next : Next) (coming : Result (List Entry) ℕ) → coming ≡ Ok [] → left_inside content start gate next coming ≡ left_from content gate next
none_inside content start gate next coming none = ap (left_inside content start gate next) none ∙ front_none (left_from content gate next)

pub bad_inside : (content : List ℕ) (start gate : ℕ) (next : Next) (coming : Result (List Entry) ℕ) (offset : ℕ) → coming ≡ Err offset → left_inside content start gate next coming ≡ Err (start + offset)
bad_inside content start gate next coming offset bad = ap (left_inside content start gate next) bad

-- a frame at the gate
pub frame_left : (content : List ℕ) (gate start end : ℕ) (next : Next) (payload : List ℕ) (coming : Coming) → found_at gate (drop gate content) ≡ frame payload → start ≡ gate + 5 → end ≡ gate + 5 + length payload
    → coming.next ≡ next → coming.entries ≡ next_frame_in next payload → left_from content gate next ≡ left_inside content start end coming.next coming.entries
frame_left content gate start end next payload coming found start_is end_is next_is entries =
    left_frame content gate next payload found
    ∙ ap (λ (s : ℕ). left_inside content s (gate + 5 + length payload) next (next_frame_in next payload)) (sym start_is)
    ∙ ap (λ (e : ℕ). left_inside content start e next (next_frame_in next payload)) (sym end_is)
    ∙ ap (λ (n : Next). left_inside content start end n (next_frame_in next payload)) (sym next_is)
    ∙ ap (left_inside content start end coming.next) (sym entries)

-- a frame whose count can't be read
pub bad_frame : (content : List ℕ) (gate : ℕ) (next : Next) (payload : List ℕ) (offset : ℕ) → found_at gate (drop gate content) ≡ frame payload → next_frame_in next payload ≡ Err offset → left_from content gate next ≡ Err (gate + 5 + offset)
bad_frame content gate next payload offset found bad =
    left_frame content gate next payload found ∙ ap (left_inside content (gate + 5) (gate + 5 + length payload) next) bad

-- ---- the place in the log

module _ (steps : List Step) (log : OpenedLog) (done : List Entry) where
  pub frame_begun : (reader behind : LogReader) (next : Next) (start : ℕ) (payload : List ℕ) (coming : Coming) (at : IsBefore steps log done reader next)
      → HasRead (content_of log.file steps) log.header (at.payloads ++ payload ∷ []) behind.gate → behind.file ≡ reader.file → behind.header ≡ reader.header → start + length payload ≡ behind.gate
      → coming.next ≡ next → coming.entries ≡ next_frame_in next payload → IsAhead (content_of log.file steps) behind → IsInside steps log done behind start coming
  frame_begun reader behind next start payload coming at read file header ends next_is entries ahead = record {
    file = file ∙ at.file;
    header = header ∙ at.header;
    payloads = at.payloads;
    payload = payload;
    read = read;
    before = done;
    decoded = at.decoded;
    given = [];
    frame_is = ap (λ (n : Next). next_frame_in n payload) (sym at.goes_on) ∙ sym entries ∙ none_given coming.entries;
    done_is = sym (append-nil done);
    goes_on = next_is ∙ at.goes_on;
    ends = ends;
    ahead = ahead;
  }
    where
      none_given : (r : Result (List Entry) ℕ) → r ≡ (r >>= λ more. Ok ([] ++ more))
      none_given (Ok more) = refl
      none_given (Err offset) = refl

  pub entry_given : (reader : LogReader) (start : ℕ) (old new : Coming) (entry : Entry) → IsInside steps log done reader start old → IsFirst old entry new → IsInside steps log (done ++ entry ∷ []) reader start new
  entry_given reader start old new entry at first = record {
    file = at.file;
    header = at.header;
    payloads = at.payloads;
    payload = at.payload;
    read = at.read;
    before = at.before;
    decoded = at.decoded;
    given = at.given ++ entry ∷ [];
    frame_is = at.frame_is ∙ ap (λ (r : Result (List Entry) ℕ). r >>= λ more. Ok (at.given ++ more)) first.entries ∙ regroup new.entries;
    done_is = ap (λ (l : List Entry). l ++ entry ∷ []) at.done_is ∙ append_assoc at.before at.given (entry ∷ []);
    goes_on = first.behind ∙ sym (ap (λ (n : Next). behind_all n (entry ∷ [])) (sym at.goes_on) ∙ refl) ∙ sym (behind_both (first_of log.header) done (entry ∷ []));
    ends = at.ends;
    ahead = at.ahead;
  }
    where
      regroup : (r : Result (List Entry) ℕ) → ((r >>= λ more. Ok (entry ∷ more)) >>= λ more. Ok (at.given ++ more)) ≡ (r >>= λ more. Ok ((at.given ++ entry ∷ []) ++ more))
      regroup (Ok more) = ap (λ (l : List Entry). Ok l) (sym (append_assoc at.given (entry ∷ []) more))
      regroup (Err offset) = refl

  pub frame_ended : (reader : LogReader) (start : ℕ) (coming : Coming) (next : Next) → IsInside steps log done reader start coming → coming.entries ≡ Ok [] → next ≡ coming.next → IsBefore steps log done reader next
  frame_ended reader start coming next at none next_is = record {
    file = at.file;
    header = at.header;
    payloads = at.payloads ++ at.payload ∷ [];
    read = at.read;
    decoded =
        let whole : next_frame_in (behind_all (first_of log.header) at.before) at.payload ≡ Ok at.given =
        at.frame_is ∙ ap (λ (r : Result (List Entry) ℕ). r >>= λ more. Ok (at.given ++ more)) none ∙ ap (λ (l : List Entry). Ok l) (append-nil at.given) in
        frames_more (first_of log.header) at.payloads at.payload at.before at.given at.decoded whole ∙ ap (λ (l : List Entry). Ok l) (sym at.done_is);
    goes_on = next_is ∙ at.goes_on;
    ahead = at.ahead;
  }

-- ---- the reader's own file and header are the log's

module _ (steps : List Step) (log : OpenedLog) (reader : LogReader) (file : reader.file ≡ log.file) (header : reader.header ≡ log.header) where
  content_is : content_of reader.file steps ≡ content_of log.file steps
  content_is = ap (λ (f : ℕ). content_of f steps) file

  pub goes_over : (payloads : List (List ℕ)) (result : Result gates.Next FrameError) → IsAhead (content_of log.file steps) reader → HasRead (content_of log.file steps) log.header payloads reader.gate
      → (IsAhead (content_of reader.file steps) reader → (some : List (List ℕ)) → HasRead (content_of reader.file steps) reader.header some reader.gate → Goes (content_of reader.file steps) reader some result)
      → Goes (content_of log.file steps) reader payloads result
  goes_over payloads result ahead read goes =
      let Says : List ℕ → Header → Type 0 = λ content h. IsAhead content reader → HasRead content h payloads reader.gate → Goes content reader payloads result in
      subst (λ (content : List ℕ). Says content log.header) content_is (subst (Says (content_of reader.file steps)) header (λ here there. goes here payloads there)) ahead read

  pub ahead_over : (result : Result gates.Next FrameError) → IsAhead (content_of log.file steps) reader → (IsAhead (content_of reader.file steps) reader → StaysAhead (content_of reader.file steps) result) → StaysAhead (content_of log.file steps) result
  ahead_over result ahead stays = subst (λ (content : List ℕ). IsAhead content reader → StaysAhead content result) content_is stays ahead

  pub rests_over : (new : List Step) (payloads : List (List ℕ)) (result : Result gates.Next FrameError) → IsAhead (content_of log.file steps) reader → HasRead (content_of log.file steps) log.header payloads reader.gate → IsKept (changes_of log.file steps)
      → (IsAhead (content_of reader.file steps) reader → (some : List (List ℕ)) → HasRead (content_of reader.file steps) reader.header some reader.gate → IsKept (changes_of reader.file steps) → RestsAtEnd new reader.header some result)
      → RestsAtEnd new log.header payloads result
  rests_over new payloads result ahead read kept rests =
      let Says : List ℕ → Header → Type 0 = λ content h. IsAhead content reader → HasRead content h payloads reader.gate → RestsAtEnd new h payloads result in
      let there : IsKept (changes_of reader.file steps) = subst (λ (f : ℕ). IsKept (changes_of f steps)) (sym file) kept in
      subst (λ (content : List ℕ). Says content log.header) content_is (subst (Says (content_of reader.file steps)) header (λ here so_far. rests here payloads so_far there)) ahead read

-- ---- what was read, and what is left

-- what is left in front of which these were read is as it was
pub still_left : (front : List Entry) (old new : Result (List Entry × ℕ) ℕ) (whole : Result (List Entry × ℕ) ℕ) → old ≡ new → with_front front old ≡ whole → with_front front new ≡ whole
still_left front old new whole same left = ap (with_front front) (sym same) ∙ left

-- an entry more was read
pub one_left : (front : List Entry) (entry : Entry) (old new : Result (List Entry × ℕ) ℕ) (whole : Result (List Entry × ℕ) ℕ) → old ≡ with_front (entry ∷ []) new → with_front front old ≡ whole → with_front (front ++ entry ∷ []) new ≡ whole
one_left front entry old new whole first left = sym (front_front front (entry ∷ []) new) ∙ ap (with_front front) (sym first) ∙ left

-- none is left
pub all_left : (front : List Entry) (gate : ℕ) (left : Result (List Entry × ℕ) ℕ) (whole : Result (List Entry × ℕ) ℕ) → left ≡ Ok ([], gate) → with_front front left ≡ whole → whole ≡ Ok (front, gate)
all_left front gate left whole none is = sym is ∙ ap (with_front front) none ∙ ap (λ (l : List Entry). Ok (l, gate)) (append-nil front)

-- a byte is wrong
pub wrong_left : (front : List Entry) (offset : ℕ) (left : Result (List Entry × ℕ) ℕ) (whole : Result (List Entry × ℕ) ℕ) → left ≡ Err offset → with_front front left ≡ whole → whole ≡ Err offset
wrong_left front offset left whole bad is = sym is ∙ ap (with_front front) bad

-- a log is refused as an error says it
abbrev pub IsRefused : Result (List Entry × ℕ) ℕ → FrameError → Type 0
IsRefused whole (unread.Damaged offset) = whole ≡ Err offset
IsRefused whole unread.SiteFault = Unit {0}
IsRefused whole unread.Memory = Unit {0}

-- why a gate is refused
pub gate_refused : (content : List ℕ) (reader : LogReader) (next : Next) (payloads : List (List ℕ)) (front : List Entry) (whole : Result (List Entry × ℕ) ℕ) (error : FrameError) → with_front front (left_from content reader.gate next) ≡ whole → Goes content reader payloads (Err error)
    → IsRefused whole error
gate_refused content reader next payloads front whole (unread.Damaged offset) left goes = wrong_left front offset (left_from content reader.gate next) whole (left_wrong content reader.gate next offset goes) left
gate_refused content reader next payloads front whole unread.SiteFault left goes = tt
gate_refused content reader next payloads front whole unread.Memory left goes = tt

-- why a frame is refused before its entries
pub frame_refused : (content : List ℕ) (gate : ℕ) (next : Next) (payload : List ℕ) (front : List Entry) (whole : Result (List Entry × ℕ) ℕ) (error : ReadError) → found_at gate (drop gate content) ≡ frame payload → ReadFails error (next_frame_in next payload)
    → with_front front (left_from content gate next) ≡ whole → IsRefused whole (fault_behind (gate + 5) error)
frame_refused content gate next payload front whole (faults.Bad offset) found fails left = wrong_left front (gate + 5 + offset) (left_from content gate next) whole (bad_frame content gate next payload offset found fails) left
frame_refused content gate next payload front whole faults.Memory found fails left = tt

pub fault_before : (start : ℕ) (next : Next) (payload : List ℕ) (error : ReadError) → ReadFails error (next_frame_in next payload) → IsFaultBefore start (start + length payload) error
fault_before start next payload (faults.Bad offset) fails = let inside = fault_inside next payload offset fails in omega (arith, inside)
fault_before start next payload faults.Memory fails = tt

-- why it is refused at its next entry
pub entry_refused : (content : List ℕ) (start gate : ℕ) (coming : Coming) (front : List Entry) (whole : Result (List Entry × ℕ) ℕ) (error : ReadError) → ReadFails error coming.entries → with_front front (left_inside content start gate coming.next coming.entries) ≡ whole
    → IsRefused whole (fault_behind start error)
entry_refused content start gate coming front whole (faults.Bad offset) fails left = wrong_left front (start + offset) (left_inside content start gate coming.next coming.entries) whole (bad_inside content start gate coming.next coming.entries offset fails) left
entry_refused content start gate coming front whole faults.Memory fails left = tt

pub fault_in_frame : (start : ℕ) (next : Next) (payload : List ℕ) (given : List Entry) (coming : Result (List Entry) ℕ) (error : ReadError) → next_frame_in next payload ≡ (coming >>= λ more. Ok (given ++ more)) → ReadFails error coming → IsFaultBefore start (start + length payload) error
fault_in_frame start next payload given coming (faults.Bad offset) is fails =
    let inside = fault_inside next payload offset (is ∙ ap (λ (r : Result (List Entry) ℕ). r >>= λ more. Ok (given ++ more)) fails) in omega (arith, inside)
fault_in_frame start next payload given coming faults.Memory is fails = tt

pub turns_refused : (steps : List Step) (log : OpenedLog) (done : List Entry) (error : FrameError) → IsRefused (whole_of steps log) error → Turns steps log done (Err error)
turns_refused steps log done (unread.Damaged offset) refused = refused
turns_refused steps log done unread.SiteFault refused = tt
turns_refused steps log done unread.Memory refused = tt
