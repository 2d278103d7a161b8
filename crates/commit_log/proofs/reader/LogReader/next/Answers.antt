use Rattle.std.proofs.Common.{◌≡◌, ◌⊎◌, inl, inr, ℕ, ◌+◌, ◌<◌, ◌≤◌, ◌^◌, List, length, take, drop, Some, None, Ok, Err, sym, ap, subst, ◌∙◌, arith}
use Rattle.std.proofs.lemmas.List.{length-drop}
use Rattle.site_model.specs.History.{changes_of, content_of}
use Rattle.commit_log.specs.States.{IsSegment}
use Rattle.commit_log.specs.declared.reader.FrameError.{FrameError}
use Rattle.commit_log.specs.declared.reader.FrameError.TheVariants.{Damaged, SiteFault, Memory}
use Rattle.commit_log.specs.declared.reader.LogReader.{LogReader}
use Rattle.commit_log.specs.Frames.{closed, frame, wrong, found_at}
use Rattle.commit_log.specs.Fronts.{BeginsFrame, SaysGate}
use Rattle.commit_log.specs.Reading.{Goes, IsAhead}
use Rattle.commit_log.proofs.Gates.{closed_segment, segment_rests, no_frame}
use Rattle.commit_log.proofs.Reached.{gate_says, payload_there, ahead_behind, frame_found, goes_there, rests_there}
use Rattle.commit_log.proofs.reader.LogReader.next.Goals as goal
use Rattle.commit_log.proofs.reader.LogReader.next.Goals.{then-next-reader-via-then-next-reader, then-next-reader-via-else-next-reader+then-next-ge-END}

-- what is answered where no gate was read
no_gate : (content : List ℕ) (reader : LogReader) (payloads : List (List ℕ)) (error : FrameError) → SaysGate reader.gate (drop reader.gate content) (Err error) → Goes content reader payloads (Err error)
no_gate content reader payloads (Damaged offset) says = says.1
no_gate content reader payloads SiteFault says = tt
no_gate content reader payloads Memory says = tt

pub returns-in-Ok-None-clause-found : goal.returns-in-Ok-None-clause-found
returns-in-Ok-None-clause-found g c tells ahead payloads has_read =
    let content : List ℕ = content_of c.args.self.file (g.V.Site.history c.args.site.now) in
    let there : IsAhead content c.in_ok-reader.reader = c.in_ok-reader.ensures.ahead tells ahead in
    let place = c.in_ok-reader.ensures.place in
    let is : found_at c.in_ok-reader.reader.gate (drop c.in_ok-reader.reader.gate content) ≡ closed =
    gate_says content c.in_ok-reader.reader there c.args.self _ (Ok None) c.in_ok-reader.ensures.reached place.2 place.3 c.as_bytes.ensures (rw c.in-Ok-None.field-0-is at c.in-Ok-None.ensures.says) in
    let found : found_at c.args.self.gate (drop c.args.self.gate content) ≡ closed = subst (λ (n : ℕ). found_at n (drop n content) ≡ closed) place.2 is in
    let segment = closed_segment content c.args.self.header payloads c.args.self.gate has_read c.args.self.below found in (
      found,
      place.2,
      subst (λ (n : ℕ). IsSegment content c.args.self.header payloads n) (sym place.2) segment,
    )

pub returns-in-Ok-None-clause-rests : goal.returns-in-Ok-None-clause-rests
returns-in-Ok-None-clause-rests g c tells ahead payloads has_read kept =
    let content : List ℕ = content_of c.args.self.file (g.V.Site.history c.args.site.now) in
    let there : IsAhead content c.in_ok-reader.reader = c.in_ok-reader.ensures.ahead tells ahead in
    let place = c.in_ok-reader.ensures.place in
    let is : found_at c.in_ok-reader.reader.gate (drop c.in_ok-reader.reader.gate content) ≡ closed =
    gate_says content c.in_ok-reader.reader there c.args.self _ (Ok None) c.in_ok-reader.ensures.reached place.2 place.3 c.as_bytes.ensures (rw c.in-Ok-None.field-0-is at c.in-Ok-None.ensures.says) in
    let found : found_at c.args.self.gate (drop c.args.self.gate content) ≡ closed = subst (λ (n : ℕ). found_at n (drop n content) ≡ closed) place.2 is in
    let segment = closed_segment content c.args.self.header payloads c.args.self.gate has_read c.args.self.below found in
    rests_there _ _ _ _ c.args.self.header payloads _ _ c.reaching.ensures.unchanged place.0 place.2
    (segment_rests (changes_of c.args.self.file (g.V.Site.history c.args.site.now)) c.args.self.header payloads c.args.self.gate segment kept)

pub returns-in-Err-clause-found : goal.returns-in-Err-clause-found
returns-in-Err-clause-found g c tells ahead payloads has_read =
    let content : List ℕ = content_of c.args.self.file (g.V.Site.history c.args.site.now) in
    let there : IsAhead content c.in_ok-reader.reader = c.in_ok-reader.ensures.ahead tells ahead in
    let place = c.in_ok-reader.ensures.place in
    let says = gate_says content c.in_ok-reader.reader there c.args.self _ (Err c.in-Err.error) c.in_ok-reader.ensures.reached place.2 place.3 c.as_bytes.ensures c.in-Err.ensures.says in
    goes_there content c.args.self c.in_ok-reader.reader payloads (Err c.in-Err.error) place.1 place.2 (no_gate content c.in_ok-reader.reader payloads c.in-Err.error says)

pub returns-then-next-reader-clause-found : goal.returns-then-next-reader-clause-found
returns-then-next-reader-clause-found g c tells ahead payloads has_read =
    let content : List ℕ = content_of c.args.self.file (g.V.Site.history c.args.site.now) in
    let gate : ℕ = c.in_ok-reader.reader.gate in
    let size : ℕ = c.in-Ok-Some.payload_len in
    let there : IsAhead content c.in_ok-reader.reader = c.in_ok-reader.ensures.ahead tells ahead in
    let place = c.in_ok-reader.ensures.place in
    let begins : BeginsFrame (drop gate content) size =
    gate_says content c.in_ok-reader.reader there c.args.self _ (Ok (Some size)) c.in_ok-reader.ensures.reached place.2 place.3 c.as_bytes.ensures (rw c.in-Ok-Some.field-0-is at c.in-Ok-Some.ensures.says) in
    let why : (length (drop gate content) ≤ 5 + size) ⊎ (2 ^ 31 ≤ gate + 6 + size) = elim c.then-next-reader.branch [
      | then-next-reader-via-then-next-reader w ↦ inl (omega (arith, w.if-next-reader.true, there.size, length-drop gate content))
      | then-next-reader-via-else-next-reader+then-next-ge-END w ↦ inr (omega (arith, w.if-next-ge-END.true))
    ] in
    subst (λ (n : ℕ). found_at n (drop n content) ≡ wrong (gate + 1)) place.2 (no_frame gate size (drop gate content) begins why)

pub returns-in-Ok-clause-found : goal.returns-in-Ok-clause-found
returns-in-Ok-clause-found g c tells ahead payloads has_read =
    let content : List ℕ = content_of c.args.self.file (g.V.Site.history c.args.site.now) in
    let gate : ℕ = c.in_ok-reader.reader.gate in
    let size : ℕ = c.in-Ok-Some.payload_len in
    let place = c.in_ok-reader.ensures.place in
    let place_then = c.in_ok-reader-2.ensures.place in
    let there : IsAhead content c.in_ok-reader.reader = c.in_ok-reader.ensures.ahead (c.reaching-2.ensures.tells tells) ahead in
    let same : content_of c.in_ok-reader.reader.file (g.V.Site.history c.reaching.new.site) ≡ content =
    ap (λ (f : ℕ). content_of f (g.V.Site.history c.reaching.new.site)) place.0 ∙ ap (content_of c.args.self.file) c.reaching.ensures.unchanged in
    let there_then : IsAhead content c.in_ok-reader-2.reader =
    subst (λ (l : List ℕ). IsAhead l c.in_ok-reader-2.reader) same (c.in_ok-reader-2.ensures.ahead tells (subst (λ (l : List ℕ). IsAhead l c.in_ok-reader.reader) (sym same) there)) in
    let begins : BeginsFrame (drop gate content) size =
    gate_says content c.in_ok-reader.reader there c.args.self _ (Ok (Some size)) c.in_ok-reader.ensures.reached place.2 place.3 c.as_bytes.ensures (rw c.in-Ok-Some.field-0-is at c.in-Ok-Some.ensures.says) in
    let inside : 5 + size < length (drop gate content) = omega (arith, c.if-next-reader.false, there.size, length-drop gate content) in
    let within : 5 + size ≤ length c.in_ok-reader-2.reader.ahead = omega (arith, c.in_ok-reader-2.ensures.reached, c.if-next-reader.false) in
    let payload_is : c.in-Ok.payload ≡ take size (drop 5 (drop gate content)) =
    c.in-Ok.ensures.payload ∙ payload_there content c.in_ok-reader-2.reader there_then size within ∙ ap (λ (n : ℕ). take size (drop 5 (drop n content))) place_then.2 in
    let next : c.in-Ok.behind.gate ≡ gate + 5 + size = omega (arith, c.in-Ok.ensures.place.3, place_then.2) in
    let found = frame_found content c.args.self.header payloads c.in-Ok.payload gate size c.in-Ok.behind.gate (rw place.2 has_read) begins payload_is inside (omega (arith, c.if-next-ge-END.false)) next in
    (subst (λ (n : ℕ). found_at n (drop n content) ≡ frame c.in-Ok.payload) place.2 found.0, found.1)

pub returns-in-Ok-clause-ahead : goal.returns-in-Ok-clause-ahead
returns-in-Ok-clause-ahead g c tells ahead =
    let content : List ℕ = content_of c.args.self.file (g.V.Site.history c.args.site.now) in
    let size : ℕ = c.in-Ok-Some.payload_len in
    let place = c.in_ok-reader.ensures.place in
    let there : IsAhead content c.in_ok-reader.reader = c.in_ok-reader.ensures.ahead (c.reaching-2.ensures.tells tells) ahead in
    let same : content_of c.in_ok-reader.reader.file (g.V.Site.history c.reaching.new.site) ≡ content =
    ap (λ (f : ℕ). content_of f (g.V.Site.history c.reaching.new.site)) place.0 ∙ ap (content_of c.args.self.file) c.reaching.ensures.unchanged in
    let there_then : IsAhead content c.in_ok-reader-2.reader =
    subst (λ (l : List ℕ). IsAhead l c.in_ok-reader-2.reader) same (c.in_ok-reader-2.ensures.ahead tells (subst (λ (l : List ℕ). IsAhead l c.in_ok-reader.reader) (sym same) there)) in
    let within : 5 + size ≤ length c.in_ok-reader-2.reader.ahead = omega (arith, c.in_ok-reader-2.ensures.reached, c.if-next-reader.false) in
    ahead_behind content c.in_ok-reader-2.reader there_then c.in-Ok.behind (5 + size) within c.in-Ok.ensures.ahead (omega (arith, c.in-Ok.ensures.place.3)) c.in-Ok.ensures.place.2
