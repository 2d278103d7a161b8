use Rattle.std.proofs.Common.{◌∙◌, List, [], ◌∷◌, ◌++◌, ℕ, ◌+◌, length, Ok, refl, sym, ap, subst, arith}
use Rattle.site_model.specs.History.{Step, content_of}
use Rattle.commit_log.specs.Outcomes.{RestsAs}
use Rattle.commit_log.specs.Frames.{HasRead}
use Rattle.part_items.specs.Numbered.{next_of}
use Rattle.part_items.specs.Kept.{left_from}
use Rattle.part_items.proofs.FrameByFrame.{left_closed}
use Rattle.log_files.specs.Entries.{whole_of}
use Rattle.log_files.proofs.EntriesRead.{goes_over, ahead_over, rests_over, frame_begun, left_inside, frame_left, all_left, still_left, gate_refused, frame_refused, fault_before, IsRefused, turns_refused}
use Rattle.log_files.proofs.reader.begin_frame.Goals as goal

pub returns-in-Ok-End-clause-turns : goal.returns-in-Ok-End-clause-turns
returns-in-Ok-End-clause-turns g c tells log done kept has =
    let steps = g.V.Site.history c.args.site.now in
    let content = content_of log.file steps in
    let reader = c.args.reader in
    let next = next_of c.args.next in
    let end = c.in-Ok-End.log in
    let at = has.at in
    let goes = rw c.in-Ok-End.field-0-is at (goes_over steps log reader at.file at.header at.payloads (Ok c.in-Ok-End.field-0) at.ahead at.read (c.in-Ok-End.ensures.found tells)) in
    let rests = rw c.in-Ok-End.field-0-is at (rests_over steps log reader at.file at.header (g.V.Site.history c.next.new.site) at.payloads (Ok c.in-Ok-End.field-0) at.ahead at.read kept (c.in-Ok-End.ensures.rests tells)) in
    let place = rw c.in-Ok-End.field-0-is at c.in-Ok-End.ensures.place in
    record {
      file = place.0 ∙ at.file;
      whole = all_left done end.gate (left_from content reader.gate next) (whole_of steps log) (left_closed content reader.gate next goes.0 ∙ ap (λ (n : ℕ). Ok ([], n)) (sym goes.1)) has.left;
      payloads = at.payloads;
      decoded = at.decoded;
      rests = subst (λ (s : List Step). RestsAs s log.header at.payloads end) c.next.ensures.unchanged rests;
    }

pub returns-in-Err-clause-turns : goal.returns-in-Err-clause-turns
returns-in-Err-clause-turns g c tells log done kept has =
    let steps = g.V.Site.history c.args.site.now in
    let reader = c.args.reader in
    let at = has.at in
    let goes = rw c.in-Err.is at (goes_over steps log reader at.file at.header at.payloads c.next.result at.ahead at.read (c.next.ensures.found tells)) in
    turns_refused steps log done c.in-Err.error (gate_refused (content_of log.file steps) reader (next_of c.args.next) at.payloads done (whole_of steps log) c.in-Err.error has.left goes)

pub returns-in-Ok-clause-turns : goal.returns-in-Ok-clause-turns
returns-in-Ok-clause-turns g c tells log done kept has =
    let steps = g.V.Site.history c.args.site.now in
    let content = content_of log.file steps in
    let reader = c.args.reader in
    let next = next_of c.args.next in
    let payload = c.in-Ok-Frame.payload in
    let behind = c.in-Ok-Frame.behind in
    let at = has.at in
    let goes = rw c.in-Ok-Frame.field-0-is at (goes_over steps log reader at.file at.header at.payloads (Ok c.in-Ok-Frame.field-0) at.ahead at.read (c.in-Ok-Frame.ensures.found tells)) in
    let stays = rw c.in-Ok-Frame.field-0-is at (ahead_over steps log reader at.file at.header (Ok c.in-Ok-Frame.field-0) at.ahead (c.in-Ok-Frame.ensures.ahead tells)) in
    let place = rw c.in-Ok-Frame.field-0-is at c.in-Ok-Frame.ensures.place in
    let further = place.3 in
    let frame = c.in-Ok.frame in
    record {
      at = frame_begun steps log done reader behind next (reader.gate + 5) payload frame at (subst (λ (h : _). HasRead content h (at.payloads ++ payload ∷ []) behind.gate) at.header goes.1) place.0 place.1 (sym further) c.in-Ok.ensures.0 c.in-Ok.ensures.2 stays;
      left = still_left done (left_from content reader.gate next) (left_inside content (reader.gate + 5) behind.gate frame.next frame.entries) (whole_of steps log)
          (frame_left content reader.gate (reader.gate + 5) behind.gate next payload frame goes.0 refl further c.in-Ok.ensures.0 c.in-Ok.ensures.2) has.left;
    }

pub returns-in-Err-begin-clause-turns : goal.returns-in-Err-begin-clause-turns
returns-in-Err-begin-clause-turns g c tells log done kept has =
    let steps = g.V.Site.history c.args.site.now in
    let reader = c.args.reader in
    let next = next_of c.args.next in
    let payload = c.in-Ok-Frame.payload in
    let behind = c.in-Ok-Frame.behind in
    let at = has.at in
    let goes = rw c.in-Ok-Frame.field-0-is at (goes_over steps log reader at.file at.header at.payloads (Ok c.in-Ok-Frame.field-0) at.ahead at.read (c.in-Ok-Frame.ensures.found tells)) in
    let place = rw c.in-Ok-Frame.field-0-is at c.in-Ok-Frame.ensures.place in
    let further = place.3 in
    let error = c.in-Err-begin.error in
    let below = behind.below in
    let told = c.unread.ensures.told (reader.gate + 5 + length payload) (fault_before (reader.gate + 5) next payload error c.in-Err-begin.ensures) (omega (arith, below, further)) in
    turns_refused steps log done c.unread.result (subst (IsRefused (whole_of steps log)) (sym told) (frame_refused (content_of log.file steps) reader.gate next payload done (whole_of steps log) error goes.0 c.in-Err-begin.ensures has.left))

pub returns-in-Err-begin-clause-fault : goal.returns-in-Err-begin-clause-fault
returns-in-Err-begin-clause-fault g c is = absurd (c.unread.ensures.no_fault (cc is))
