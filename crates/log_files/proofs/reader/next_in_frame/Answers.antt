use Rattle.std.proofs.Common.{◌≡◌, ◌∙◌, ◌+◌, length, sym, ap, subst, arith}
use Rattle.site_model.specs.History.{content_of}
use Rattle.log_items.specs.Plain.{entry_of}
use Rattle.part_items.specs.Coming.{Coming}
use Rattle.part_items.specs.Numbered.{behind_all, next_of}
use Rattle.part_items.specs.Kept.{left_from, first_of}
use Rattle.log_files.specs.Entries.{whole_of}
use Rattle.log_files.proofs.EntriesRead.{entry_given, entry_left, one_left, frame_ended, none_inside, left_inside, still_left, entry_refused, fault_in_frame, IsRefused, turns_refused}
use Rattle.log_files.proofs.reader.next_in_frame.Goals as goal

pub returns-in-Ok-Some-clause-turns : goal.returns-in-Ok-Some-clause-turns
returns-in-Ok-Some-clause-turns c steps log done has =
    let content = content_of log.file steps in
    let old = c.args.frame in
    let new = c.next.new.self in
    let reader = c.args.reader in
    let start = c.args.start in
    let entry = entry_of c.in-Ok-Some.entry in
    let first = rw c.in-Ok-Some.field-0-is at c.in-Ok-Some.ensures in
    record {
      at = entry_given steps log done reader start old new entry has.at first;
      left = one_left done entry (left_inside content start reader.gate old.next old.entries) (left_inside content start reader.gate new.next new.entries) (whole_of steps log) (entry_left content start reader.gate old new entry first) has.left;
    }

pub returns-in-Ok-None-clause-turns : goal.returns-in-Ok-None-clause-turns
returns-in-Ok-None-clause-turns c steps log done has =
    let content = content_of log.file steps in
    let old = c.args.frame in
    let reader = c.args.reader in
    let none = rw c.in-Ok-None.field-0-is at c.in-Ok-None.ensures in
    let next_is : next_of c.place.result ≡ old.next = c.place.ensures ∙ ap (λ (f : Coming). f.next) none.1 in
    record {
      at = frame_ended steps log done reader c.args.start old (next_of c.place.result) has.at none.0 next_is;
      left = still_left done (left_inside content c.args.start reader.gate old.next old.entries) (left_from content reader.gate (next_of c.place.result)) (whole_of steps log)
          (none_inside content c.args.start reader.gate old.next old.entries none.0 ∙ ap (left_from content reader.gate) (sym next_is)) has.left;
    }

pub returns-in-Err-clause-turns : goal.returns-in-Err-clause-turns
returns-in-Err-clause-turns c steps log done has =
    let content = content_of log.file steps in
    let old = c.args.frame in
    let reader = c.args.reader in
    let error = c.in-Err.error in
    let at = has.at in
    let fails = c.in-Err.ensures.0 in
    let below = reader.below in
    let ends = at.ends in
    let told = c.unread.ensures.told (c.args.start + length at.payload) (fault_in_frame c.args.start (behind_all (first_of log.header) at.before) at.payload at.given old.entries error at.frame_is fails) (omega (arith, below, ends)) in
    turns_refused steps log done c.unread.result (subst (IsRefused (whole_of steps log)) (sym told) (entry_refused content c.args.start reader.gate old done (whole_of steps log) error fails has.left))

pub returns-in-Err-clause-no_fault : goal.returns-in-Err-clause-no_fault
returns-in-Err-clause-no_fault c is = absurd (c.unread.ensures.no_fault (cc is))
