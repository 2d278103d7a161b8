use Rattle.site_model.specs.Calls.{HasRisen}
use Rattle.std.proofs.Common.{◌≡◌, ◌≤◌, ◌+◌, max, ◌++◌, List, length, refl, sym, ◌∙◌, ap, subst, OnErr, OnOk}
use Rattle.std.specs.Prelude.{MatchResult}
use Rattle.std.proofs.lemmas.List.{append-nil, get_or_read}
use Rattle.dura_value.specs.Items.{Entry}
use Rattle.site_model.specs.History.{changes_of}
use Rattle.hub_store.specs.declared.way.Way.{Way}
use Rattle.hub_store.specs.declared.way.Way.TheVariants as ways
use Rattle.hub_store.specs.declared.way.Way.TheVariants.{Away}
use Rattle.log_items.specs.Plain.{entries_of}
use Rattle.part_items.specs.Spelling.{spell_frame}
use Rattle.hub_store.specs.OpenedAgain.{Reopens}
use Rattle.hub_store.specs.Plain.{trail_of, told_of}
use Rattle.hub_store.specs.Trail.{of_part, settling}
use Rattle.hub_store.specs.Short.{reach_of, KeepsShort}
use Rattle.hub_store.specs.Ways.{LogFits, WayGoesOn, stage_of, is_tried, gate_of, going_in, due_in}
use Rattle.hub_store.proofs.Bodies.{way_put, rests_there, fault_no_frame, dropped_settled, within, tried_there, less_due, less_room, still_room}
use Rattle.hub_store.proofs.OpenedAgain.{not_false, settled_just, dropped_just, reopen_path, rests_with, rests_without, breaks_again}
use Rattle.hub_store.proofs.Settling.{of_part-append, no_part, told_settled}
use Rattle.hub_store.proofs.Shortness.{still_short}
use Rattle.hub_store.proofs.Standing.{told_on}
use Rattle.hub_store.proofs.Stores.{put_for, others_stay, keeps_still, sound_on, sound_any, due_of_one}
use Rattle.hub_store.proofs.store.Store.reopen.Goals as goal
use Rattle.std.proofs.lemmas.Bool.{not-true}
use Rattle.commit_log.proofs.Causes.{ok_apart}

pub returns-in-Err-clause-sound : goal.returns-in-Err-clause-sound
returns-in-Err-clause-sound g c =
    let o = g.N.Start.origin in
    let p = c.args.part in
    let old = c.args.self.now in
    let trail = trail_of old.trail.items in
    let told = told_of old.told.items in
    let before = g.V.Site.history old.site in
    let now = g.V.Site.history c.reopen_log-answer.new.site in
    let frame = c.reopen_log-answer.result.1 in
    let was = c.take_way-way.result in
    let way = ways.BrokenGate c.in-Err.log frame in
    let dues = c.reopen_log-answer.ensures.due in
    sound_on old _ p way c.requires.sound c.requires.place (tried_there c.in-Err.log frame) (put_for _ _ _ p way c.take_way-way.ensures.rest c.put_way.ensures) (sym dues ∙ ap due_in c.take_way-way.ensures.way) refl refl c.requires.whole refl
    (λ tells.
    let stood = c.requires.sound.told (c.reopen_log-answer.ensures.tells tells) in
    let fits = subst (λ (w : Way). LogFits (o.logs p) (of_part p trail) (changes_of (o.logs p).file before) w) (sym c.take_way-way.ensures.way) (stood.logs p c.requires.place) in
    let again = c.reopen_log-answer.ensures.reopens tells (o.logs p).file (o.logs p).header fits.payloads fits.fits in
    let failed = subst (Reopens (o.logs p).file (o.logs p).header fits.payloads (spell_frame (entries_of frame)) (gate_of was) before now) c.in-Err.is again in
    let path = reopen_path (g.N.Start.may_follow old.latest) g.N.Start.may_say o p trail told before now c.reopen_log-answer.result.0 again.syncs again.during ((stood.rests c.requires.whole).images p c.requires.place) in
    let breaks = breaks_again (g.N.Start.may_follow old.latest) g.N.Start.may_say o p trail now before was frame c.in-Err.log fits c.reopen_log-answer.ensures.going failed.broken_is failed.after in
    told_on (g.N.Start.may_follow old.latest) g.N.Start.may_say o p before now old.ways.items way trail told old.cut _ c.requires.sound.apart c.requires.sound.count c.requires.place c.requires.whole stood path breaks)
    refl c.reopen_log-answer.ensures.tells
    (λ tells. still_short old.segment (of_part p trail) (of_part p trail) was way _ c.reopen_log-answer.ensures.going
    (subst (λ r. MatchResult r (λ found. found.log.gate + 1 ≤ reach_of was) (λ log. max log.gate log.next + 1 ≤ reach_of was)) c.in-Err.is c.reopen_log-answer.ensures.reach)
    (subst (KeepsShort old.segment (of_part p trail)) (sym c.take_way-way.ensures.way) (c.requires.sound.short (c.reopen_log-answer.ensures.tells tells) p c.requires.place)))

pub returns-then-not-found-clause-sound : goal.returns-then-not-found-clause-sound
returns-then-not-found-clause-sound g c =
    let o = g.N.Start.origin in
    let p = c.args.part in
    let old = c.args.self.now in
    let trail = trail_of old.trail.items in
    let told = told_of old.told.items in
    let before = g.V.Site.history old.site in
    let now = g.V.Site.history c.reopen_log-answer.new.site in
    let frame = c.reopen_log-answer.result.1 in
    let was = c.take_way-way.result in
    let found = c.in-Ok.found in
    let way = ways.Resting found.log in
    let dues = c.reopen_log-answer.ensures.due in
    let was_due = ap due_in c.take_way-way.ensures.way in
    let enough = due_of_one old p c.requires.sound c.requires.place in
    let size = ap length c.entries.ensures in
    sound_any old _ p way trail c.requires.sound c.requires.place (rests_there found.log) (put_for _ _ _ p way c.take_way-way.ensures.rest c.put_way-2.ensures) (less_due _ _ _ _ (sym dues ∙ was_due) enough size)
    (still_room _ _ _ _ c.requires.sound.room) refl c.requires.whole refl
    (λ tells.
    let stood = c.requires.sound.told (c.reopen_log-answer.ensures.tells tells) in
    let fits = subst (λ (w : Way). LogFits (o.logs p) (of_part p trail) (changes_of (o.logs p).file before) w) (sym c.take_way-way.ensures.way) (stood.logs p c.requires.place) in
    let again = c.reopen_log-answer.ensures.reopens tells (o.logs p).file (o.logs p).header fits.payloads fits.fits in
    let opened = subst (Reopens (o.logs p).file (o.logs p).header fits.payloads (spell_frame (entries_of frame)) (gate_of was) before now) c.in-Ok.is again in
    let path = reopen_path (g.N.Start.may_follow old.latest) g.N.Start.may_say o p trail told before now c.reopen_log-answer.result.0 again.syncs again.during ((stood.rests c.requires.whole).images p c.requires.place) in
    let rests = rests_without (g.N.Start.may_follow old.latest) g.N.Start.may_say o p trail now before was (spell_frame (entries_of frame)) found fits (not-true found.settled c.if-not-found.true) opened.file_is opened.after in
    told_on (g.N.Start.may_follow old.latest) g.N.Start.may_say o p before now old.ways.items way trail told old.cut _ c.requires.sound.apart c.requires.sound.count c.requires.place c.requires.whole stood path rests)
    refl c.reopen_log-answer.ensures.tells (λ q apart. refl)
    (λ tells. still_short old.segment (of_part p trail) (of_part p trail) was way _ c.reopen_log-answer.ensures.going
    (subst (λ r. MatchResult r (λ found. found.log.gate + 1 ≤ reach_of was) (λ log. max log.gate log.next + 1 ≤ reach_of was)) c.in-Ok.is c.reopen_log-answer.ensures.reach)
    (subst (KeepsShort old.segment (of_part p trail)) (sym c.take_way-way.ensures.way) (c.requires.sound.short (c.reopen_log-answer.ensures.tells tells) p c.requires.place)))

pub returns-then-not-found-clause-opened : goal.returns-then-not-found-clause-opened
returns-then-not-found-clause-opened g c tells =
    let o = g.N.Start.origin in
    let p = c.args.part in
    let old = c.args.self.now in
    let before = g.V.Site.history old.site in
    let now = g.V.Site.history c.reopen_log-answer.new.site in
    let frame = c.reopen_log-answer.result.1 in
    let was = c.take_way-way.result in
    let stood = c.requires.sound.told (c.reopen_log-answer.ensures.tells tells) in
    let fits = subst (λ (w : Way). LogFits (o.logs p) (of_part p (trail_of old.trail.items)) (changes_of (o.logs p).file before) w) (sym c.take_way-way.ensures.way) (stood.logs p c.requires.place) in
    let again = c.reopen_log-answer.ensures.reopens tells (o.logs p).file (o.logs p).header fits.payloads fits.fits in
    let opened = subst (Reopens (o.logs p).file (o.logs p).header fits.payloads (spell_frame (entries_of frame)) (gate_of was) before now) c.in-Ok.is again in
    dropped_just (o.logs p).file (gate_of was) _ before c.in-Ok.found.settled (ap gate_of c.take_way-way.ensures.way) opened.opened (not-true _ c.if-not-found.true)

pub returns-clause-sound : goal.returns-clause-sound
returns-clause-sound g c =
    let o = g.N.Start.origin in
    let p = c.args.part in
    let old = c.args.self.now in
    let trail = trail_of old.trail.items in
    let told = told_of old.told.items in
    let before = g.V.Site.history old.site in
    let now = g.V.Site.history c.reopen_log-answer.new.site in
    let frame = c.reopen_log-answer.result.1 in
    let was = c.take_way-way.result in
    let found = c.in-Ok.found in
    let way = ways.Resting found.log in
    let at = c.moment-at.result in
    let dues = c.reopen_log-answer.ensures.due in
    let was_due = ap due_in c.take_way-way.ensures.way in
    let enough = due_of_one old p c.requires.sound c.requires.place in
    let size = ap length c.entries.ensures in
    sound_any old _ p way (trail ++ settling p at (entries_of frame)) c.requires.sound c.requires.place (rests_there found.log) (put_for _ _ _ p way c.take_way-way.ensures.rest c.put_way-2.ensures)
    (less_due _ _ _ _ (sym dues ∙ was_due) enough size) (less_room _ _ _ _ _ _ _ _ (sym dues ∙ was_due) enough size c.requires.sound.room c.settle_entries.ensures.len c.settle_entries.ensures.capacity) c.settle_entries.ensures.trail c.requires.whole refl
    (λ tells.
    let stood = c.requires.sound.told (c.reopen_log-answer.ensures.tells tells) in
    let fits = subst (λ (w : Way). LogFits (o.logs p) (of_part p trail) (changes_of (o.logs p).file before) w) (sym c.take_way-way.ensures.way) (stood.logs p c.requires.place) in
    let again = c.reopen_log-answer.ensures.reopens tells (o.logs p).file (o.logs p).header fits.payloads fits.fits in
    let opened = subst (Reopens (o.logs p).file (o.logs p).header fits.payloads (spell_frame (entries_of frame)) (gate_of was) before now) c.in-Ok.is again in
    let path = reopen_path (g.N.Start.may_follow old.latest) g.N.Start.may_say o p trail told before now c.reopen_log-answer.result.0 again.syncs again.during ((stood.rests c.requires.whole).images p c.requires.place) in
    let going = c.reopen_log-answer.ensures.going in
    let reads = subst (WayGoesOn (o.logs p).header fits.payloads ((o.logs p).entries ++ of_part p trail)) going fits.next in
    let settled = not_false found.settled c.if-not-found.false in
    let here = get_or_read old.ways.items p c.index.result.now (within _ _ _ c.requires.sound.count c.requires.place) c.index.ensures Away in
    let tried = ap (λ (w : Way). is_tried (stage_of w)) (sym here) ∙ sym (ap is_tried c.reached.ensures) ∙ sym c.is_tried.ensures ∙ c.if-not-is_tried.false in
    let follows = c.requires.follows (entries_of frame) (ap going_in (sym c.take_way-way.ensures.way) ∙ going) tried in
    let rests = rests_with (g.N.Start.may_follow old.latest) g.N.Start.may_say o now (o.logs p).file (o.logs p).header fits.payloads (spell_frame (entries_of frame)) found settled opened.file_is opened.after in
    told_settled (g.N.Start.may_follow old.latest) g.N.Start.may_say o (g.N.Start.still_settled old.latest) p found.log trail told (entries_of frame) fits.payloads before now old.ways.items old.cut _ at c.requires.sound.apart c.requires.sound.count c.requires.place c.requires.whole (c.moment-at.ensures tells) follows stood path reads opened.file_is rests)
    refl c.reopen_log-answer.ensures.tells
    (λ q apart. of_part-append q trail (settling p at (entries_of frame)) ∙ ap (λ (l : List Entry). of_part q trail ++ l) (no_part p q at (entries_of frame) (λ same. apart (sym same))) ∙ append-nil (of_part q trail))
    (λ tells. still_short old.segment (of_part p trail) (of_part p (trail ++ settling p at (entries_of frame))) was way _ c.reopen_log-answer.ensures.going
    (subst (λ r. MatchResult r (λ found. found.log.gate + 1 ≤ reach_of was) (λ log. max log.gate log.next + 1 ≤ reach_of was)) c.in-Ok.is c.reopen_log-answer.ensures.reach)
    (subst (KeepsShort old.segment (of_part p trail)) (sym c.take_way-way.ensures.way) (c.requires.sound.short (c.reopen_log-answer.ensures.tells tells) p c.requires.place)))

pub returns-clause-opened : goal.returns-clause-opened
returns-clause-opened g c tells =
    let o = g.N.Start.origin in
    let p = c.args.part in
    let old = c.args.self.now in
    let before = g.V.Site.history old.site in
    let now = g.V.Site.history c.reopen_log-answer.new.site in
    let frame = c.reopen_log-answer.result.1 in
    let was = c.take_way-way.result in
    let stood = c.requires.sound.told (c.reopen_log-answer.ensures.tells tells) in
    let fits = subst (λ (w : Way). LogFits (o.logs p) (of_part p (trail_of old.trail.items)) (changes_of (o.logs p).file before) w) (sym c.take_way-way.ensures.way) (stood.logs p c.requires.place) in
    let again = c.reopen_log-answer.ensures.reopens tells (o.logs p).file (o.logs p).header fits.payloads fits.fits in
    let opened = subst (Reopens (o.logs p).file (o.logs p).header fits.payloads (spell_frame (entries_of frame)) (gate_of was) before now) c.in-Ok.is again in
    settled_just (o.logs p).file (gate_of was) _ before c.in-Ok.found.settled (ap gate_of c.take_way-way.ensures.way) opened.opened (not_false _ c.if-not-found.false)

pub returns-in-Err-clause-frame : goal.returns-in-Err-clause-frame
returns-in-Err-clause-frame g c =
    let p = c.args.part in
    let way = ways.BrokenGate c.in-Err.log c.reopen_log-answer.result.1 in
    ap going_in (way_put _ _ p way (put_for _ _ _ p way c.take_way-way.ensures.rest c.put_way.ensures) (within _ _ _ c.requires.sound.count c.requires.place))
    ∙ sym c.reopen_log-answer.ensures.going ∙ ap going_in c.take_way-way.ensures.way

pub returns-in-Err-clause-settled : goal.returns-in-Err-clause-settled
returns-in-Err-clause-settled g c is = absurd (ok_apart _ _ (sym is))

pub returns-in-Err-clause-dropped : goal.returns-in-Err-clause-dropped
returns-in-Err-clause-dropped g c is = absurd (ok_apart _ _ (sym is))

pub returns-in-Err-clause-unchanged : goal.returns-in-Err-clause-unchanged
returns-in-Err-clause-unchanged g c is = absurd (fault_no_frame _ refl is)

pub returns-then-not-found-clause-ok : goal.returns-then-not-found-clause-ok
returns-then-not-found-clause-ok g c =
    let p = c.args.part in
    let way = ways.Resting c.in-Ok.found.log in
    ap stage_of (way_put _ _ p way (put_for _ _ _ p way c.take_way-way.ensures.rest c.put_way-2.ensures) (within _ _ _ c.requires.sound.count c.requires.place))

pub returns-then-not-found-clause-settled : goal.returns-then-not-found-clause-settled
returns-then-not-found-clause-settled g c is = absurd (dropped_settled _ refl is)

pub returns-then-not-found-clause-fault : goal.returns-then-not-found-clause-fault
returns-then-not-found-clause-fault g c is = absurd (ok_apart _ _ is)

pub returns-then-not-found-clause-halts : goal.returns-then-not-found-clause-halts
returns-then-not-found-clause-halts g c is = absurd (ok_apart _ _ is)

pub returns-then-not-found-clause-unchanged : goal.returns-then-not-found-clause-unchanged
returns-then-not-found-clause-unchanged g c is = absurd (ok_apart _ _ is)

pub returns-clause-ok : goal.returns-clause-ok
returns-clause-ok g c =
    let p = c.args.part in
    let way = ways.Resting c.in-Ok.found.log in
    ap stage_of (way_put _ _ p way (put_for _ _ _ p way c.take_way-way.ensures.rest c.put_way-2.ensures) (within _ _ _ c.requires.sound.count c.requires.place))

pub returns-clause-settled : goal.returns-clause-settled
returns-clause-settled g c is = record {
  entries = entries_of c.reopen_log-answer.result.1;
  at = c.moment-at.result;
  frame = ap going_in (sym c.take_way-way.ensures.way) ∙ c.reopen_log-answer.ensures.going;
  now = λ tells. c.moment-at.ensures tells;
  trail = c.settle_entries.ensures.trail;
}

pub returns-clause-dropped : goal.returns-clause-dropped
returns-clause-dropped g c is = absurd (dropped_settled _ is refl)

pub returns-clause-fault : goal.returns-clause-fault
returns-clause-fault g c is = absurd (ok_apart _ _ is)

pub returns-clause-halts : goal.returns-clause-halts
returns-clause-halts g c is = absurd (ok_apart _ _ is)

pub returns-clause-unchanged : goal.returns-clause-unchanged
returns-clause-unchanged g c is = absurd (ok_apart _ _ is)

pub returns-in-Err-clause-ok : goal.returns-in-Err-clause-ok
returns-in-Err-clause-ok g c = tt

pub returns-in-Err-clause-no_trail : goal.returns-in-Err-clause-no_trail
returns-in-Err-clause-no_trail g c = refl

pub returns-in-Err-clause-opened : goal.returns-in-Err-clause-opened
returns-in-Err-clause-opened g c = λ tells. tt

pub returns-in-Err-clause-still : goal.returns-in-Err-clause-still
returns-in-Err-clause-still g c = tt

pub returns-in-Err-clause-halts : goal.returns-in-Err-clause-halts
returns-in-Err-clause-halts g c = λ is. refl

pub returns-in-Err-clause-same : goal.returns-in-Err-clause-same
returns-in-Err-clause-same g c = tt

pub returns-in-Err-clause-fault : goal.returns-in-Err-clause-fault
returns-in-Err-clause-fault g c = λ is. subst (λ r. OnErr r (HasRisen (g.V.Site.disk_faults c.args.self.now.site) (g.V.Site.disk_faults c.reopen_log-answer.new.site))) c.in-Err.is c.reopen_log-answer.ensures.cause.risen

pub returns-then-not-found-clause-dropped : goal.returns-then-not-found-clause-dropped
returns-then-not-found-clause-dropped g c = λ is. refl

pub returns-then-not-found-clause-no_trail : goal.returns-then-not-found-clause-no_trail
returns-then-not-found-clause-no_trail g c = tt

pub returns-then-not-found-clause-frame : goal.returns-then-not-found-clause-frame
returns-then-not-found-clause-frame g c = tt

pub returns-then-not-found-clause-still : goal.returns-then-not-found-clause-still
returns-then-not-found-clause-still g c = refl

pub returns-clause-no_trail : goal.returns-clause-no_trail
returns-clause-no_trail g c = tt

pub returns-clause-frame : goal.returns-clause-frame
returns-clause-frame g c = tt

pub returns-clause-still : goal.returns-clause-still
returns-clause-still g c = refl

pub returns-then-not-is_tried-clause-sound : goal.returns-then-not-is_tried-clause-sound
returns-then-not-is_tried-clause-sound g c = c.requires.sound

pub returns-then-not-is_tried-clause-ok : goal.returns-then-not-is_tried-clause-ok
returns-then-not-is_tried-clause-ok g c = tt

pub returns-then-not-is_tried-clause-settled : goal.returns-then-not-is_tried-clause-settled
returns-then-not-is_tried-clause-settled g c = λ is. absurd (ok_apart _ _ (sym is))

pub returns-then-not-is_tried-clause-dropped : goal.returns-then-not-is_tried-clause-dropped
returns-then-not-is_tried-clause-dropped g c = λ is. absurd (ok_apart _ _ (sym is))

pub returns-then-not-is_tried-clause-no_trail : goal.returns-then-not-is_tried-clause-no_trail
returns-then-not-is_tried-clause-no_trail g c = refl

pub returns-then-not-is_tried-clause-opened : goal.returns-then-not-is_tried-clause-opened
returns-then-not-is_tried-clause-opened g c = λ tells. tt

pub returns-then-not-is_tried-clause-frame : goal.returns-then-not-is_tried-clause-frame
returns-then-not-is_tried-clause-frame g c = refl

pub returns-then-not-is_tried-clause-unchanged : goal.returns-then-not-is_tried-clause-unchanged
returns-then-not-is_tried-clause-unchanged g c = λ is. refl

pub returns-then-not-is_tried-clause-still : goal.returns-then-not-is_tried-clause-still
returns-then-not-is_tried-clause-still g c = tt

pub returns-then-not-is_tried-clause-halts : goal.returns-then-not-is_tried-clause-halts
returns-then-not-is_tried-clause-halts g c = λ is. absurd (fault_no_frame _ is refl)

pub returns-then-not-is_tried-clause-fault : goal.returns-then-not-is_tried-clause-fault
returns-then-not-is_tried-clause-fault g c = λ is. absurd (fault_no_frame _ is refl)

pub returns-then-not-is_tried-clause-same : goal.returns-then-not-is_tried-clause-same
returns-then-not-is_tried-clause-same g c = tt

pub returns-then-not-found-clause-same : goal.returns-then-not-found-clause-same
returns-then-not-found-clause-same g c = subst (λ r. OnOk r (g.V.Site.disk_faults c.reopen_log-answer.new.site ≡ g.V.Site.disk_faults c.args.self.now.site)) c.in-Ok.is c.reopen_log-answer.ensures.cause.same

pub returns-clause-same : goal.returns-clause-same
returns-clause-same g c = subst (λ r. OnOk r (g.V.Site.disk_faults c.reopen_log-answer.new.site ≡ g.V.Site.disk_faults c.args.self.now.site)) c.in-Ok.is c.reopen_log-answer.ensures.cause.same

pub returns-in-Err-clause-keeps : goal.returns-in-Err-clause-keeps
returns-in-Err-clause-keeps g c =
    let p = c.args.part in
    let way = ways.BrokenGate c.in-Err.log c.reopen_log-answer.result.1 in
    record {
      tells = c.reopen_log-answer.ensures.tells;
      others = others_stay _ _ p way (put_for _ _ _ p way c.take_way-way.ensures.rest c.put_way.ensures);
      said = refl;
      segment = refl;
      latest = refl;
      whole = refl;
      later = c.reopen_log-answer.ensures.cause.later;
      say_faults = c.reopen_log-answer.ensures.say_faults;
    }

pub returns-then-not-found-clause-keeps : goal.returns-then-not-found-clause-keeps
returns-then-not-found-clause-keeps g c =
    let p = c.args.part in
    let way = ways.Resting c.in-Ok.found.log in
    record {
      tells = c.reopen_log-answer.ensures.tells;
      others = others_stay _ _ p way (put_for _ _ _ p way c.take_way-way.ensures.rest c.put_way-2.ensures);
      said = refl;
      segment = refl;
      latest = refl;
      whole = refl;
      later = c.reopen_log-answer.ensures.cause.later;
      say_faults = c.reopen_log-answer.ensures.say_faults;
    }

pub returns-clause-keeps : goal.returns-clause-keeps
returns-clause-keeps g c =
    let p = c.args.part in
    let way = ways.Resting c.in-Ok.found.log in
    record {
      tells = c.reopen_log-answer.ensures.tells;
      others = others_stay _ _ p way (put_for _ _ _ p way c.take_way-way.ensures.rest c.put_way-2.ensures);
      said = refl;
      segment = refl;
      latest = refl;
      whole = refl;
      later = c.reopen_log-answer.ensures.cause.later;
      say_faults = c.reopen_log-answer.ensures.say_faults;
    }

pub returns-in-Err-clause-broken : goal.returns-in-Err-clause-broken
returns-in-Err-clause-broken g c is =
    let p = c.args.part in
    let way = ways.BrokenGate c.in-Err.log c.reopen_log-answer.result.1 in
    ap stage_of (way_put _ _ p way (put_for _ _ _ p way c.take_way-way.ensures.rest c.put_way.ensures) (within _ _ _ c.requires.sound.count c.requires.place))

pub returns-then-not-found-clause-broken : goal.returns-then-not-found-clause-broken
returns-then-not-found-clause-broken g c is = absurd (ok_apart _ _ is)

pub returns-clause-broken : goal.returns-clause-broken
returns-clause-broken g c is = absurd (ok_apart _ _ is)

pub returns-then-not-is_tried-clause-keeps : goal.returns-then-not-is_tried-clause-keeps
returns-then-not-is_tried-clause-keeps g c = keeps_still c.args.part c.args.self.now

pub returns-then-not-is_tried-clause-broken : goal.returns-then-not-is_tried-clause-broken
returns-then-not-is_tried-clause-broken g c is = absurd (fault_no_frame _ is refl)
