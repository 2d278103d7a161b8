use Rattle.std.proofs.Common.{◌≤◌, ◌+◌, max, length, refl, sym, ◌∙◌, ap, subst}
use Rattle.std.specs.Prelude.{MatchResult}
use Rattle.std.proofs.lemmas.List.{get_or_read}
use Rattle.site_model.specs.History.{changes_of}
use Rattle.hub_store.specs.declared.way.Way.{Way}
use Rattle.hub_store.specs.declared.way.Way.TheVariants as ways
use Rattle.hub_store.specs.declared.way.Way.TheVariants.{Away}
use Rattle.hub_store.specs.OpenedAgain.{Drops}
use Rattle.hub_store.specs.Plain.{trail_of, told_of}
use Rattle.hub_store.specs.Trail.{of_part}
use Rattle.hub_store.specs.Short.{reach_of, KeepsShort}
use Rattle.hub_store.specs.Ways.{LogFits, way_of, stage_of, is_untried, going_in, due_in}
use Rattle.hub_store.proofs.Bodies.{way_put, rests_there, within, untried_there, less_due, still_room}
use Rattle.hub_store.proofs.FramesGone.{untried_shut, rests_dropped, breaks_still}
use Rattle.hub_store.proofs.OpenedAgain.{reopen_path}
use Rattle.hub_store.proofs.Shortness.{still_short}
use Rattle.hub_store.proofs.Standing.{told_on}
use Rattle.hub_store.proofs.Stores.{put_for, others_stay, sound_on, sound_any, due_of_one}
use Rattle.hub_store.proofs.store.Store.drop_frame.Goals as goal

pub returns-in-Err-clause-sound : goal.returns-in-Err-clause-sound
returns-in-Err-clause-sound g c =
    let o = g.N.Start.origin in
    let p = c.args.part in
    let old = c.args.self.now in
    let trail = trail_of old.trail.items in
    let told = told_of old.told.items in
    let before = g.V.Site.history old.site in
    let now = g.V.Site.history c.drop_log-answer.new.site in
    let frame = c.drop_log-answer.result.1 in
    let was = c.take_way-way.result in
    let way = ways.BrokenBody c.in-Err.log frame in
    let dues = c.drop_log-answer.ensures.due in
    sound_on old _ p way c.requires.sound c.requires.place (untried_there c.in-Err.log frame) (put_for _ _ _ p way c.take_way-way.ensures.rest c.put_way-in-Err.ensures) (sym dues ∙ ap due_in c.take_way-way.ensures.way) refl refl c.requires.whole refl
    (λ tells.
    let stood = c.requires.sound.told (c.drop_log-answer.ensures.tells tells) in
    let fits = subst (λ (w : Way). LogFits (o.logs p) (of_part p trail) (changes_of (o.logs p).file before) w) (sym c.take_way-way.ensures.way) (stood.logs p c.requires.place) in
    let again = c.drop_log-answer.ensures.drops tells (o.logs p).file (o.logs p).header fits.payloads fits.fits in
    let failed = subst (Drops (o.logs p).file (o.logs p).header fits.payloads before now) c.in-Err.is again in
    let path = reopen_path (g.N.Start.may_follow old.latest) g.N.Start.may_say o p trail told before now c.drop_log-answer.result.0 again.syncs again.during ((stood.rests c.requires.whole).images p c.requires.place) in
    let breaks = breaks_still (g.N.Start.may_follow old.latest) g.N.Start.may_say o p trail now before was frame c.in-Err.log fits c.drop_log-answer.ensures.going failed.broken_is failed.after in
    told_on (g.N.Start.may_follow old.latest) g.N.Start.may_say o p before now old.ways.items way trail told old.cut _ c.requires.sound.apart c.requires.sound.count c.requires.place c.requires.whole stood path breaks)
    refl c.drop_log-answer.ensures.tells
    (λ tells. still_short old.segment (of_part p trail) (of_part p trail) was way _ c.drop_log-answer.ensures.going
    (subst (λ r. MatchResult r (λ log. log.gate + 1 ≤ reach_of was) (λ log. max log.gate log.next + 1 ≤ reach_of was)) c.in-Err.is c.drop_log-answer.ensures.reach)
    (subst (KeepsShort old.segment (of_part p trail)) (sym c.take_way-way.ensures.way) (c.requires.sound.short (c.drop_log-answer.ensures.tells tells) p c.requires.place)))

pub returns-in-Ok-clause-sound : goal.returns-in-Ok-clause-sound
returns-in-Ok-clause-sound g c =
    let o = g.N.Start.origin in
    let p = c.args.part in
    let old = c.args.self.now in
    let trail = trail_of old.trail.items in
    let told = told_of old.told.items in
    let before = g.V.Site.history old.site in
    let now = g.V.Site.history c.drop_log-answer.new.site in
    let was = c.take_way-way.result in
    let way = ways.Resting c.in-Ok.log in
    let dues = c.drop_log-answer.ensures.due in
    let was_due = ap due_in c.take_way-way.ensures.way in
    let enough = due_of_one old p c.requires.sound c.requires.place in
    let size = ap length c.entries.ensures in
    sound_any old _ p way trail c.requires.sound c.requires.place (rests_there c.in-Ok.log) (put_for _ _ _ p way c.take_way-way.ensures.rest c.put_way.ensures) (less_due _ _ _ _ (sym dues ∙ was_due) enough size)
    (still_room _ _ _ _ c.requires.sound.room) refl c.requires.whole refl
    (λ tells.
    let stood = c.requires.sound.told (c.drop_log-answer.ensures.tells tells) in
    let fits = subst (λ (w : Way). LogFits (o.logs p) (of_part p trail) (changes_of (o.logs p).file before) w) (sym c.take_way-way.ensures.way) (stood.logs p c.requires.place) in
    let again = c.drop_log-answer.ensures.drops tells (o.logs p).file (o.logs p).header fits.payloads fits.fits in
    let dropped = subst (Drops (o.logs p).file (o.logs p).header fits.payloads before now) c.in-Ok.is again in
    let path = reopen_path (g.N.Start.may_follow old.latest) g.N.Start.may_say o p trail told before now c.drop_log-answer.result.0 again.syncs again.during ((stood.rests c.requires.whole).images p c.requires.place) in
    let rests = rests_dropped (g.N.Start.may_follow old.latest) g.N.Start.may_say o p trail now before was c.in-Ok.log fits dropped.file_is dropped.after in
    told_on (g.N.Start.may_follow old.latest) g.N.Start.may_say o p before now old.ways.items way trail told old.cut _ c.requires.sound.apart c.requires.sound.count c.requires.place c.requires.whole stood path rests)
    refl c.drop_log-answer.ensures.tells (λ q apart. refl)
    (λ tells. still_short old.segment (of_part p trail) (of_part p trail) was way _ c.drop_log-answer.ensures.going
    (subst (λ r. MatchResult r (λ log. log.gate + 1 ≤ reach_of was) (λ log. max log.gate log.next + 1 ≤ reach_of was)) c.in-Ok.is c.drop_log-answer.ensures.reach)
    (subst (KeepsShort old.segment (of_part p trail)) (sym c.take_way-way.ensures.way) (c.requires.sound.short (c.drop_log-answer.ensures.tells tells) p c.requires.place)))

pub returns-in-Ok-clause-ok : goal.returns-in-Ok-clause-ok
returns-in-Ok-clause-ok g c =
    let p = c.args.part in
    let way = ways.Resting c.in-Ok.log in
    ap stage_of (way_put _ _ p way (put_for _ _ _ p way c.take_way-way.ensures.rest c.put_way.ensures) (within _ _ _ c.requires.sound.count c.requires.place))

pub returns-in-Ok-clause-keeps : goal.returns-in-Ok-clause-keeps
returns-in-Ok-clause-keeps g c =
    let p = c.args.part in
    let way = ways.Resting c.in-Ok.log in
    record {
      tells = c.drop_log-answer.ensures.tells;
      others = others_stay _ _ p way (put_for _ _ _ p way c.take_way-way.ensures.rest c.put_way.ensures);
      said = refl;
      segment = refl;
      latest = refl;
      whole = refl;
      later = c.drop_log-answer.ensures.cause.later;
      say_faults = c.drop_log-answer.ensures.say_faults;
    }

pub returns-in-Err-clause-keeps : goal.returns-in-Err-clause-keeps
returns-in-Err-clause-keeps g c =
    let p = c.args.part in
    let way = ways.BrokenBody c.in-Err.log c.drop_log-answer.result.1 in
    record {
      tells = c.drop_log-answer.ensures.tells;
      others = others_stay _ _ p way (put_for _ _ _ p way c.take_way-way.ensures.rest c.put_way-in-Err.ensures);
      said = refl;
      segment = refl;
      latest = refl;
      whole = refl;
      later = c.drop_log-answer.ensures.cause.later;
      say_faults = c.drop_log-answer.ensures.say_faults;
    }

pub returns-in-Err-clause-frame : goal.returns-in-Err-clause-frame
returns-in-Err-clause-frame g c =
    let p = c.args.part in
    let way = ways.BrokenBody c.in-Err.log c.drop_log-answer.result.1 in
    ap going_in (way_put _ _ p way (put_for _ _ _ p way c.take_way-way.ensures.rest c.put_way-in-Err.ensures) (within _ _ _ c.requires.sound.count c.requires.place))
    ∙ sym c.drop_log-answer.ensures.going ∙ ap going_in c.take_way-way.ensures.way

pub returns-in-Err-clause-broken : goal.returns-in-Err-clause-broken
returns-in-Err-clause-broken g c is =
    let p = c.args.part in
    let way = ways.BrokenBody c.in-Err.log c.drop_log-answer.result.1 in
    ap stage_of (way_put _ _ p way (put_for _ _ _ p way c.take_way-way.ensures.rest c.put_way-in-Err.ensures) (within _ _ _ c.requires.sound.count c.requires.place))

pub returns-in-Ok-clause-closed : goal.returns-in-Ok-clause-closed
returns-in-Ok-clause-closed g c tells =
    let o = g.N.Start.origin in
    let p = c.args.part in
    let old = c.args.self.now in
    let before = g.V.Site.history old.site in
    let here = get_or_read old.ways.items p c.index.result.now (within _ _ _ c.requires.sound.count c.requires.place) c.index.ensures Away in
    let untried = ap (λ (w : Way). is_untried (stage_of w)) (sym here) ∙ sym (ap is_untried c.reached.ensures) ∙ sym c.is_untried.ensures ∙ c.if-not-is_untried.false in
    let fits = (c.requires.sound.told (c.drop_log-answer.ensures.tells tells)).logs p c.requires.place in
    untried_shut (o.logs p).file (o.logs p).header fits.payloads before (way_of old.ways.items p) untried fits.fits
