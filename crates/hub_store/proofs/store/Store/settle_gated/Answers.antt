use Rattle.std.proofs.Common.{◌++◌, List, length, refl, sym, ◌∙◌, ap, subst}
use Rattle.std.proofs.lemmas.List.{append-nil}
use Rattle.dura_value.specs.Items.{Entry}
use Rattle.site_model.specs.History.{changes_of}
use Rattle.hub_store.specs.declared.way.Way.{Way}
use Rattle.hub_store.specs.declared.way.Way.TheVariants as ways
use Rattle.log_items.specs.Plain.{entries_of}
use Rattle.hub_store.specs.Plain.{trail_of, told_of}
use Rattle.hub_store.specs.Trail.{of_part, settling}
use Rattle.hub_store.specs.Short.{KeepsShort}
use Rattle.hub_store.specs.Ways.{LogFits, stage_of, due_in, going_in}
use Rattle.hub_store.proofs.Bodies.{way_put, rests_there, true_apart, within, tried_there, less_due, less_room, reach_next, reach_same}
use Rattle.hub_store.proofs.Calls.{settle_path, settle_rests, settle_breaks}
use Rattle.hub_store.proofs.Settling.{of_part-append, no_part, told_settled}
use Rattle.hub_store.proofs.Shortness.{still_short}
use Rattle.hub_store.proofs.Standing.{told_on}
use Rattle.hub_store.proofs.Stores.{put_for, others_stay, sound_on, sound_any, due_of_one}
use Rattle.hub_store.proofs.store.Store.settle_gated.Goals as goal

pub returns-in-Ok-clause-sound : goal.returns-in-Ok-clause-sound
returns-in-Ok-clause-sound g c =
    let o = g.N.Start.origin in
    let p = c.args.part in
    let old = c.args.self.now in
    let trail = trail_of old.trail.items in
    let told = told_of old.told.items in
    let before = g.V.Site.history old.site in
    let now = g.V.Site.history c.settle.new.site in
    let log = c.in-Gated.log in
    let frame = c.in-Gated.frame in
    let at = c.moment-at.result in
    let dues = ap due_in c.in-Gated.ensures.way in
    let enough = due_of_one old p c.requires.sound c.requires.place in
    let size = ap length c.entries.ensures in
    sound_any old _ p (ways.Resting c.in-Ok.log) (trail ++ settling p at (entries_of frame)) c.requires.sound c.requires.place (rests_there c.in-Ok.log) (put_for _ _ _ p (ways.Resting c.in-Ok.log) c.take_way.ensures.rest c.put_way.ensures)
    (less_due _ _ _ _ dues enough size) (less_room _ _ _ _ _ _ _ _ dues enough size c.requires.sound.room c.settle_entries.ensures.len c.settle_entries.ensures.capacity) c.settle_entries.ensures.trail (c.requires.sound.uncut c.requires.going) refl
    (λ tells.
    let stood = c.requires.sound.told (c.settle.ensures.tells tells) in
    let fits = subst (λ (w : Way). LogFits (o.logs p) (of_part p trail) (changes_of (o.logs p).file before) w) (sym c.in-Gated.ensures.way) (stood.logs p c.requires.place) in
    let follows = c.requires.follows _ (ap going_in (sym c.in-Gated.ensures.way)) in
    let path = settle_path (g.N.Start.may_follow old.latest) g.N.Start.may_say o p log frame trail told before now c.settle.result c.settle.ensures.syncs c.settle.ensures.during follows fits in
    let rests = settle_rests (g.N.Start.may_follow old.latest) g.N.Start.may_say o p log frame trail before now c.in-Ok.log (c.in-Ok.ensures.place).0 c.in-Ok.ensures.after fits in
    told_settled (g.N.Start.may_follow old.latest) g.N.Start.may_say o (g.N.Start.still_settled old.latest) p c.in-Ok.log trail told (entries_of frame) fits.payloads before now old.ways.items old.cut _ at c.requires.sound.apart c.requires.sound.count c.requires.place (c.requires.sound.uncut c.requires.going) (c.moment-at.ensures tells) follows stood path fits.next rests.0 rests.1)
    refl c.settle.ensures.tells
    (λ q apart. of_part-append q trail (settling p at (entries_of frame)) ∙ ap (λ (l : List Entry). of_part q trail ++ l) (no_part p q at (entries_of frame) (λ same. apart (sym same))) ∙ append-nil (of_part q trail))
    (λ tells. still_short old.segment (of_part p trail) (of_part p (trail ++ settling p at (entries_of frame))) (ways.Gated log frame) (ways.Resting c.in-Ok.log) _ refl (reach_next log.gate log.next c.in-Ok.log.gate c.in-Ok.ensures.place.1)
    (subst (KeepsShort old.segment (of_part p trail)) (sym c.in-Gated.ensures.way) (c.requires.sound.short (c.settle.ensures.tells tells) p c.requires.place)))

pub returns-in-Ok-clause-trail : goal.returns-in-Ok-clause-trail
returns-in-Ok-clause-trail g c = record {
  entries = entries_of c.in-Gated.frame;
  at = c.moment-at.result;
  frame = ap going_in (sym c.in-Gated.ensures.way);
  now = λ tells. c.moment-at.ensures tells;
  trail = c.settle_entries.ensures.trail;
}

pub returns-in-Err-clause-sound : goal.returns-in-Err-clause-sound
returns-in-Err-clause-sound g c =
    let o = g.N.Start.origin in
    let p = c.args.part in
    let old = c.args.self.now in
    let trail = trail_of old.trail.items in
    let told = told_of old.told.items in
    let before = g.V.Site.history old.site in
    let now = g.V.Site.history c.settle.new.site in
    let log = c.in-Gated.log in
    let frame = c.in-Gated.frame in
    let way = ways.BrokenGate c.in-Err.log frame in
    sound_on old _ p way c.requires.sound c.requires.place (tried_there c.in-Err.log frame) (put_for _ _ _ p way c.take_way.ensures.rest c.put_way-in-Err.ensures) (ap due_in c.in-Gated.ensures.way) refl refl (c.requires.sound.uncut c.requires.going) refl
    (λ tells.
    let stood = c.requires.sound.told (c.settle.ensures.tells tells) in
    let fits = subst (λ (w : Way). LogFits (o.logs p) (of_part p trail) (changes_of (o.logs p).file before) w) (sym c.in-Gated.ensures.way) (stood.logs p c.requires.place) in
    let follows = c.requires.follows _ (ap going_in (sym c.in-Gated.ensures.way)) in
    let path = settle_path (g.N.Start.may_follow old.latest) g.N.Start.may_say o p log frame trail told before now c.settle.result c.settle.ensures.syncs c.settle.ensures.during follows fits in
    let breaks = settle_breaks (g.N.Start.may_follow old.latest) g.N.Start.may_say o p log frame trail before now c.in-Err.log (c.in-Err.ensures.broken).0 c.in-Err.ensures.after fits in
    told_on (g.N.Start.may_follow old.latest) g.N.Start.may_say o p before now old.ways.items way trail told old.cut _ c.requires.sound.apart c.requires.sound.count c.requires.place (c.requires.sound.uncut c.requires.going) stood path breaks)
    refl c.settle.ensures.tells
    (λ tells. still_short old.segment (of_part p trail) (of_part p trail) (ways.Gated log frame) way _ refl (reach_same log.gate log.next _ _ c.in-Err.ensures.broken.1 c.in-Err.ensures.broken.2)
    (subst (KeepsShort old.segment (of_part p trail)) (sym c.in-Gated.ensures.way) (c.requires.sound.short (c.settle.ensures.tells tells) p c.requires.place)))

pub returns-in-Ok-clause-ok : goal.returns-in-Ok-clause-ok
returns-in-Ok-clause-ok g c =
    let p = c.args.part in
    let way = ways.Resting c.in-Ok.log in
    ap stage_of (way_put _ _ p way (put_for _ _ _ p way c.take_way.ensures.rest c.put_way.ensures) (within _ _ _ c.requires.sound.count c.requires.place))

pub returns-in-Ok-clause-halted : goal.returns-in-Ok-clause-halted
returns-in-Ok-clause-halted g c = record {
  later = c.in-Ok.ensures.cause.later;
  same = λ is. c.in-Ok.ensures.cause.same;
  risen = λ is. absurd (true_apart (sym is ∙ c.requires.going));
}

pub returns-in-Err-clause-frame : goal.returns-in-Err-clause-frame
returns-in-Err-clause-frame g c =
    let p = c.args.part in
    let way = ways.BrokenGate c.in-Err.log c.in-Gated.frame in
    ap going_in (way_put _ _ p way (put_for _ _ _ p way c.take_way.ensures.rest c.put_way-in-Err.ensures) (within _ _ _ c.requires.sound.count c.requires.place)) ∙ ap going_in c.in-Gated.ensures.way

pub returns-in-Err-clause-halted : goal.returns-in-Err-clause-halted
returns-in-Err-clause-halted g c = record {
  later = c.in-Err.ensures.cause.later;
  same = λ is. absurd (true_apart is);
  risen = λ is. c.in-Err.ensures.cause.risen;
}

pub returns-in-Ok-clause-no_trail : goal.returns-in-Ok-clause-no_trail
returns-in-Ok-clause-no_trail g c = tt

pub returns-in-Ok-clause-frame : goal.returns-in-Ok-clause-frame
returns-in-Ok-clause-frame g c = tt

pub returns-in-Ok-clause-still : goal.returns-in-Ok-clause-still
returns-in-Ok-clause-still g c = c.requires.going

pub returns-in-Ok-clause-halts : goal.returns-in-Ok-clause-halts
returns-in-Ok-clause-halts g c = tt

pub returns-in-Err-clause-ok : goal.returns-in-Err-clause-ok
returns-in-Err-clause-ok g c = tt

pub returns-in-Err-clause-trail : goal.returns-in-Err-clause-trail
returns-in-Err-clause-trail g c = tt

pub returns-in-Err-clause-no_trail : goal.returns-in-Err-clause-no_trail
returns-in-Err-clause-no_trail g c = refl

pub returns-in-Err-clause-still : goal.returns-in-Err-clause-still
returns-in-Err-clause-still g c = tt

pub returns-in-Err-clause-halts : goal.returns-in-Err-clause-halts
returns-in-Err-clause-halts g c = refl

pub returns-in-Ok-clause-keeps : goal.returns-in-Ok-clause-keeps
returns-in-Ok-clause-keeps g c =
    let p = c.args.part in
    let way = ways.Resting c.in-Ok.log in
    record {
      tells = c.settle.ensures.tells;
      others = others_stay _ _ p way (put_for _ _ _ p way c.take_way.ensures.rest c.put_way.ensures);
      said = refl;
      segment = refl;
      latest = refl;
      whole = refl;
      later = c.settle.ensures.cause.later;
      say_faults = c.settle.ensures.say_faults;
    }

pub returns-in-Ok-clause-broken : goal.returns-in-Ok-clause-broken
returns-in-Ok-clause-broken g c = tt

pub returns-in-Err-clause-keeps : goal.returns-in-Err-clause-keeps
returns-in-Err-clause-keeps g c =
    let p = c.args.part in
    let way = ways.BrokenGate c.in-Err.log c.in-Gated.frame in
    record {
      tells = c.settle.ensures.tells;
      others = others_stay _ _ p way (put_for _ _ _ p way c.take_way.ensures.rest c.put_way-in-Err.ensures);
      said = refl;
      segment = refl;
      latest = refl;
      whole = refl;
      later = c.settle.ensures.cause.later;
      say_faults = c.settle.ensures.say_faults;
    }

pub returns-in-Err-clause-broken : goal.returns-in-Err-clause-broken
returns-in-Err-clause-broken g c =
    let p = c.args.part in
    let way = ways.BrokenGate c.in-Err.log c.in-Gated.frame in
    ap stage_of (way_put _ _ p way (put_for _ _ _ p way c.take_way.ensures.rest c.put_way-in-Err.ensures) (within _ _ _ c.requires.sound.count c.requires.place))
