use Rattle.std.proofs.Common.{◌++◌, List, length, refl, sym, ◌∙◌, ap, subst, le_refl}
use Rattle.std.proofs.lemmas.List.{append-nil}
use Rattle.dura_value.specs.Items.{Entry}
use Rattle.site_model.specs.History.{changes_of}
use Rattle.hub_store.specs.declared.way.Way.{Way}
use Rattle.hub_store.specs.declared.way.Way.TheVariants as ways
use Rattle.log_items.specs.Plain.{entries_of}
use Rattle.hub_store.specs.Plain.{trail_of, told_of}
use Rattle.hub_store.specs.Trail.{of_part, settling}
use Rattle.hub_store.specs.Short.{KeepsShort}
use Rattle.hub_store.specs.Ways.{LogFits, stage_of, due_in, going_in}
use Rattle.hub_store.proofs.Bodies.{way_put, rests_there, within, less_due, less_room, reach_next}
use Rattle.hub_store.proofs.Safes.{safe_path, safe_rests}
use Rattle.hub_store.proofs.Settling.{of_part-append, no_part, told_settled}
use Rattle.hub_store.proofs.Shortness.{still_short}
use Rattle.hub_store.proofs.Stores.{put_for, others_stay, sound_any, due_of_one}
use Rattle.hub_store.proofs.store.Store.settle_safe.Goals as goal

pub returns-clause-sound : goal.returns-clause-sound
returns-clause-sound g c =
    let o = g.N.Start.origin in
    let p = c.args.part in
    let old = c.args.self.now in
    let trail = trail_of old.trail.items in
    let told = told_of old.told.items in
    let now = g.V.Site.history old.site in
    let log = c.in-Safe.log in
    let frame = c.in-Safe.frame in
    let rest = c.settled.result in
    let at = c.moment-at.result in
    let dues = ap due_in c.in-Safe.ensures.way in
    let enough = due_of_one old p c.requires.sound c.requires.place in
    let size = ap length c.entries.ensures in
    sound_any old _ p (ways.Resting rest) (trail ++ settling p at (entries_of frame)) c.requires.sound c.requires.place (rests_there rest) (put_for _ _ _ p (ways.Resting rest) c.take_way.ensures.rest c.put_way.ensures)
    (less_due _ _ _ _ dues enough size) (less_room _ _ _ _ _ _ _ _ dues enough size c.requires.sound.room c.settle_entries.ensures.len c.settle_entries.ensures.capacity) c.settle_entries.ensures.trail (c.requires.sound.uncut c.requires.going) refl
    (λ tells.
    let stood = c.requires.sound.told tells in
    let fits = subst (λ (w : Way). LogFits (o.logs p) (of_part p trail) (changes_of (o.logs p).file now) w) (sym c.in-Safe.ensures.way) (stood.logs p c.requires.place) in
    let follows = c.requires.follows _ (ap going_in (sym c.in-Safe.ensures.way)) in
    let path = safe_path (g.N.Start.may_follow old.latest) g.N.Start.may_say o p log frame trail told now follows fits in
    let rests = safe_rests (g.N.Start.may_follow old.latest) g.N.Start.may_say o p log frame trail now rest c.settled.ensures.place.0 c.settled.ensures.place.1 fits in
    told_settled (g.N.Start.may_follow old.latest) g.N.Start.may_say o (g.N.Start.still_settled old.latest) p rest trail told (entries_of frame) fits.payloads now now old.ways.items old.cut _ at c.requires.sound.apart c.requires.sound.count c.requires.place (c.requires.sound.uncut c.requires.going) (c.moment-at.ensures tells) follows stood path fits.next rests.0 rests.1)
    refl (λ tells. tells)
    (λ q apart. of_part-append q trail (settling p at (entries_of frame)) ∙ ap (λ (l : List Entry). of_part q trail ++ l) (no_part p q at (entries_of frame) (λ same. apart (sym same))) ∙ append-nil (of_part q trail))
    (λ tells. still_short old.segment (of_part p trail) (of_part p (trail ++ settling p at (entries_of frame))) (ways.Safe log frame) (ways.Resting rest) _ refl (reach_next log.gate log.next rest.gate c.settled.ensures.place.1)
    (subst (KeepsShort old.segment (of_part p trail)) (sym c.in-Safe.ensures.way) (c.requires.sound.short tells p c.requires.place)))

pub returns-clause-ok : goal.returns-clause-ok
returns-clause-ok g c =
    let p = c.args.part in
    let way = ways.Resting c.settled.result in
    ap stage_of (way_put _ _ p way (put_for _ _ _ p way c.take_way.ensures.rest c.put_way.ensures) (within _ _ _ c.requires.sound.count c.requires.place))

pub returns-clause-trail : goal.returns-clause-trail
returns-clause-trail g c = record {
  entries = entries_of c.in-Safe.frame;
  at = c.moment-at.result;
  frame = ap going_in (sym c.in-Safe.ensures.way);
  now = λ tells. c.moment-at.ensures tells;
  trail = c.settle_entries.ensures.trail;
}

pub returns-clause-keeps : goal.returns-clause-keeps
returns-clause-keeps g c =
    let p = c.args.part in
    let way = ways.Resting c.settled.result in
    record {
      tells = λ tells. tells;
      others = others_stay _ _ p way (put_for _ _ _ p way c.take_way.ensures.rest c.put_way.ensures);
      said = refl;
      segment = refl;
      latest = refl;
      whole = refl;
      later = le_refl _;
      say_faults = refl;
    }
