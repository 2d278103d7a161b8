use Rattle.std.proofs.Common.{◌≡◌, ℕ, OnOk, Some, length, inl, inr, refl, sym, ◌∙◌, ap, subst, arith, le_refl}
use Rattle.commit_log.specs.States.{IsResting}
use Rattle.site_model.specs.History.{changes_of}
use Rattle.log_items.specs.Plain.{entries_of}
use Rattle.hub_store.specs.declared.way.Way.{Way}
use Rattle.hub_store.specs.declared.way.Stage.TheVariants as stages
use Rattle.hub_store.specs.Plain.{trail_of, told_of}
use Rattle.hub_store.specs.Trail.{of_part}
use Rattle.hub_store.specs.Short.{KeepsShort}
use Rattle.hub_store.specs.Ways.{LogFits, stage_of, due_in, going_in}
use Rattle.hub_store.proofs.Bodies.{full_of, way_put, true_apart, full_memory, memory_fault, same_memory, within, length_is, grown_due}
use Rattle.hub_store.proofs.Calls.{resting_there, body_goes}
use Rattle.hub_store.proofs.Standing.{told_on}
use Rattle.hub_store.proofs.Stores.{put_for, others_stay, keeps_still, sound_any, sound_roomier}
use Rattle.hub_store.proofs.store.Store.body.Goals as goal

pub body_log-way-requires-clause-rests : goal.body_log-way-requires-clause-rests
body_log-way-requires-clause-rests g c tells =
    let o = g.N.Start.origin in
    let p = c.args.part in
    let old = c.args.self.now in
    let trail = trail_of old.trail.items in
    let stood = c.requires.sound.told tells in
    resting_there o p c.in-Resting.log trail (g.V.Site.history old.site)
    (subst (λ (w : Way). LogFits (o.logs p) (of_part p trail) (changes_of (o.logs p).file (g.V.Site.history old.site)) w) (sym c.in-Resting.ensures.way) (stood.logs p c.requires.place))

pub returns-in-Err : goal.returns-in-Err
returns-in-Err g c = record {
  keeps = keeps_still c.args.part c.args.self.now;
  sound = c.requires.sound;
  ok = tt;
  trail = refl;
  full = λ long. inl refl;
  room = λ of n back is. absurd (full_memory _ of n back _ is refl);
  memory = λ back is. (same_memory _ _ back refl is, refl, c.requires.rests);
  broken = λ is. absurd (memory_fault _ _ refl is);
  halts = (λ is. absurd (memory_fault _ _ refl is), λ is. absurd (true_apart (sym is ∙ c.requires.going)));
  still = tt;
  fault = λ is. absurd (true_apart (sym is ∙ c.requires.going));
}

pub returns-in_default : goal.returns-in_default
returns-in_default g c = record {
  keeps = keeps_still c.args.part c.args.self.now;
  sound = c.requires.sound;
  ok = tt;
  trail = refl;
  full = λ long. inl refl;
  room = λ of n back is. absurd (full_memory _ of n back _ is refl);
  memory = λ back is. (same_memory _ _ back refl is, refl, c.requires.rests);
  broken = λ is. absurd (memory_fault _ _ refl is);
  halts = (λ is. absurd (memory_fault _ _ refl is), λ is. absurd (true_apart (sym is ∙ c.requires.going)));
  still = tt;
  fault = λ is. absurd (true_apart (sym is ∙ c.requires.going));
}

pub returns-in-Err-reserve : goal.returns-in-Err-reserve
returns-in-Err-reserve g c = record {
  keeps = record { tells = λ tells. tells; others = λ other apart. refl; said = refl; segment = refl; latest = refl; whole = refl; later = le_refl _; say_faults = refl };
  sound = sound_roomier c.args.self.now _ c.requires.sound refl refl refl refl refl refl refl c.reserve.ensures.items c.reserve.ensures.len c.reserve.ensures.capacity refl;
  ok = tt;
  trail = ap trail_of c.reserve.ensures.items;
  full = λ long. inl refl;
  room = λ of n back is. absurd (full_memory _ of n back _ is refl);
  memory = λ back is. (same_memory _ _ back refl is, refl, c.requires.rests);
  broken = λ is. absurd (memory_fault _ _ refl is);
  halts = (λ is. absurd (memory_fault _ _ refl is), λ is. absurd (true_apart (sym is ∙ c.requires.going)));
  still = tt;
  fault = λ is. absurd (true_apart (sym is ∙ c.requires.going));
}

pub returns-clause-sound : goal.returns-clause-sound
returns-clause-sound g c =
    let o = g.N.Start.origin in
    let p = c.args.part in
    let old = c.args.self.now in
    let trail = trail_of old.trail.items in
    let told = told_of old.told.items in
    let before = g.V.Site.history old.site in
    let now = g.V.Site.history c.body_log-way.new.site in
    let way = c.body_log-way.result.0 in
    let none_due = ap due_in c.in-Resting.ensures.way in
    sound_any old _ p way trail c.requires.sound c.requires.place c.body_log-way.ensures.there (put_for _ _ _ p way c.take_way.ensures.rest c.put_way.ensures) (grown_due _ _ _ _ none_due c.due-more.ensures)
    (omega (arith, c.due-more.ensures, c.body_log-way.ensures.due, c.in-Ok-reserve.ensures.ok, c.in-Some.ensures.1, ap length c.entries.ensures)) (ap trail_of c.reserve.ensures.items) (c.requires.sound.uncut c.requires.going) refl
    (λ tells.
    let stood = c.requires.sound.told (c.body_log-way.ensures.tells tells) in
    let fits = subst (λ (w : Way). LogFits (o.logs p) (of_part p trail) (changes_of (o.logs p).file before) w) (sym c.in-Resting.ensures.way) (stood.logs p c.requires.place) in
    let goes = body_goes (g.N.Start.may_follow old.latest) g.N.Start.may_say o p c.in-Resting.log c.args.frame trail told before now way c.body_log-way.ensures.during c.body_log-way.ensures.fits c.body_log-way.ensures.going (c.requires.behind).again fits in
    told_on (g.N.Start.may_follow old.latest) g.N.Start.may_say o p before now old.ways.items way trail told old.cut _ c.requires.sound.apart c.requires.sound.count c.requires.place (c.requires.sound.uncut c.requires.going) stood goes.0 goes.1)
    refl c.body_log-way.ensures.tells (λ q apart. refl)
    (λ tells.
    let then = c.body_log-way.ensures.tells tells in
    let fits = subst (λ (w : Way). LogFits (o.logs p) (of_part p trail) (changes_of (o.logs p).file before) w) (sym c.in-Resting.ensures.way) ((c.requires.sound.told then).logs p c.requires.place) in
    let rests = subst (λ (f : ℕ). IsResting (changes_of f before) (o.logs p).header fits.payloads c.in-Resting.log.gate) (sym fits.fits.0) fits.fits.1 in
    elim (c.body_log-way.ensures.short (o.logs p).header fits.payloads rests) [
      | inl same ↦ subst (KeepsShort old.segment (of_part p trail)) (sym (same ∙ c.in-Resting.ensures.way)) (c.requires.sound.short then p c.requires.place)
      | inr short ↦ inr short
    ])

pub returns-clause-ok : goal.returns-clause-ok
returns-clause-ok g c =
    let p = c.args.part in
    let way = c.body_log-way.result.0 in
    subst (λ (w : Way). OnOk c.body_log-way.result.1 ((stage_of w ≡ stages.Bodied) × (going_in w ≡ Some (entries_of c.args.frame))))
    (sym (way_put _ _ p way (put_for _ _ _ p way c.take_way.ensures.rest c.put_way.ensures) (within _ _ _ c.requires.sound.count c.requires.place))) c.body_log-way.ensures.ok

pub returns-clause-full : goal.returns-clause-full
returns-clause-full g c long =
    inr (full_of _ c.in-Resting.log (entries_of c.args.frame) c.deref.result.now c.args.self.now.segment c.args.part c.args.frame c.body_log-way.result.1 c.in-Resting.ensures.way (c.deref.ensures.value ∙ c.in-Ok.ensures) c.body_log-way.ensures.full long)

pub returns-clause-keeps : goal.returns-clause-keeps
returns-clause-keeps g c =
    let p = c.args.part in
    let way = c.body_log-way.result.0 in
    record {
      tells = c.body_log-way.ensures.tells;
      others = others_stay _ _ p way (put_for _ _ _ p way c.take_way.ensures.rest c.put_way.ensures);
      said = refl;
      segment = refl;
      latest = refl;
      whole = refl;
      later = c.body_log-way.ensures.later;
      say_faults = c.body_log-way.ensures.say_faults;
    }

pub returns-clause-trail : goal.returns-clause-trail
returns-clause-trail g c = ap trail_of c.reserve.ensures.items

pub returns-clause-memory : goal.returns-clause-memory
returns-clause-memory g c back is =
    let p = c.args.part in
    let way = c.body_log-way.result.0 in
    let none = c.body_log-way.ensures.memory back is in
    (none.0, none.2, ap stage_of (way_put _ _ p way (put_for _ _ _ p way c.take_way.ensures.rest c.put_way.ensures) (within _ _ _ c.requires.sound.count c.requires.place) ∙ none.1))

pub returns-clause-broken : goal.returns-clause-broken
returns-clause-broken g c is =
    let p = c.args.part in
    let way = c.body_log-way.result.0 in
    let here = way_put _ _ p way (put_for _ _ _ p way c.take_way.ensures.rest c.put_way.ensures) (within _ _ _ c.requires.sound.count c.requires.place) in
    let broken = c.body_log-way.ensures.broken is in
    (ap stage_of here ∙ broken.0, ap going_in here ∙ broken.1)

pub returns-clause-room : goal.returns-clause-room
returns-clause-room g c of n back is =
    let p = c.args.part in
    let way = c.body_log-way.result.0 in
    let full = c.body_log-way.ensures.untouched of n back is in (
      full.0,
      full.1,
      full.2,
      length_is _ c.in-Resting.log (entries_of c.args.frame) c.deref.result.now n c.in-Resting.ensures.way (c.deref.ensures.value ∙ c.in-Ok.ensures) full.3,
      full.5,
      way_put _ _ p way (put_for _ _ _ p way c.take_way.ensures.rest c.put_way.ensures) (within _ _ _ c.requires.sound.count c.requires.place) ∙ full.4 ∙ c.in-Resting.ensures.way,
    )
