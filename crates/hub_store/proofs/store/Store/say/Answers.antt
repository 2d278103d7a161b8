use Rattle.std.proofs.Common.{[], ◌∷◌, ◌++◌, refl, sym, ◌∙◌, ap, le_refl}
use Rattle.hub_store.specs.Changes.{asked}
use Rattle.hub_store.specs.Plain.{trail_of, told_of}
use Rattle.hub_store.proofs.Bodies.{true_apart, unsaid_apart}
use Rattle.hub_store.proofs.Refusals.{residual_is, residual_on_err, residual_on_ok}
use Rattle.hub_store.proofs.Saying.{told_said, told_failed}
use Rattle.hub_store.proofs.Stores.{sound_told, told_more}
use Rattle.hub_store.proofs.store.Store.say.Goals as goal
use Rattle.commit_log.proofs.Causes.{ok_apart}

pub returns-in-Ok-clause-ok : goal.returns-in-Ok-clause-ok
returns-in-Ok-clause-ok g c = told_more _ _ _ _ c.args.client.now c.args.number c.reserve.ensures.items c.push_reserved.ensures.items c.in_ok-client.ensures refl

pub returns-in-Ok-clause-sound : goal.returns-in-Ok-clause-sound
returns-in-Ok-clause-sound g c =
    let old = c.args.self.now in
    let told = told_of old.told.items in
    let one = asked c.args.client.now c.args.number in
    sound_told old _ (told ++ one ∷ []) c.requires.sound refl refl refl
    (told_more _ _ _ _ c.args.client.now c.args.number c.reserve.ensures.items c.push_reserved.ensures.items c.in_ok-client.ensures refl) c.requires.sound.uncut
    (λ tells. told_said (g.N.Start.may_follow old.latest) g.N.Start.may_say g.N.Start.origin (g.N.Start.still_said old.latest) old.ways.items (trail_of old.trail.items) told one c.args.line.now (g.V.Site.history old.site)
    (g.V.Site.history c.say.new.self) c.say.result old.cut _ c.requires.may (c.requires.sound.uncut c.requires.going) (c.requires.sound.told (c.say.ensures.tells tells)) c.say.ensures.done (c.in-Ok.ensures.done).ok) refl c.say.ensures.tells

pub returns-in-Err-clause-sound : goal.returns-in-Err-clause-sound
returns-in-Err-clause-sound g c =
    let old = c.args.self.now in
    let told = told_of old.told.items in
    let one = asked c.args.client.now c.args.number in
    sound_told old _ told c.requires.sound refl refl refl (ap told_of c.reserve.ensures.items) (λ still. absurd (true_apart still))
    (λ tells. told_failed (g.N.Start.may_follow old.latest) g.N.Start.may_say g.N.Start.origin (g.N.Start.still_said old.latest) old.ways.items (trail_of old.trail.items) told one c.args.line.now (g.V.Site.history old.site)
    (g.V.Site.history c.say.new.self) c.say.result old.cut _ c.requires.may (c.requires.sound.uncut c.requires.going) refl (c.requires.sound.told (c.say.ensures.tells tells)) c.say.ensures.done) refl c.say.ensures.tells

pub returns-in-Ok-clause-memory : goal.returns-in-Ok-clause-memory
returns-in-Ok-clause-memory g c is = absurd (ok_apart _ _ is)

pub returns-in-Ok-clause-whole : goal.returns-in-Ok-clause-whole
returns-in-Ok-clause-whole g c apart = refl

pub returns-in-Ok-clause-halts : goal.returns-in-Ok-clause-halts
returns-in-Ok-clause-halts g c is = absurd (ok_apart _ _ is)

pub returns-in-Ok-clause-halted : goal.returns-in-Ok-clause-halted
returns-in-Ok-clause-halted g c = record {
  later = c.in-Ok.ensures.cause.later;
  same = λ is. c.in-Ok.ensures.cause.same;
  risen = λ is. absurd (true_apart (sym is ∙ c.requires.going));
}

pub returns-in-Err-clause-err : goal.returns-in-Err-clause-err
returns-in-Err-clause-err g c = ap told_of c.reserve.ensures.items

pub returns-in-Err-clause-memory : goal.returns-in-Err-clause-memory
returns-in-Err-clause-memory g c is = absurd (unsaid_apart _ refl is)

pub returns-in-Err-clause-whole : goal.returns-in-Err-clause-whole
returns-in-Err-clause-whole g c apart = absurd (apart refl)

pub returns-in-Err-clause-halted : goal.returns-in-Err-clause-halted
returns-in-Err-clause-halted g c = record {
  later = c.in-Err.ensures.cause.later;
  same = λ is. absurd (true_apart is);
  risen = λ is. c.in-Err.ensures.cause.risen;
}

pub returns-in-Ok-clause-tells : goal.returns-in-Ok-clause-tells
returns-in-Ok-clause-tells g c = c.say.ensures.tells

pub returns-in-Ok-clause-err : goal.returns-in-Ok-clause-err
returns-in-Ok-clause-err g c = tt

pub returns-in-Ok-clause-trail : goal.returns-in-Ok-clause-trail
returns-in-Ok-clause-trail g c = refl

pub returns-in-Ok-clause-ways : goal.returns-in-Ok-clause-ways
returns-in-Ok-clause-ways g c = refl

pub returns-in-Ok-clause-segment : goal.returns-in-Ok-clause-segment
returns-in-Ok-clause-segment g c = refl

pub returns-in-Ok-clause-latest : goal.returns-in-Ok-clause-latest
returns-in-Ok-clause-latest g c = refl

pub returns-in-Ok-clause-still : goal.returns-in-Ok-clause-still
returns-in-Ok-clause-still g c = c.requires.going

pub returns-in-Ok-clause-disk_faults : goal.returns-in-Ok-clause-disk_faults
returns-in-Ok-clause-disk_faults g c = c.say.ensures.disk_faults

pub returns-in-Err-clause-tells : goal.returns-in-Err-clause-tells
returns-in-Err-clause-tells g c = c.say.ensures.tells

pub returns-in-Err-clause-ok : goal.returns-in-Err-clause-ok
returns-in-Err-clause-ok g c = tt

pub returns-in-Err-clause-trail : goal.returns-in-Err-clause-trail
returns-in-Err-clause-trail g c = refl

pub returns-in-Err-clause-ways : goal.returns-in-Err-clause-ways
returns-in-Err-clause-ways g c = refl

pub returns-in-Err-clause-segment : goal.returns-in-Err-clause-segment
returns-in-Err-clause-segment g c = refl

pub returns-in-Err-clause-latest : goal.returns-in-Err-clause-latest
returns-in-Err-clause-latest g c = refl

pub returns-in-Err-clause-still : goal.returns-in-Err-clause-still
returns-in-Err-clause-still g c = tt

pub returns-in-Err-clause-halts : goal.returns-in-Err-clause-halts
returns-in-Err-clause-halts g c = λ is. refl

pub returns-in-Err-clause-disk_faults : goal.returns-in-Err-clause-disk_faults
returns-in-Err-clause-disk_faults g c = c.say.ensures.disk_faults

pub returns-in_err-client : goal.returns-in_err-client
returns-in_err-client g c = record {
  tells = λ t. t;
  sound = c.requires.sound;
  ok = residual_on_ok _ c.from_residual.result _ c.from_residual.ensures.1;
  err = residual_on_err _ c.from_residual.result refl;
  trail = refl;
  ways = refl;
  memory = λ is. (refl, c.requires.going);
  segment = refl;
  latest = refl;
  whole = λ apart. refl;
  still = residual_on_ok _ c.from_residual.result _ c.from_residual.ensures.1;
  halts = λ is. absurd (unsaid_apart _ is (residual_is _ _ c.from_residual.ensures.1));
  halted = record { later = le_refl _; same = λ is. refl; risen = λ is. absurd (true_apart (sym is ∙ c.requires.going)) };
  disk_faults = refl;
}

pub returns-in_err-reserve : goal.returns-in_err-reserve
returns-in_err-reserve g c = record {
  tells = λ t. t;
  sound = sound_told c.args.self.now _ (told_of c.args.self.now.told.items) c.requires.sound refl refl refl (ap told_of c.reserve.ensures.items) c.requires.sound.uncut c.requires.sound.told refl (λ t. t);
  ok = residual_on_ok _ c.from_residual-in_err-reserve.result _ c.from_residual-in_err-reserve.ensures.1;
  err = residual_on_err _ c.from_residual-in_err-reserve.result (ap told_of c.reserve.ensures.items);
  trail = refl;
  ways = refl;
  memory = λ is. (refl, c.requires.going);
  segment = refl;
  latest = refl;
  whole = λ apart. refl;
  still = residual_on_ok _ c.from_residual-in_err-reserve.result _ c.from_residual-in_err-reserve.ensures.1;
  halts = λ is. absurd (unsaid_apart _ is (residual_is _ _ c.from_residual-in_err-reserve.ensures.1));
  halted = record { later = le_refl _; same = λ is. refl; risen = λ is. absurd (true_apart (sym is ∙ c.requires.going)) };
  disk_faults = refl;
}
