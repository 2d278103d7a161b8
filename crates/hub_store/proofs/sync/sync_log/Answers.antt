use Rattle.hub_store.proofs.Bodies.{reach_is}
use Rattle.std.proofs.Common.{ℕ, subst, refl}
use Rattle.site_model.specs.History.{changes_of}
use Rattle.commit_log.specs.States.{IsBrokenBody}
use Rattle.log_items.specs.Plain.{entries_of}
use Rattle.part_items.specs.Spelling.{spell_frame}
use Rattle.hub_store.proofs.sync.sync_log.Goals as goal

pub returns-in-Err-clause-fits : goal.returns-in-Err-clause-fits
returns-in-Err-clause-fits g c h payloads bodied =
    let place = c.in-Err.ensures.broken in
    let payload = spell_frame (entries_of c.args.frame) in (
      place.0,
      subst (λ (f : ℕ). IsBrokenBody (changes_of f (g.V.Site.history c.sync_body.new.site)) h payloads c.in-Err.log.gate) place.0
          (c.in-Err.ensures.after h payloads payload bodied),
    )

pub returns-in-Ok-clause-tells : goal.returns-in-Ok-clause-tells
returns-in-Ok-clause-tells g c = c.sync_body.ensures.tells

pub returns-in-Ok-clause-during : goal.returns-in-Ok-clause-during
returns-in-Ok-clause-during g c = c.sync_body.ensures.during

pub returns-in-Ok-clause-going : goal.returns-in-Ok-clause-going
returns-in-Ok-clause-going g c = refl

pub returns-in-Ok-clause-due : goal.returns-in-Ok-clause-due
returns-in-Ok-clause-due g c = refl

pub returns-in-Ok-clause-ok : goal.returns-in-Ok-clause-ok
returns-in-Ok-clause-ok g c = refl

pub returns-in-Ok-clause-err : goal.returns-in-Ok-clause-err
returns-in-Ok-clause-err g c = tt

pub returns-in-Ok-clause-broken : goal.returns-in-Ok-clause-broken
returns-in-Ok-clause-broken g c = tt

pub returns-in-Ok-clause-cause : goal.returns-in-Ok-clause-cause
returns-in-Ok-clause-cause g c = record { later = c.sync_body.ensures.cause.later; same = c.in-Ok.ensures.cause.same; risen = tt }

pub returns-in-Ok-clause-say_faults : goal.returns-in-Ok-clause-say_faults
returns-in-Ok-clause-say_faults g c = c.sync_body.ensures.say_faults

pub returns-in-Err-clause-tells : goal.returns-in-Err-clause-tells
returns-in-Err-clause-tells g c = c.sync_body.ensures.tells

pub returns-in-Err-clause-during : goal.returns-in-Err-clause-during
returns-in-Err-clause-during g c = c.sync_body.ensures.during

pub returns-in-Err-clause-going : goal.returns-in-Err-clause-going
returns-in-Err-clause-going g c = refl

pub returns-in-Err-clause-due : goal.returns-in-Err-clause-due
returns-in-Err-clause-due g c = refl

pub returns-in-Err-clause-ok : goal.returns-in-Err-clause-ok
returns-in-Err-clause-ok g c = tt

pub returns-in-Err-clause-err : goal.returns-in-Err-clause-err
returns-in-Err-clause-err g c = refl

pub returns-in-Err-clause-broken : goal.returns-in-Err-clause-broken
returns-in-Err-clause-broken g c = refl

pub returns-in-Err-clause-cause : goal.returns-in-Err-clause-cause
returns-in-Err-clause-cause g c = record { later = c.sync_body.ensures.cause.later; same = tt; risen = c.in-Err.ensures.cause.risen }

pub returns-in-Err-clause-say_faults : goal.returns-in-Err-clause-say_faults
returns-in-Err-clause-say_faults g c = c.sync_body.ensures.say_faults

pub returns-in-Ok-clause-reach : goal.returns-in-Ok-clause-reach
returns-in-Ok-clause-reach g c = reach_is c.args.log.gate c.args.log.next c.in-Ok.log.gate c.in-Ok.log.next c.in-Ok.ensures.place.1 c.in-Ok.ensures.place.2

pub returns-in-Err-clause-reach : goal.returns-in-Err-clause-reach
returns-in-Err-clause-reach g c = reach_is c.args.log.gate c.args.log.next c.in-Err.log.gate c.in-Err.log.next c.in-Err.ensures.broken.1 c.in-Err.ensures.broken.2
