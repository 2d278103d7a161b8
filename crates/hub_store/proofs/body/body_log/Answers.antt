use Rattle.std.proofs.Common.{◌+◌, inl, inr, ℕ, List, length, Err, refl, subst, arith, le_refl, zero-le}
use Rattle.std.proofs.lemmas.Bool.{cases_lt}
use Rattle.site_model.specs.History.{changes_of}
use Rattle.commit_log.specs.declared.states.BodyError.{BodyError}
use Rattle.commit_log.specs.Outcomes.{AfterBody}
use Rattle.commit_log.specs.States.{IsBodied, IsBrokenBody}
use Rattle.log_items.specs.Plain.{entries_of}
use Rattle.part_items.specs.Spelling.{spell_frame}
use Rattle.hub_store.proofs.Bodies.{full_memory, full_fault, memory_fault, rests_there}
use Rattle.hub_store.proofs.body.body_log.Goals as goal
use Rattle.commit_log.proofs.Causes.{ok_apart}

pub returns-in-Err-SiteFault-clause-fits : goal.returns-in-Err-SiteFault-clause-fits
returns-in-Err-SiteFault-clause-fits g c h payloads rests =
    let log = c.in-Err-SiteFault.log in
    let now = g.V.Site.history c.body.new.site in
    let broken = subst (λ (e : BodyError). AfterBody now h payloads c.args.payload.now (Err e)) c.in-Err-SiteFault.field-0-is (c.in-Err-SiteFault.ensures.after h payloads rests) in
    let place = (c.body.ensures.broken log (let h1 = c.in-Err-SiteFault.is in let h2 = c.in-Err-SiteFault.field-0-is in cc)).0 in
    (place, subst (λ (file : ℕ). IsBrokenBody (changes_of file now) h payloads log.gate) place broken)

pub returns-in-Ok-clause-fits : goal.returns-in-Ok-clause-fits
returns-in-Ok-clause-fits g c h payloads rests =
    let log = c.in-Ok.log in
    let now = g.V.Site.history c.body.new.site in
    let place = (c.in-Ok.ensures.place).0 in (
      place,
      subst (λ (file : ℕ). IsBodied (changes_of file now) h payloads (spell_frame (entries_of c.args.frame)) log.gate log.next) place
          (subst (λ (payload : List ℕ). IsBodied (changes_of log.file now) h payloads payload log.gate log.next) c.requires.spelled (c.in-Ok.ensures.after h payloads rests)),
    )

pub returns-in-Ok-clause-full : goal.returns-in-Ok-clause-full
returns-in-Ok-clause-full g c long = absurd (ok_apart _ _ (c.in-Ok.ensures.full long))

pub returns-in-Ok-clause-untouched : goal.returns-in-Ok-clause-untouched
returns-in-Ok-clause-untouched g c of n back is = absurd (ok_apart _ _ is)

pub returns-in-Ok-clause-memory : goal.returns-in-Ok-clause-memory
returns-in-Ok-clause-memory g c back is = absurd (ok_apart _ _ is)

pub returns-in-Ok-clause-fault : goal.returns-in-Ok-clause-fault
returns-in-Ok-clause-fault g c is = absurd (ok_apart _ _ is)

pub returns-in-Err-Full-clause-memory : goal.returns-in-Err-Full-clause-memory
returns-in-Err-Full-clause-memory g c back is = absurd (full_memory _ _ _ _ back refl is)

pub returns-in-Err-Full-clause-fault : goal.returns-in-Err-Full-clause-fault
returns-in-Err-Full-clause-fault g c is = absurd (full_fault _ _ _ _ refl is)

pub returns-in-Err-SiteFault-clause-untouched : goal.returns-in-Err-SiteFault-clause-untouched
returns-in-Err-SiteFault-clause-untouched g c of n back is = absurd (full_fault _ of n back is refl)

pub returns-in-Err-SiteFault-clause-memory : goal.returns-in-Err-SiteFault-clause-memory
returns-in-Err-SiteFault-clause-memory g c back is = absurd (memory_fault _ back is refl)

pub returns-in-Err-Memory-clause-untouched : goal.returns-in-Err-Memory-clause-untouched
returns-in-Err-Memory-clause-untouched g c of n back is = absurd (full_memory _ of n back _ is refl)

pub returns-in-Err-Memory-clause-fault : goal.returns-in-Err-Memory-clause-fault
returns-in-Err-Memory-clause-fault g c is = absurd (memory_fault _ _ refl is)

-- a log that would come to the limit is full before anything is written
pub returns-in-Err-SiteFault-clause-short : goal.returns-in-Err-SiteFault-clause-short
returns-in-Err-SiteFault-clause-short g c h payloads rests =
    let log = c.in-Err-SiteFault.log in
    let payload = c.args.payload.now in
    let place = c.body.ensures.broken log (let h1 = c.in-Err-SiteFault.is in let h2 = c.in-Err-SiteFault.field-0-is in cc) in
    elim (cases_lt (c.args.log.gate + 6 + length payload) c.args.limit) [
      | inl below ↦ inr (omega (arith, below, place.1, place.2))
      | inr past ↦ absurd (let full = c.in-Err-SiteFault.ensures.full past in let fault = c.in-Err-SiteFault.field-0-is in cc (full, fault))
    ]

pub returns-in-Err-SiteFault-clause-broken : goal.returns-in-Err-SiteFault-clause-broken
returns-in-Err-SiteFault-clause-broken g c is = (refl, refl)

pub returns-in-Ok-clause-broken : goal.returns-in-Ok-clause-broken
returns-in-Ok-clause-broken g c is = absurd (ok_apart _ _ is)

pub returns-in-Err-Full-clause-broken : goal.returns-in-Err-Full-clause-broken
returns-in-Err-Full-clause-broken g c is = absurd (full_fault _ _ _ _ refl is)

pub returns-in-Err-Memory-clause-broken : goal.returns-in-Err-Memory-clause-broken
returns-in-Err-Memory-clause-broken g c is = absurd (memory_fault _ _ refl is)

pub returns-in-Ok-clause-tells : goal.returns-in-Ok-clause-tells
returns-in-Ok-clause-tells g c = c.body.ensures.tells

pub returns-in-Ok-clause-during : goal.returns-in-Ok-clause-during
returns-in-Ok-clause-during g c = c.body.ensures.during

pub returns-in-Ok-clause-going : goal.returns-in-Ok-clause-going
returns-in-Ok-clause-going g c = inr refl

pub returns-in-Ok-clause-due : goal.returns-in-Ok-clause-due
returns-in-Ok-clause-due g c = le_refl _

pub returns-in-Ok-clause-ok : goal.returns-in-Ok-clause-ok
returns-in-Ok-clause-ok g c = (refl, refl)

pub returns-in-Ok-clause-later : goal.returns-in-Ok-clause-later
returns-in-Ok-clause-later g c = c.body.ensures.later

pub returns-in-Ok-clause-say_faults : goal.returns-in-Ok-clause-say_faults
returns-in-Ok-clause-say_faults g c = c.body.ensures.say_faults

pub returns-in-Err-SiteFault-clause-tells : goal.returns-in-Err-SiteFault-clause-tells
returns-in-Err-SiteFault-clause-tells g c = c.body.ensures.tells

pub returns-in-Err-SiteFault-clause-during : goal.returns-in-Err-SiteFault-clause-during
returns-in-Err-SiteFault-clause-during g c = c.body.ensures.during

pub returns-in-Err-SiteFault-clause-going : goal.returns-in-Err-SiteFault-clause-going
returns-in-Err-SiteFault-clause-going g c = inr refl

pub returns-in-Err-SiteFault-clause-due : goal.returns-in-Err-SiteFault-clause-due
returns-in-Err-SiteFault-clause-due g c = le_refl _

pub returns-in-Err-SiteFault-clause-ok : goal.returns-in-Err-SiteFault-clause-ok
returns-in-Err-SiteFault-clause-ok g c = tt

pub returns-in-Err-SiteFault-clause-later : goal.returns-in-Err-SiteFault-clause-later
returns-in-Err-SiteFault-clause-later g c = c.body.ensures.later

pub returns-in-Err-SiteFault-clause-say_faults : goal.returns-in-Err-SiteFault-clause-say_faults
returns-in-Err-SiteFault-clause-say_faults g c = c.body.ensures.say_faults

pub returns-in-Err-Full-clause-tells : goal.returns-in-Err-Full-clause-tells
returns-in-Err-Full-clause-tells g c = c.body.ensures.tells

pub returns-in-Err-Full-clause-during : goal.returns-in-Err-Full-clause-during
returns-in-Err-Full-clause-during g c = c.body.ensures.during

pub returns-in-Err-Full-clause-going : goal.returns-in-Err-Full-clause-going
returns-in-Err-Full-clause-going g c = inl refl

pub returns-in-Err-Full-clause-due : goal.returns-in-Err-Full-clause-due
returns-in-Err-Full-clause-due g c = zero-le

pub returns-in-Err-Full-clause-ok : goal.returns-in-Err-Full-clause-ok
returns-in-Err-Full-clause-ok g c = tt

pub returns-in-Err-Full-clause-later : goal.returns-in-Err-Full-clause-later
returns-in-Err-Full-clause-later g c = c.body.ensures.later

pub returns-in-Err-Full-clause-say_faults : goal.returns-in-Err-Full-clause-say_faults
returns-in-Err-Full-clause-say_faults g c = c.body.ensures.say_faults

pub returns-in-Err-Full-clause-there : goal.returns-in-Err-Full-clause-there
returns-in-Err-Full-clause-there g c = rests_there _

pub returns-in-Err-Memory-clause-tells : goal.returns-in-Err-Memory-clause-tells
returns-in-Err-Memory-clause-tells g c = c.body.ensures.tells

pub returns-in-Err-Memory-clause-during : goal.returns-in-Err-Memory-clause-during
returns-in-Err-Memory-clause-during g c = c.body.ensures.during

pub returns-in-Err-Memory-clause-going : goal.returns-in-Err-Memory-clause-going
returns-in-Err-Memory-clause-going g c = inl refl

pub returns-in-Err-Memory-clause-due : goal.returns-in-Err-Memory-clause-due
returns-in-Err-Memory-clause-due g c = zero-le

pub returns-in-Err-Memory-clause-ok : goal.returns-in-Err-Memory-clause-ok
returns-in-Err-Memory-clause-ok g c = tt

pub returns-in-Err-Memory-clause-later : goal.returns-in-Err-Memory-clause-later
returns-in-Err-Memory-clause-later g c = c.body.ensures.later

pub returns-in-Err-Memory-clause-say_faults : goal.returns-in-Err-Memory-clause-say_faults
returns-in-Err-Memory-clause-say_faults g c = c.body.ensures.say_faults

pub returns-in-Err-Memory-clause-there : goal.returns-in-Err-Memory-clause-there
returns-in-Err-Memory-clause-there g c = rests_there _
