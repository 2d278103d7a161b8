use Rattle.std.proofs.Common.{◌≡◌, Result, Err, refl, ◌∙◌, ap, arith, ℕ}
use Rattle.site_model.proofs.Paths.{stays}
use Rattle.commit_log.specs.declared.states.Resting.{Resting}
use Rattle.commit_log.specs.declared.states.BrokenBody.{BrokenBody}
use Rattle.commit_log.specs.declared.states.BodyError.{BodyError}
use Rattle.commit_log.specs.declared.states.BodyError.TheVariants.{Full, SiteFault, Memory}
use Rattle.commit_log.proofs.Steps.{resting_images, body_during, body_broken, body_done}
use Rattle.commit_log.proofs.states.Resting.body.Goals as goal
use Rattle.commit_log.proofs.Causes.{ok_apart}

full_memory : {T : Type 0} (result : Result T BodyError) (n : ℕ) (log other : Resting) → result ≡ Err (Full n log) → result ≡ Err (Memory other) → ⊥
full_memory result n log other full memory = cc

full_fault : {T : Type 0} (result : Result T BodyError) (n : ℕ) (log : Resting) (other : BrokenBody) → result ≡ Err (Full n log) → result ≡ Err (SiteFault other) → ⊥
full_fault result n log other full fault = cc

memory_fault : {T : Type 0} (result : Result T BodyError) (log : Resting) (other : BrokenBody) → result ≡ Err (Memory log) → result ≡ Err (SiteFault other) → ⊥
memory_fault result log other memory fault = cc

-- where nothing was written, a crash leaves what it left
pub returns-then-length-limit-clause-during : goal.returns-then-length-limit-clause-during
returns-then-length-limit-clause-during g c h payloads rests = stays _ _ _ (resting_images h payloads _ _ rests)

pub returns-in-Err-clause-during : goal.returns-in-Err-clause-during
returns-in-Err-clause-during g c h payloads rests = stays _ _ _ (resting_images h payloads _ _ rests)

pub returns-in-Ok-write-clause-during : goal.returns-in-Ok-write-clause-during
returns-in-Ok-write-clause-during g c h payloads rests = body_during _ _ _ h payloads _ _ _ rests (c.write.ensures.done)

pub returns-in-Ok-write-clause-after : goal.returns-in-Ok-write-clause-after
returns-in-Ok-write-clause-after g c h payloads rests =
    body_done _ _ _ h payloads c.args.payload.now _ _ c.deref.result.now (omega arith) (omega (arith, c.if-length-limit.false, c.requires.limit)) (c.deref.ensures.value ∙ c.in-Ok.ensures) rests (c.in-Ok-write.ensures.done).ok

pub returns-clause-during : goal.returns-clause-during
returns-clause-during g c h payloads rests = body_during _ _ _ h payloads _ _ _ rests (c.write.ensures.done)

pub returns-clause-after : goal.returns-clause-after
returns-clause-after g c h payloads rests =
    body_broken _ _ _ h payloads _ _ _ rests (c.write.ensures.done)

pub returns-then-length-limit-clause-full : goal.returns-then-length-limit-clause-full
returns-then-length-limit-clause-full g c long = ap (λ (n : ℕ). Err (Full n c.args.self)) (omega arith)

pub returns-then-length-limit-clause-untouched : goal.returns-then-length-limit-clause-untouched
returns-then-length-limit-clause-untouched g c log is = absurd (full_memory _ _ _ log refl is)

pub returns-then-length-limit-clause-broken : goal.returns-then-length-limit-clause-broken
returns-then-length-limit-clause-broken g c log is = absurd (full_fault _ _ _ log refl is)

pub returns-in-Err-clause-full : goal.returns-in-Err-clause-full
returns-in-Err-clause-full g c long = absurd (omega (arith, c.if-length-limit.false, long))

pub returns-in-Err-clause-room : goal.returns-in-Err-clause-room
returns-in-Err-clause-room g c n log is = absurd (full_memory _ n log _ is refl)

pub returns-in-Err-clause-untouched_full : goal.returns-in-Err-clause-untouched_full
returns-in-Err-clause-untouched_full g c n log is = refl

pub returns-in-Err-clause-broken : goal.returns-in-Err-clause-broken
returns-in-Err-clause-broken g c log is = absurd (memory_fault _ _ log refl is)

pub returns-in-Ok-write-clause-full : goal.returns-in-Ok-write-clause-full
returns-in-Ok-write-clause-full g c long = absurd (omega (arith, c.if-length-limit.false, long))

pub returns-in-Ok-write-clause-room : goal.returns-in-Ok-write-clause-room
returns-in-Ok-write-clause-room g c n log is = absurd (ok_apart _ _ is)

pub returns-in-Ok-write-clause-untouched : goal.returns-in-Ok-write-clause-untouched
returns-in-Ok-write-clause-untouched g c log is = absurd (ok_apart _ _ is)

pub returns-in-Ok-write-clause-untouched_full : goal.returns-in-Ok-write-clause-untouched_full
returns-in-Ok-write-clause-untouched_full g c n log is = absurd (ok_apart _ _ is)

pub returns-in-Ok-write-clause-broken : goal.returns-in-Ok-write-clause-broken
returns-in-Ok-write-clause-broken g c log is = absurd (ok_apart _ _ is)

pub returns-clause-full : goal.returns-clause-full
returns-clause-full g c long = absurd (omega (arith, c.if-length-limit.false, long))

pub returns-clause-room : goal.returns-clause-room
returns-clause-room g c n log is = absurd (full_fault _ n log _ is refl)

pub returns-clause-untouched : goal.returns-clause-untouched
returns-clause-untouched g c log is = absurd (memory_fault _ log _ is refl)

pub returns-clause-untouched_full : goal.returns-clause-untouched_full
returns-clause-untouched_full g c n log is = absurd (full_fault _ n log _ is refl)

pub returns-then-length-limit-clause-tells : goal.returns-then-length-limit-clause-tells
returns-then-length-limit-clause-tells g c tells = tells

pub returns-then-length-limit-clause-wrote : goal.returns-then-length-limit-clause-wrote
returns-then-length-limit-clause-wrote g c = tt

pub returns-then-length-limit-clause-place : goal.returns-then-length-limit-clause-place
returns-then-length-limit-clause-place g c = tt

pub returns-then-length-limit-clause-say_faults : goal.returns-then-length-limit-clause-say_faults
returns-then-length-limit-clause-say_faults g c = refl

pub returns-in-Err-clause-tells : goal.returns-in-Err-clause-tells
returns-in-Err-clause-tells g c tells = tells

pub returns-in-Err-clause-wrote : goal.returns-in-Err-clause-wrote
returns-in-Err-clause-wrote g c = tt

pub returns-in-Err-clause-place : goal.returns-in-Err-clause-place
returns-in-Err-clause-place g c = tt

pub returns-in-Err-clause-say_faults : goal.returns-in-Err-clause-say_faults
returns-in-Err-clause-say_faults g c = refl

pub returns-then-length-limit-clause-untouched_full : goal.returns-then-length-limit-clause-untouched_full
returns-then-length-limit-clause-untouched_full g c n log is = refl

pub returns-in-Ok-write-clause-tells : goal.returns-in-Ok-write-clause-tells
returns-in-Ok-write-clause-tells g c = c.write.ensures.tells

pub returns-in-Ok-write-clause-later : goal.returns-in-Ok-write-clause-later
returns-in-Ok-write-clause-later g c = c.write.ensures.cause.later

pub returns-in-Ok-write-clause-say_faults : goal.returns-in-Ok-write-clause-say_faults
returns-in-Ok-write-clause-say_faults g c = c.write.ensures.say_faults

pub returns-clause-tells : goal.returns-clause-tells
returns-clause-tells g c = c.write.ensures.tells

pub returns-clause-later : goal.returns-clause-later
returns-clause-later g c = c.write.ensures.cause.later

pub returns-clause-say_faults : goal.returns-clause-say_faults
returns-clause-say_faults g c = c.write.ensures.say_faults

pub returns-clause-wrote : goal.returns-clause-wrote
returns-clause-wrote g c = tt

pub returns-clause-place : goal.returns-clause-place
returns-clause-place g c = tt
