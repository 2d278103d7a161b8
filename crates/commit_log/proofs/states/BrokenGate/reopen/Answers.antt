use Rattle.std.proofs.Common.{refl, sym, ◌∙◌}
use Rattle.commit_log.proofs.Opens.{opening_during, reopens}
use Rattle.commit_log.proofs.states.BrokenGate.reopen.Goals as goal

pub returns-in-Ok-true-clause-during : goal.returns-in-Ok-true-clause-during
returns-in-Ok-true-clause-during g c tells = opening_during _ _ _ _ _ c.synced_gate.ensures.either refl (g.met.V.Site.inside _ _ (c.synced_gate.ensures.tells tells))

pub returns-in-Ok-false-clause-during : goal.returns-in-Ok-false-clause-during
returns-in-Ok-false-clause-during g c tells = opening_during _ _ _ _ _ c.synced_gate.ensures.either refl (g.met.V.Site.inside _ _ (c.synced_gate.ensures.tells tells))

pub returns-in-Err-clause-during : goal.returns-in-Err-clause-during
returns-in-Err-clause-during g c tells = opening_during _ _ _ _ _ c.synced_gate.ensures.either refl (g.met.V.Site.inside _ _ (c.synced_gate.ensures.tells tells))

pub returns-in-Ok-true-clause-after : goal.returns-in-Ok-true-clause-after
returns-in-Ok-true-clause-after g c tells h payloads payload broken =
    reopens _ _ _ h payloads payload _ _ _ broken c.in-Ok-true.ensures.either.ok (sym c.in-Ok-true.field-0-test ∙ c.in-Ok-true.ensures.opened tells)

pub returns-in-Ok-true-clause-opened : goal.returns-in-Ok-true-clause-opened
returns-in-Ok-true-clause-opened g c tells = sym c.in-Ok-true.field-0-test ∙ c.in-Ok-true.ensures.opened tells

pub returns-in-Ok-true-clause-place : goal.returns-in-Ok-true-clause-place
returns-in-Ok-true-clause-place g c = (refl, refl)

pub returns-in-Ok-true-clause-syncs : goal.returns-in-Ok-true-clause-syncs
returns-in-Ok-true-clause-syncs g c = record { either = c.in-Ok-true.ensures.either.either; ok = c.in-Ok-true.ensures.either.ok }

pub returns-in-Ok-true-clause-cause : goal.returns-in-Ok-true-clause-cause
returns-in-Ok-true-clause-cause g c = record { later = c.in-Ok-true.ensures.cause.later; same = c.in-Ok-true.ensures.cause.same; risen = tt }

pub returns-in-Ok-false-clause-after : goal.returns-in-Ok-false-clause-after
returns-in-Ok-false-clause-after g c tells h payloads payload broken =
    reopens _ _ _ h payloads payload _ _ _ broken c.in-Ok-false.ensures.either.ok (sym c.in-Ok-false.field-0-test ∙ c.in-Ok-false.ensures.opened tells)

pub returns-in-Ok-false-clause-opened : goal.returns-in-Ok-false-clause-opened
returns-in-Ok-false-clause-opened g c tells = sym c.in-Ok-false.field-0-test ∙ c.in-Ok-false.ensures.opened tells

pub returns-in-Ok-false-clause-place : goal.returns-in-Ok-false-clause-place
returns-in-Ok-false-clause-place g c = (refl, refl)

pub returns-in-Ok-false-clause-syncs : goal.returns-in-Ok-false-clause-syncs
returns-in-Ok-false-clause-syncs g c = record { either = c.in-Ok-false.ensures.either.either; ok = c.in-Ok-false.ensures.either.ok }

pub returns-in-Ok-false-clause-cause : goal.returns-in-Ok-false-clause-cause
returns-in-Ok-false-clause-cause g c = record { later = c.in-Ok-false.ensures.cause.later; same = c.in-Ok-false.ensures.cause.same; risen = tt }

pub returns-in-Err-clause-syncs : goal.returns-in-Err-clause-syncs
returns-in-Err-clause-syncs g c = record { either = c.in-Err.ensures.either.either; ok = tt }

pub returns-in-Err-clause-cause : goal.returns-in-Err-clause-cause
returns-in-Err-clause-cause g c = record { later = c.in-Err.ensures.cause.later; same = tt; risen = c.in-Err.ensures.cause.risen }

pub returns-in-Ok-true-clause-tells : goal.returns-in-Ok-true-clause-tells
returns-in-Ok-true-clause-tells g c = c.synced_gate.ensures.tells

pub returns-in-Ok-true-clause-say_faults : goal.returns-in-Ok-true-clause-say_faults
returns-in-Ok-true-clause-say_faults g c = c.synced_gate.ensures.say_faults

pub returns-in-Ok-true-clause-broken : goal.returns-in-Ok-true-clause-broken
returns-in-Ok-true-clause-broken g c = tt

pub returns-in-Ok-false-clause-tells : goal.returns-in-Ok-false-clause-tells
returns-in-Ok-false-clause-tells g c = c.synced_gate.ensures.tells

pub returns-in-Ok-false-clause-say_faults : goal.returns-in-Ok-false-clause-say_faults
returns-in-Ok-false-clause-say_faults g c = c.synced_gate.ensures.say_faults

pub returns-in-Ok-false-clause-broken : goal.returns-in-Ok-false-clause-broken
returns-in-Ok-false-clause-broken g c = tt

pub returns-in-Err-clause-tells : goal.returns-in-Err-clause-tells
returns-in-Err-clause-tells g c = c.synced_gate.ensures.tells

pub returns-in-Err-clause-say_faults : goal.returns-in-Err-clause-say_faults
returns-in-Err-clause-say_faults g c = c.synced_gate.ensures.say_faults

pub returns-in-Err-clause-opened : goal.returns-in-Err-clause-opened
returns-in-Err-clause-opened g c tells = tt

pub returns-in-Err-clause-place : goal.returns-in-Err-clause-place
returns-in-Err-clause-place g c = tt

pub returns-in-Err-clause-broken : goal.returns-in-Err-clause-broken
returns-in-Err-clause-broken g c = (refl, refl, refl)
