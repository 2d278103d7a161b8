use Rattle.std.proofs.Common.{inl, refl, ◌∙◌, arith}
use Rattle.commit_log.proofs.Opens.{opening_during}
use Rattle.commit_log.proofs.opening.open_log.Goals as goal

pub returns-in-Err-clause-during : goal.returns-in-Err-clause-during
returns-in-Err-clause-during g c tells = opening_during _ _ _ _ _ c.synced_length.ensures.either refl (g.met.V.Site.inside _ _ (c.synced_length.ensures.tells tells))

pub returns-in_err-header-clause-during : goal.returns-in_err-header-clause-during
returns-in_err-header-clause-during g c tells =
    opening_during _ _ _ _ _ c.synced_length.ensures.either c.read_front.ensures.unchanged (g.met.V.Site.inside _ _ (c.synced_length.ensures.tells (c.read_front.ensures.tells tells)))

pub returns-clause-during : goal.returns-clause-during
returns-clause-during g c tells =
    opening_during _ _ _ _ _ c.synced_length.ensures.either c.read_front.ensures.unchanged (g.met.V.Site.inside _ _ (c.synced_length.ensures.tells (c.read_front.ensures.tells tells)))

pub returns-in-Err-clause-opens : goal.returns-in-Err-clause-opens
returns-in-Err-clause-opens g c tells = tt

pub returns-in-Err-clause-syncs : goal.returns-in-Err-clause-syncs
returns-in-Err-clause-syncs g c = c.synced_length.ensures.either.either

pub returns-in-Err-clause-fault : goal.returns-in-Err-clause-fault
returns-in-Err-clause-fault g c is = c.in-Err.ensures.cause.risen

pub returns-in-Err-clause-later : goal.returns-in-Err-clause-later
returns-in-Err-clause-later g c = c.in-Err.ensures.cause.later

pub returns-in_err-header-clause-syncs : goal.returns-in_err-header-clause-syncs
returns-in_err-header-clause-syncs g c = inl (c.read_front.ensures.unchanged ∙ c.in-Ok.ensures.either.ok)

pub returns-in_err-header-clause-later : goal.returns-in_err-header-clause-later
returns-in_err-header-clause-later g c = omega (arith, c.in-Ok.ensures.cause.same, c.read_front.ensures.later)

pub returns-clause-syncs : goal.returns-clause-syncs
returns-clause-syncs g c = inl (c.read_front.ensures.unchanged ∙ c.in-Ok.ensures.either.ok)

pub returns-clause-later : goal.returns-clause-later
returns-clause-later g c = omega (arith, c.in-Ok.ensures.cause.same, c.read_front.ensures.later)
