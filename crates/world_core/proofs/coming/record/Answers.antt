use Rattle.world_core.proofs.Worlds.{alive, over, no_both}
use Rattle.std.proofs.Common.{refl}
use Rattle.world_core.proofs.coming.record.Goals as goal

pub returns-in-Ok-Recorded-clause-stands : goal.returns-in-Ok-Recorded-clause-stands
returns-in-Ok-Recorded-clause-stands g c = alive g.M.Picked.rules _ c.requires.stands _ _ c.requires.going c.record_at.ensures.many (c.in-Ok-Recorded.ensures.joined _ (λ serves. no_both g.M.Picked.rules.serves serves c.requires.silent))

pub returns-in-Ok-NotPending-clause-stands : goal.returns-in-Ok-NotPending-clause-stands
returns-in-Ok-NotPending-clause-stands g c = alive g.M.Picked.rules _ c.requires.stands _ _ c.requires.going c.record_at.ensures.many (c.in-Ok-NotPending.ensures.joined _ (λ serves. no_both g.M.Picked.rules.serves serves c.requires.silent))

pub returns-in-Err-clause-stands : goal.returns-in-Err-clause-stands
returns-in-Err-clause-stands g c = over g.M.Picked.rules _ c.requires.stands _ _ _ refl c.record_at.ensures.many
