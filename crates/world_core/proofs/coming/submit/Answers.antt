use Rattle.world_core.proofs.Worlds.{alive, over, no_both}
use Rattle.std.proofs.Common.{refl}
use Rattle.world_core.proofs.coming.submit.Goals as goal

pub returns-in-Ok-Queued-clause-stands : goal.returns-in-Ok-Queued-clause-stands
returns-in-Ok-Queued-clause-stands g c = alive g.M.Picked.rules _ c.requires.stands _ _ c.requires.going c.offer_at.ensures.many (c.in-Ok-Queued.ensures.joined _ (λ serves. no_both g.M.Picked.rules.serves serves c.requires.silent))

pub returns-in-Ok-Taken-clause-stands : goal.returns-in-Ok-Taken-clause-stands
returns-in-Ok-Taken-clause-stands g c = alive g.M.Picked.rules _ c.requires.stands _ _ c.requires.going c.offer_at.ensures.many (c.in-Ok-Taken.ensures.joined _ (λ serves. no_both g.M.Picked.rules.serves serves c.requires.silent))

pub returns-in-Ok-Kept-clause-stands : goal.returns-in-Ok-Kept-clause-stands
returns-in-Ok-Kept-clause-stands g c = alive g.M.Picked.rules _ c.requires.stands _ _ c.requires.going c.offer_at.ensures.many (c.in-Ok-Kept.ensures.joined _ (λ serves. no_both g.M.Picked.rules.serves serves c.requires.silent))

pub returns-in-Ok-Clash-clause-stands : goal.returns-in-Ok-Clash-clause-stands
returns-in-Ok-Clash-clause-stands g c = alive g.M.Picked.rules _ c.requires.stands _ _ c.requires.going c.offer_at.ensures.many (c.in-Ok-Clash.ensures.joined _ (λ serves. no_both g.M.Picked.rules.serves serves c.requires.silent))

pub returns-in-Err-clause-stands : goal.returns-in-Err-clause-stands
returns-in-Err-clause-stands g c = over g.M.Picked.rules _ c.requires.stands _ _ _ refl c.offer_at.ensures.many
