use Rattle.world_core.proofs.Brought.{brought}
use Rattle.world_core.proofs.Worlds.{alive, over}
use Rattle.std.proofs.Common.{refl}
use Rattle.world_core.proofs.coming.arrive.Goals as goal

pub returns-in-Ok-Queued-clause-stands : goal.returns-in-Ok-Queued-clause-stands
returns-in-Ok-Queued-clause-stands g c = alive g.M.Picked.rules _ c.requires.stands _ _ c.requires.going c.arrive_at.ensures.many (c.in-Ok-Queued.ensures.joined _)

pub returns-in-Ok-Repeat-clause-stands : goal.returns-in-Ok-Repeat-clause-stands
returns-in-Ok-Repeat-clause-stands g c = alive g.M.Picked.rules _ c.requires.stands _ _ c.requires.going c.arrive_at.ensures.many (c.in-Ok-Repeat.ensures.joined _)

pub returns-in-Ok-Gap-clause-stands : goal.returns-in-Ok-Gap-clause-stands
returns-in-Ok-Gap-clause-stands g c = alive g.M.Picked.rules _ c.requires.stands _ _ c.requires.going c.arrive_at.ensures.many (c.in-Ok-Gap.ensures.joined _)

pub returns-in-Err-clause-stands : goal.returns-in-Err-clause-stands
returns-in-Err-clause-stands g c = over g.M.Picked.rules _ c.requires.stands _ _ _ refl c.arrive_at.ensures.many

pub returns-in-Ok-Queued-clause-makes : goal.returns-in-Ok-Queued-clause-makes
returns-in-Ok-Queued-clause-makes g c =
    (refl, (c.packet_at.result.now, c.packet_at.ensures, brought g.M.Picked.rules c.in-Ok.copy c.packet_at.result.now c.in-Ok.ensures c.args.part _ _ c.in-Ok-Queued.field-0 _ c.in-Ok-Queued.field-0-is c.in-Ok-Queued.ensures.arrives))

pub returns-in-Ok-Repeat-clause-makes : goal.returns-in-Ok-Repeat-clause-makes
returns-in-Ok-Repeat-clause-makes g c =
    (refl, (c.packet_at.result.now, c.packet_at.ensures, brought g.M.Picked.rules c.in-Ok.copy c.packet_at.result.now c.in-Ok.ensures c.args.part _ _ c.in-Ok-Repeat.field-0 _ c.in-Ok-Repeat.field-0-is c.in-Ok-Repeat.ensures.arrives))

pub returns-in-Ok-Gap-clause-makes : goal.returns-in-Ok-Gap-clause-makes
returns-in-Ok-Gap-clause-makes g c =
    (refl, (c.packet_at.result.now, c.packet_at.ensures, brought g.M.Picked.rules c.in-Ok.copy c.packet_at.result.now c.in-Ok.ensures c.args.part _ _ c.in-Ok-Gap.field-0 _ c.in-Ok-Gap.field-0-is c.in-Ok-Gap.ensures.arrives))
