use Rattle.std.proofs.Common.{refl}
use Rattle.world_core.proofs.Worlds.{alive, over, get_contains}
use Rattle.world_core.proofs.coming.trim.Goals as goal

pub returns-in-Ok-clause-stands : goal.returns-in-Ok-clause-stands
returns-in-Ok-clause-stands g c =
    alive g.M.Picked.rules _ c.requires.stands _ _ c.requires.going c.trim_at.ensures.many (c.in-Ok.ensures.joined _ (λ read inside. c.requires.stands.heard c.marks_at.result.now read (get_contains c.args.life.now.marks.items c.args.marks c.marks_at.result.now c.marks_at.ensures) inside))

pub returns-in-Err-clause-stands : goal.returns-in-Err-clause-stands
returns-in-Err-clause-stands g c = over g.M.Picked.rules _ c.requires.stands _ _ _ refl c.trim_at.ensures.many
