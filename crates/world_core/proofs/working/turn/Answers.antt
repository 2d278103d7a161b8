use Rattle.std.proofs.Common.{refl, sym, subst, arith}
use Rattle.world_core.proofs.Worlds.{alive, over_by}
use Rattle.world_core.specs.World.{Stands, world}
use Rattle.world_core.proofs.working.turn.Goals as goal

pub turn_at-requires-clause-bound : goal.turn_at-requires-clause-bound
turn_at-requires-clause-bound g c = let most = c.requires.stands.most in let few = c.requires.most in omega (arith, most, few)

pub returns-in-Ok-clause-stands : goal.returns-in-Ok-clause-stands
returns-in-Ok-clause-stands g c = alive g.M.Picked.rules _ c.requires.stands _ _ c.requires.going c.turn_at.ensures.many (c.in-Ok-Turned.ensures.joined _)

pub returns-in-Ok-Held-clause-stands : goal.returns-in-Ok-Held-clause-stands
returns-in-Ok-Held-clause-stands g c = alive g.M.Picked.rules _ c.requires.stands _ _ c.requires.going c.turn_at.ensures.many (c.in-Ok-Held.ensures.joined _)

pub returns-in-Ok-Idle-clause-stands : goal.returns-in-Ok-Idle-clause-stands
returns-in-Ok-Idle-clause-stands g c = alive g.M.Picked.rules _ c.requires.stands _ _ c.requires.going c.turn_at.ensures.many (c.in-Ok-Idle.ensures.joined _)

pub returns-in-Ok-Spent-clause-stands : goal.returns-in-Ok-Spent-clause-stands
returns-in-Ok-Spent-clause-stands g c = alive g.M.Picked.rules _ c.requires.stands _ _ c.requires.going c.turn_at.ensures.many (c.in-Ok-Spent.ensures.joined _)

pub returns-in-Err-note_packets-clause-stands : goal.returns-in-Err-note_packets-clause-stands
returns-in-Err-note_packets-clause-stands g c = subst (λ l. Stands g.M.Picked.rules (world c.args.store.now l.cells.items l.packets.items l.marks.items l.ended)) (sym c.out_of_memory.ensures.over)
    (over_by g.M.Picked.rules _ c.requires.stands _ refl c.turn_at.ensures.many (c.requires.stands.heard))

pub returns-in-Err-clause-stands : goal.returns-in-Err-clause-stands
returns-in-Err-clause-stands g c = subst (λ l. Stands g.M.Picked.rules (world c.args.store.now l.cells.items l.packets.items l.marks.items l.ended)) (sym c.out_of_memory-in-Err.ensures.over)
    (over_by g.M.Picked.rules _ c.requires.stands _ refl c.turn_at.ensures.many (c.requires.stands.heard))
