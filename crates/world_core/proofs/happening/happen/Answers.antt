use Rattle.std.proofs.Common.{◌∙◌, refl, sym, subst, ap}
use Rattle.world_core.proofs.Happened.{happened, unlooked}
use Rattle.world_core.proofs.Worlds.{over_by}
use Rattle.world_core.specs.World.{Stands, world}
use Rattle.world_core.proofs.happening.happen.Goals as goal

pub returns-in-Ok-false-clause-happens : goal.returns-in-Ok-false-clause-happens
returns-in-Ok-false-clause-happens g c =
    happened g.M.Picked.rules c.args.life.now.mode (world c.args.store.now c.args.life.now.cells.items c.args.life.now.packets.items c.args.life.now.marks.items c.args.life.now.ended) (world c.make.new.store c.make.new.life.cells.items c.make.new.life.packets.items c.make.new.life.marks.items c.make.new.life.ended) c.args.life.now.nodes c.args.event c.make.result c.if-life.false (sym c.in-Ok-false.ensures.nothing ∙ c.in-Ok-false.field-0-test) c.make.ensures.makes

pub returns-in-Err-clause-stands : goal.returns-in-Err-clause-stands
returns-in-Err-clause-stands g c =
    subst (λ l. Stands g.M.Picked.rules (world c.args.store.now l.cells.items l.packets.items l.marks.items l.ended)) (sym c.out_of_memory.ensures.over) (over_by g.M.Picked.rules _ c.requires.stands (world c.args.store.now _ _ _ _) refl refl c.requires.stands.heard)

pub returns-in-Err-clause-happens : goal.returns-in-Err-clause-happens
returns-in-Err-clause-happens g c =
    unlooked g.M.Picked.rules c.args.life.now.mode (world c.args.store.now c.args.life.now.cells.items c.args.life.now.packets.items c.args.life.now.marks.items c.args.life.now.ended) (world c.args.store.now c.out_of_memory.new.life.cells.items c.out_of_memory.new.life.packets.items c.out_of_memory.new.life.marks.items c.out_of_memory.new.life.ended) c.args.life.now.nodes c.args.event c.out_of_memory.result c.out_of_memory.ensures.memory c.in-Err.ensures.only (record { ended = ap (λ l. l.ended) c.out_of_memory.ensures.over; store = refl })
