use Rattle.std.proofs.Common.{◌∙◌, refl, sym, subst, ap}
use Rattle.cell_frames.proofs.Stays.{same_reads}
use Rattle.cell_frames.specs.Joined.{view_of}
use Rattle.hub_store.specs.Ways.{stage_of, going_in}
use Rattle.world_core.proofs.Worlds.{frame_world, alive_by, over_by, still_heard}
use Rattle.world_core.specs.World.{Stands, world}
use Rattle.world_core.proofs.working.gate.Goals as goal

pub returns-in-Ok-clause-stands : goal.returns-in-Ok-clause-stands
returns-in-Ok-clause-stands g c = alive_by g.M.Picked.rules _ c.requires.stands _ refl (still_heard g.M.Picked.rules (view_of c.args.store.now) (view_of c.open_gate.new.store) c.args.life.now.marks.items (λ source reader. same_reads g.M.Picked.rules source (view_of c.args.store.now) (view_of c.open_gate.new.store) c.open_gate.ensures.trail reader) c.requires.stands.heard)
    c.in-Ok.ensures.still (c.open_gate.ensures.keeps.logs.whole ∙ c.requires.stands.whole c.requires.going) (c.in-Ok.ensures.joined _ (c.requires.stands.joined c.requires.going))

pub returns-in-Err-SiteFault-clause-stands : goal.returns-in-Err-SiteFault-clause-stands
returns-in-Err-SiteFault-clause-stands g c = subst (λ l. Stands g.M.Picked.rules (world c.open_gate.new.store l.cells.items l.packets.items l.marks.items l.ended)) (sym c.failed.ensures.over)
    (over_by g.M.Picked.rules _ c.requires.stands _ refl refl (still_heard g.M.Picked.rules (view_of c.args.store.now) (view_of c.open_gate.new.store) c.args.life.now.marks.items (λ source reader. same_reads g.M.Picked.rules source (view_of c.args.store.now) (view_of c.open_gate.new.store) c.open_gate.ensures.trail reader) c.requires.stands.heard))

pub returns-in-Ok-clause-makes : goal.returns-in-Ok-clause-makes
returns-in-Ok-clause-makes g c =
    (c.open_gate.ensures.synced (λ same. cc (same, c.in-Ok.is)), record { stage_is = c.in-Ok.ensures.ok; frame = c.open_gate.ensures.frame; others = λ other apart. let same = c.open_gate.ensures.keeps.logs.others other apart in (ap stage_of same, ap going_in same); rest = (frame_world c.args.store.now c.open_gate.new.store c.args.part c.open_gate.ensures.keeps c.open_gate.ensures.trail (c.in-Ok.ensures.still ∙ sym (c.requires.stands.going c.requires.going)) _ _ _ _) }, c.in-Ok.ensures.passes)
