use Rattle.std.proofs.Common.{◌∙◌, refl, sym, subst, ap}
use Rattle.cell_frames.proofs.Stays.{same_reads}
use Rattle.cell_frames.specs.Joined.{view_of}
use Rattle.hub_store.specs.Ways.{stage_of, going_in}
use Rattle.world_core.proofs.Worlds.{frame_world, alive_by, over_by, still_heard}
use Rattle.world_core.specs.World.{Stands, world}
use Rattle.world_core.proofs.working.sync_body.Goals as goal

pub returns-in-Ok-clause-stands : goal.returns-in-Ok-clause-stands
returns-in-Ok-clause-stands g c = alive_by g.M.Picked.rules _ c.requires.stands _ refl (still_heard g.M.Picked.rules (view_of c.args.store.now) (view_of c.sync_frame.new.store) c.args.life.now.marks.items (λ source reader. same_reads g.M.Picked.rules source (view_of c.args.store.now) (view_of c.sync_frame.new.store) c.sync_frame.ensures.trail reader) c.requires.stands.heard)
    c.in-Ok.ensures.still (c.sync_frame.ensures.keeps.logs.whole ∙ c.requires.stands.whole c.requires.going) (c.in-Ok.ensures.joined _ (c.requires.stands.joined c.requires.going))

pub returns-in-Err-SiteFault-clause-stands : goal.returns-in-Err-SiteFault-clause-stands
returns-in-Err-SiteFault-clause-stands g c = subst (λ l. Stands g.M.Picked.rules (world c.sync_frame.new.store l.cells.items l.packets.items l.marks.items l.ended)) (sym c.failed.ensures.over)
    (over_by g.M.Picked.rules _ c.requires.stands _ refl refl (still_heard g.M.Picked.rules (view_of c.args.store.now) (view_of c.sync_frame.new.store) c.args.life.now.marks.items (λ source reader. same_reads g.M.Picked.rules source (view_of c.args.store.now) (view_of c.sync_frame.new.store) c.sync_frame.ensures.trail reader) c.requires.stands.heard))

pub returns-in-Ok-clause-makes : goal.returns-in-Ok-clause-makes
returns-in-Ok-clause-makes g c =
    (c.sync_frame.ensures.bodied (λ same. cc (same, c.in-Ok.is)), record { stage_is = c.in-Ok.ensures.ok; frame = c.sync_frame.ensures.frame; others = λ other apart. let same = c.sync_frame.ensures.keeps.logs.others other apart in (ap stage_of same, ap going_in same); rest = (frame_world c.args.store.now c.sync_frame.new.store c.args.part c.sync_frame.ensures.keeps c.sync_frame.ensures.trail (c.in-Ok.ensures.still ∙ sym (c.requires.stands.going c.requires.going)) _ _ _ _) })
