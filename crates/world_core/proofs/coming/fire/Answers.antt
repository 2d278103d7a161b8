use Rattle.std.proofs.Common.{max, sym, subst, ◌∙◌}
use Rattle.cell_frames.proofs.Stays.{same_reads}
use Rattle.cell_frames.specs.Joined.{StoreView, view_of}
use Rattle.world_core.proofs.Worlds.{alive_by, still_heard, raised, is_world}
use Rattle.world_steps.specs.Cells.{AllJoined}
use Rattle.world_core.proofs.coming.fire.Goals as goal

pub returns-clause-stands : goal.returns-clause-stands
returns-clause-stands g c =
    let rules = g.M.Picked.rules in
    let old = c.args.store.now in
    let new = c.raise.new.self in
    let r = c.raise.ensures in
    let view = raised old new (max old.logs.latest c.args.now) r.latest r.trail r.told r.ways r.ledgers in
    alive_by rules _ c.requires.stands _ c.fire_at.ensures.many (still_heard rules (view_of old) (view_of new) c.args.life.now.marks.items (λ source reader. same_reads rules source (view_of old) (view_of new) r.trail reader) c.requires.stands.heard)
    (r.halted ∙ c.requires.stands.going c.requires.going) (r.whole ∙ c.requires.stands.whole c.requires.going)
    (subst (λ (s : StoreView). AllJoined rules s c.fire_at.new.cells.items) (sym view) (c.fire_at.ensures.joined c.requires.silent (view_of old) (c.requires.stands.joined c.requires.going)))

pub returns-clause-makes : goal.returns-clause-makes
returns-clause-makes g c =
    let old = c.args.store.now in
    let new = c.raise.new.self in
    let r = c.raise.ensures in
    let view = raised old new (max old.logs.latest c.args.now) r.latest r.trail r.told r.ways r.ledgers in
    (is_world old new _ view r.halted r.whole r.segment r.ways c.args.life.now.cells.items c.fire_at.new.cells.items c.args.life.now.packets.items c.args.life.now.marks.items c.args.life.now.ended, c.fire_at.ensures.fires (view_of old) (c.requires.stands.joined c.requires.going))
