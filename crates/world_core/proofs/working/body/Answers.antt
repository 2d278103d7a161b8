use Rattle.std.proofs.Common.{◌∙◌, true, false, Ok, Err, refl, sym, subst, ap}
use Rattle.cell_frames.proofs.Stays.{same_reads}
use Rattle.cell_frames.specs.Joined.{view_of}
use Rattle.world_core.proofs.Worlds.{alive_by, over_by, still_heard}
use Rattle.world_core.proofs.Written.{written, full_written, full_is_no_fault}
use Rattle.world_core.specs.World.{Stands, world}
use Rattle.world_core.proofs.working.body.Goals as goal

pub write_at-requires-clause-joined : goal.write_at-requires-clause-joined
write_at-requires-clause-joined g c = c.requires.stands.joined c.requires.going

pub returns-in-Ok-true-clause-stands : goal.returns-in-Ok-true-clause-stands
returns-in-Ok-true-clause-stands g c =
    alive_by g.M.Picked.rules _ c.requires.stands _ c.write_at.ensures.many (still_heard g.M.Picked.rules (view_of c.args.store.now) (view_of c.write_at.new.store) c.args.life.now.marks.items (λ source reader. same_reads g.M.Picked.rules source (view_of c.args.store.now) (view_of c.write_at.new.store) (c.write_at.ensures.trail) reader) c.requires.stands.heard) (c.write_at.ensures.halts (λ same. cc (same, c.in-Ok-true.is))) (c.write_at.ensures.keeps.logs.whole ∙ c.requires.stands.whole c.requires.going) c.write_at.ensures.joined

pub returns-in-Ok-false-clause-stands : goal.returns-in-Ok-false-clause-stands
returns-in-Ok-false-clause-stands g c =
    alive_by g.M.Picked.rules _ c.requires.stands _ c.write_at.ensures.many (still_heard g.M.Picked.rules (view_of c.args.store.now) (view_of c.write_at.new.store) c.args.life.now.marks.items (λ source reader. same_reads g.M.Picked.rules source (view_of c.args.store.now) (view_of c.write_at.new.store) (c.write_at.ensures.trail) reader) c.requires.stands.heard) (c.write_at.ensures.halts (λ same. cc (same, c.in-Ok-false.is))) (c.write_at.ensures.keeps.logs.whole ∙ c.requires.stands.whole c.requires.going) c.write_at.ensures.joined

pub returns-in-Err-Full-clause-stands : goal.returns-in-Err-Full-clause-stands
returns-in-Err-Full-clause-stands g c =
    alive_by g.M.Picked.rules _ c.requires.stands _ c.write_at.ensures.many (still_heard g.M.Picked.rules (view_of c.args.store.now) (view_of c.write_at.new.store) c.args.life.now.marks.items (λ source reader. same_reads g.M.Picked.rules source (view_of c.args.store.now) (view_of c.write_at.new.store) (c.write_at.ensures.trail) reader) c.requires.stands.heard) (c.write_at.ensures.halts (full_is_no_fault c.write_at.result _ c.in-Err-Full.length (c.in-Err-Full.is ∙ ap Err c.in-Err-Full.field-0-is))) (c.write_at.ensures.keeps.logs.whole ∙ c.requires.stands.whole c.requires.going) c.write_at.ensures.joined

pub returns-in-Err-SiteFault-clause-stands : goal.returns-in-Err-SiteFault-clause-stands
returns-in-Err-SiteFault-clause-stands g c =
    subst (λ l. Stands g.M.Picked.rules (world c.write_at.new.store l.cells.items l.packets.items l.marks.items l.ended)) (sym c.failed.ensures.over) (over_by g.M.Picked.rules _ c.requires.stands (world c.write_at.new.store _ _ _ _) refl c.write_at.ensures.many (still_heard g.M.Picked.rules (view_of c.args.store.now) (view_of c.write_at.new.store) c.args.life.now.marks.items (λ source reader. same_reads g.M.Picked.rules source (view_of c.args.store.now) (view_of c.write_at.new.store) (c.write_at.ensures.trail) reader) c.requires.stands.heard))

pub returns-in-Err-Memory-clause-stands : goal.returns-in-Err-Memory-clause-stands
returns-in-Err-Memory-clause-stands g c =
    subst (λ l. Stands g.M.Picked.rules (world c.write_at.new.store l.cells.items l.packets.items l.marks.items l.ended)) (sym c.out_of_memory.ensures.over) (over_by g.M.Picked.rules _ c.requires.stands (world c.write_at.new.store _ _ _ _) refl c.write_at.ensures.many (still_heard g.M.Picked.rules (view_of c.args.store.now) (view_of c.write_at.new.store) c.args.life.now.marks.items (λ source reader. same_reads g.M.Picked.rules source (view_of c.args.store.now) (view_of c.write_at.new.store) (c.write_at.ensures.trail) reader) c.requires.stands.heard))

pub returns-in-Ok-true-clause-makes : goal.returns-in-Ok-true-clause-makes
returns-in-Ok-true-clause-makes g c =
    (c.marks_at.result.now, c.marks_at.ensures, written g.M.Picked.rules c.args.part c.marks_at.result.now (view_of c.args.store.now) (view_of c.write_at.new.store) _ _ c.write_at.result true (c.in-Ok-true.is ∙ ap Ok c.in-Ok-true.field-0-test) c.write_at.ensures.writes, (refl, refl))

pub returns-in-Ok-false-clause-makes : goal.returns-in-Ok-false-clause-makes
returns-in-Ok-false-clause-makes g c =
    (c.marks_at.result.now, c.marks_at.ensures, written g.M.Picked.rules c.args.part c.marks_at.result.now (view_of c.args.store.now) (view_of c.write_at.new.store) _ _ c.write_at.result false (c.in-Ok-false.is ∙ ap Ok c.in-Ok-false.field-0-test) c.write_at.ensures.writes, (refl, refl))

pub returns-in-Err-Full-clause-makes : goal.returns-in-Err-Full-clause-makes
returns-in-Err-Full-clause-makes g c =
    let is = c.in-Err-Full.is ∙ ap Err c.in-Err-Full.field-0-is in
    (c.marks_at.result.now, c.marks_at.ensures, full_written g.M.Picked.rules c.args.part c.marks_at.result.now (view_of c.args.store.now) (view_of c.write_at.new.store) _ _ _ _ c.write_at.result _ c.in-Err-Full.length is c.write_at.ensures.writes (c.write_at.ensures.full _ _ is), (refl, refl))
