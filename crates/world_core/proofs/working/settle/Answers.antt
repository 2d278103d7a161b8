use Rattle.std.proofs.Common.{◌∙◌, refl, sym, subst}
use Rattle.cell_frames.specs.Joined.{view_of}
use Rattle.world_core.proofs.Settling.{settled_becomes}
use Rattle.world_core.proofs.Worlds.{alive_by, over_by, still_heard, heard_noted, heard_same, same_world}
use Rattle.world_core.specs.Happens.{HasSettledFrame}
use Rattle.world_core.specs.World.{WorldView, Stands, world}
use Rattle.world_core.specs.declared.answer.Answer.TheVariants as answers
use Rattle.world_core.proofs.working.settle.Goals as goal

pub settle_at-requires-clause-joined : goal.settle_at-requires-clause-joined
settle_at-requires-clause-joined g c = c.requires.stands.joined c.requires.going

pub returns-in-Err-SiteFault-clause-stands : goal.returns-in-Err-SiteFault-clause-stands
returns-in-Err-SiteFault-clause-stands g c =
    subst (λ l. Stands g.M.Picked.rules (world c.settle_at.new.store l.cells.items l.packets.items l.marks.items l.ended)) (sym c.failed.ensures.over) (over_by g.M.Picked.rules _ c.requires.stands (world c.settle_at.new.store _ _ _ _) refl c.settle_at.ensures.many (still_heard g.M.Picked.rules (view_of c.args.store.now) (view_of c.settle_at.new.store) c.args.life.now.marks.items c.settle_at.ensures.reads c.requires.stands.heard))

pub returns-in-Err-Memory-clause-stands : goal.returns-in-Err-Memory-clause-stands
returns-in-Err-Memory-clause-stands g c =
    subst (λ l. Stands g.M.Picked.rules (world c.settle_at.new.store l.cells.items l.packets.items l.marks.items l.ended)) (sym c.out_of_memory.ensures.over) (over_by g.M.Picked.rules _ c.requires.stands (world c.settle_at.new.store _ _ _ _) refl c.settle_at.ensures.many (still_heard g.M.Picked.rules (view_of c.args.store.now) (view_of c.settle_at.new.store) c.args.life.now.marks.items c.settle_at.ensures.reads c.requires.stands.heard))

pub returns-in-Err-clause-stands : goal.returns-in-Err-clause-stands
returns-in-Err-clause-stands g c =
    subst (λ l. Stands g.M.Picked.rules (world c.settle_at.new.store l.cells.items l.packets.items l.marks.items l.ended)) (sym c.out_of_memory-in-Err.ensures.over) (over_by g.M.Picked.rules _ c.requires.stands (world c.settle_at.new.store _ _ _ _) refl c.settle_at.ensures.many (still_heard g.M.Picked.rules (view_of c.args.store.now) (view_of c.settle_at.new.store) c.args.life.now.marks.items c.settle_at.ensures.reads c.requires.stands.heard))

pub returns-in-Err-note_marks-clause-stands : goal.returns-in-Err-note_marks-clause-stands
returns-in-Err-note_marks-clause-stands g c =
    subst (λ l. Stands g.M.Picked.rules (world c.note_marks.new.store l.cells.items l.packets.items l.marks.items l.ended)) (sym c.out_of_memory-in-Err-note_marks.ensures.over) (subst (Stands g.M.Picked.rules) (same_world c.settle_at.new.store c.note_marks.new.store c.note_marks.ensures.logs c.note_marks.ensures.ledgers _ _ _ _) (over_by g.M.Picked.rules _ c.requires.stands (world c.settle_at.new.store _ _ _ _) refl c.settle_at.ensures.many (heard_same g.M.Picked.rules (view_of c.settle_at.new.store) c.args.life.now.marks.items _ c.in-Err-note_marks.ensures.same (still_heard g.M.Picked.rules (view_of c.args.store.now) (view_of c.settle_at.new.store) c.args.life.now.marks.items c.settle_at.ensures.reads c.requires.stands.heard))))

pub returns-in-Ok-note_marks-clause-stands : goal.returns-in-Ok-note_marks-clause-stands
returns-in-Ok-note_marks-clause-stands g c =
    subst (Stands g.M.Picked.rules) (same_world c.settle_at.new.store c.note_marks.new.store c.note_marks.ensures.logs c.note_marks.ensures.ledgers _ _ _ _) (alive_by g.M.Picked.rules _ c.requires.stands (world c.settle_at.new.store _ _ _ _) c.settle_at.ensures.many (heard_noted g.M.Picked.rules (view_of c.settle_at.new.store) c.args.life.now.marks.items _ c.in-Ok-note_marks.ensures.noted (still_heard g.M.Picked.rules (view_of c.args.store.now) (view_of c.settle_at.new.store) c.args.life.now.marks.items c.settle_at.ensures.reads c.requires.stands.heard)) (c.settle_at.ensures.halts (λ same. cc (same, c.in-Ok.is))) (c.settle_at.ensures.keeps.logs.whole ∙ c.requires.stands.whole c.requires.going) (c.settle_at.ensures.joined (λ same. cc (same, c.in-Ok.is))))

pub returns-in-Ok-note_marks-clause-makes : goal.returns-in-Ok-note_marks-clause-makes
returns-in-Ok-note_marks-clause-makes g c =
    subst (λ (w : WorldView). HasSettledFrame g.M.Picked.rules c.args.life.now.mode c.args.part (world c.args.store.now c.args.life.now.cells.items c.args.life.now.packets.items c.args.life.now.marks.items c.args.life.now.ended) w answers.Settled) (same_world c.settle_at.new.store c.note_marks.new.store c.note_marks.ensures.logs c.note_marks.ensures.ledgers c.settle_at.new.cells.items c.note_packets.new.sent.items c.note_marks.new.marks.items c.args.life.now.ended)
    (c.settle_at.ensures.open (λ same. cc (same, c.in-Ok.is)), (c.in-Ok.packets, c.in-Ok-note_packets.ensures, settled_becomes g.M.Picked.rules c.args.part c.args.life.now.mode (view_of c.args.store.now) (view_of c.settle_at.new.store) _ _ c.settle_at.result c.in-Ok.packets c.in-Ok.is c.settle_at.ensures.settles, c.in-Ok-note_marks.ensures.noted))
