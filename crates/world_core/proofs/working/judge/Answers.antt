use Rattle.std.proofs.Common.{◌∙◌, refl, sym, subst, ap}
use Rattle.cell_frames.proofs.Stays.{same_reads}
use Rattle.cell_frames.specs.Joined.{view_of}
use Rattle.hub_store.specs.Changes.{trail_in}
use Rattle.world_core.proofs.Settling.{judged_becomes}
use Rattle.world_core.proofs.Worlds.{alive_by, over_by, still_heard, heard_noted, heard_same, same_world, logs_world}
use Rattle.world_core.specs.Happens.{HasJudged}
use Rattle.world_core.specs.World.{WorldView, Stands, world}
use Rattle.world_core.specs.declared.answer.Answer.TheVariants as answers
use Rattle.world_core.proofs.working.judge.Goals as goal

pub judge_at-requires-clause-joined : goal.judge_at-requires-clause-joined
judge_at-requires-clause-joined g c = c.requires.stands.joined c.requires.going

pub returns-in-Ok-Kept-clause-stands : goal.returns-in-Ok-Kept-clause-stands
returns-in-Ok-Kept-clause-stands g c =
    alive_by g.M.Picked.rules _ c.requires.stands _ c.judge_at.ensures.many (still_heard g.M.Picked.rules (view_of c.args.store.now) (view_of c.judge_at.new.store) c.args.life.now.marks.items (λ source reader. same_reads g.M.Picked.rules source (view_of c.args.store.now) (view_of c.judge_at.new.store) (ap trail_in c.judge_at.ensures.logs) reader) c.requires.stands.heard) (ap (λ l. l.halted) c.judge_at.ensures.logs ∙ c.requires.stands.going c.requires.going) (ap (λ l. l.cut) c.judge_at.ensures.logs ∙ c.requires.stands.whole c.requires.going) c.in-Ok-Kept.ensures.joined

pub returns-in-Ok-Kept-clause-makes : goal.returns-in-Ok-Kept-clause-makes
returns-in-Ok-Kept-clause-makes g c =
    let says = judged_becomes g.M.Picked.rules c.args.part c.marks_at.result.now (view_of c.args.store.now) (view_of c.judge_at.new.store) _ _ c.in-Ok-Kept.field-0 _ c.in-Ok-Kept.field-0-is c.in-Ok-Kept.ensures.judges in
    (logs_world c.args.store.now c.judge_at.new.store (view_of c.args.store.now) says.does.1 c.judge_at.ensures.logs c.args.life.now.cells.items _ _ _ _, (c.marks_at.result.now, c.marks_at.ensures, says))

pub returns-in-Ok-Spent-clause-stands : goal.returns-in-Ok-Spent-clause-stands
returns-in-Ok-Spent-clause-stands g c =
    alive_by g.M.Picked.rules _ c.requires.stands _ c.judge_at.ensures.many (still_heard g.M.Picked.rules (view_of c.args.store.now) (view_of c.judge_at.new.store) c.args.life.now.marks.items (λ source reader. same_reads g.M.Picked.rules source (view_of c.args.store.now) (view_of c.judge_at.new.store) (ap trail_in c.judge_at.ensures.logs) reader) c.requires.stands.heard) (ap (λ l. l.halted) c.judge_at.ensures.logs ∙ c.requires.stands.going c.requires.going) (ap (λ l. l.cut) c.judge_at.ensures.logs ∙ c.requires.stands.whole c.requires.going) c.in-Ok-Spent.ensures.joined

pub returns-in-Ok-Spent-clause-makes : goal.returns-in-Ok-Spent-clause-makes
returns-in-Ok-Spent-clause-makes g c =
    let says = judged_becomes g.M.Picked.rules c.args.part c.marks_at.result.now (view_of c.args.store.now) (view_of c.judge_at.new.store) _ _ c.in-Ok-Spent.field-0 _ c.in-Ok-Spent.field-0-is c.in-Ok-Spent.ensures.judges in
    (logs_world c.args.store.now c.judge_at.new.store (view_of c.args.store.now) says.does.1 c.judge_at.ensures.logs c.args.life.now.cells.items _ _ _ _, (c.marks_at.result.now, c.marks_at.ensures, says))

pub returns-in-Err-note_marks-clause-stands : goal.returns-in-Err-note_marks-clause-stands
returns-in-Err-note_marks-clause-stands g c =
    subst (λ l. Stands g.M.Picked.rules (world c.note_marks.new.store l.cells.items l.packets.items l.marks.items l.ended)) (sym c.out_of_memory.ensures.over) (subst (Stands g.M.Picked.rules) (same_world c.judge_at.new.store c.note_marks.new.store c.note_marks.ensures.logs c.note_marks.ensures.ledgers _ _ _ _) (over_by g.M.Picked.rules _ c.requires.stands (world c.judge_at.new.store _ _ _ _) refl c.judge_at.ensures.many (heard_same g.M.Picked.rules (view_of c.judge_at.new.store) c.args.life.now.marks.items _ c.in-Err-note_marks.ensures.same (still_heard g.M.Picked.rules (view_of c.args.store.now) (view_of c.judge_at.new.store) c.args.life.now.marks.items (λ source reader. same_reads g.M.Picked.rules source (view_of c.args.store.now) (view_of c.judge_at.new.store) (ap trail_in c.judge_at.ensures.logs) reader) c.requires.stands.heard))))

pub returns-in-Err-clause-stands : goal.returns-in-Err-clause-stands
returns-in-Err-clause-stands g c =
    subst (λ l. Stands g.M.Picked.rules (world c.judge_at.new.store l.cells.items l.packets.items l.marks.items l.ended)) (sym c.out_of_memory-in-Err.ensures.over) (over_by g.M.Picked.rules _ c.requires.stands (world c.judge_at.new.store _ _ _ _) refl c.judge_at.ensures.many (still_heard g.M.Picked.rules (view_of c.args.store.now) (view_of c.judge_at.new.store) c.args.life.now.marks.items (λ source reader. same_reads g.M.Picked.rules source (view_of c.args.store.now) (view_of c.judge_at.new.store) (ap trail_in c.judge_at.ensures.logs) reader) c.requires.stands.heard))

pub returns-in-Ok-clause-stands : goal.returns-in-Ok-clause-stands
returns-in-Ok-clause-stands g c =
    subst (Stands g.M.Picked.rules) (same_world c.judge_at.new.store c.note_marks.new.store c.note_marks.ensures.logs c.note_marks.ensures.ledgers _ _ _ _) (alive_by g.M.Picked.rules _ c.requires.stands (world c.judge_at.new.store _ _ _ _) c.judge_at.ensures.many (heard_noted g.M.Picked.rules (view_of c.judge_at.new.store) c.args.life.now.marks.items _ c.in-Ok.ensures.noted (still_heard g.M.Picked.rules (view_of c.args.store.now) (view_of c.judge_at.new.store) c.args.life.now.marks.items (λ source reader. same_reads g.M.Picked.rules source (view_of c.args.store.now) (view_of c.judge_at.new.store) (ap trail_in c.judge_at.ensures.logs) reader) c.requires.stands.heard)) (ap (λ l. l.halted) c.judge_at.ensures.logs ∙ c.requires.stands.going c.requires.going) (ap (λ l. l.cut) c.judge_at.ensures.logs ∙ c.requires.stands.whole c.requires.going) c.in-Ok-Rewound.ensures.joined)

pub returns-in-Ok-clause-makes : goal.returns-in-Ok-clause-makes
returns-in-Ok-clause-makes g c =
    subst (λ (w : WorldView). HasJudged g.M.Picked.rules c.args.part c.args.marks (world c.args.store.now c.args.life.now.cells.items c.args.life.now.packets.items c.args.life.now.marks.items c.args.life.now.ended) w (answers.Rewound c.in-Ok-Rewound.floor c.in-Ok-Rewound.dep)) (same_world c.judge_at.new.store c.note_marks.new.store c.note_marks.ensures.logs c.note_marks.ensures.ledgers c.judge_at.new.cells.items c.args.life.now.packets.items c.note_marks.new.marks.items c.args.life.now.ended)
    (c.marks_at.result.now, c.marks_at.ensures, judged_becomes g.M.Picked.rules c.args.part c.marks_at.result.now (view_of c.args.store.now) (view_of c.judge_at.new.store) _ _ c.in-Ok-Rewound.field-0 _ c.in-Ok-Rewound.field-0-is c.in-Ok-Rewound.ensures.judges, c.in-Ok.ensures.noted, refl)
