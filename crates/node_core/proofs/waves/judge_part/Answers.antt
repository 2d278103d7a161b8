use Rattle.std.proofs.Common.{◌∙◌, IfOk, Ok, OnOk, ap, subst}
use Rattle.cell_frames.specs.Joined.{view_of}
use Rattle.cell_frames.specs.Judges.{Judges}
use Rattle.node_core.proofs.Frames.{judged_stay}
use Rattle.node_core.proofs.Spending.{judged_spent}
use Rattle.node_core.proofs.Steps.{runs_on, same_all}
use Rattle.world_steps.specs.Cells.{AllJoined, CellBecomes}
use Rattle.node_core.proofs.waves.judge_part.Goals as goal

pub returns-in-Ok-Kept-clause-running : goal.returns-in-Ok-Kept-clause-running
returns-in-Ok-Kept-clause-running g c =
    let h = c.judge_at.ensures in
    let rules = g.M.Picked.rules in
    let p = c.args.part in
    let old = c.args.store.now in
    let new = c.judge_at.new.store in
    let cells = c.args.cells.now.items in
    let later = c.judge_at.new.cells.items in
    let judges = subst (λ r. IfOk r (λ judged. CellBecomes p cells later (λ was after. Judges rules p c.args.marks.now (view_of old) (view_of new) was judged after))) c.in-Ok-Kept.is h.judges in
    let short = judged_stay rules p c.args.marks.now (view_of old) (view_of new) cells later _ judges c.requires.running.short in
    runs_on g.M.Picked.origin rules old new cells later c.requires.running (same_all old.logs new.logs h.logs) h.kept (ap (λ s. s.halted) h.logs ∙ c.requires.running.still) h.many short (subst (λ r. OnOk r (AllJoined rules (view_of new) later)) c.in-Ok-Kept.is h.joined)

pub returns-in-Ok-Rewound-clause-running : goal.returns-in-Ok-Rewound-clause-running
returns-in-Ok-Rewound-clause-running g c =
    let h = c.judge_at.ensures in
    let rules = g.M.Picked.rules in
    let p = c.args.part in
    let old = c.args.store.now in
    let new = c.judge_at.new.store in
    let cells = c.args.cells.now.items in
    let later = c.judge_at.new.cells.items in
    let judges = subst (λ r. IfOk r (λ judged. CellBecomes p cells later (λ was after. Judges rules p c.args.marks.now (view_of old) (view_of new) was judged after))) c.in-Ok-Rewound.is h.judges in
    let short = judged_stay rules p c.args.marks.now (view_of old) (view_of new) cells later _ judges c.requires.running.short in
    runs_on g.M.Picked.origin rules old new cells later c.requires.running (same_all old.logs new.logs h.logs) h.kept (ap (λ s. s.halted) h.logs ∙ c.requires.running.still) h.many short (subst (λ r. OnOk r (AllJoined rules (view_of new) later)) c.in-Ok-Rewound.is h.joined)

pub returns-in-Ok-Spent-clause-past : goal.returns-in-Ok-Spent-clause-past
returns-in-Ok-Spent-clause-past g c =
    let h = c.judge_at.ensures in
    let rules = g.M.Picked.rules in
    let p = c.args.part in
    let old = c.args.store.now in
    let new = c.judge_at.new.store in
    let cells = c.args.cells.now.items in
    let later = c.judge_at.new.cells.items in
    let judges = subst (λ r. IfOk r (λ judged. CellBecomes p cells later (λ was after. Judges rules p c.args.marks.now (view_of old) (view_of new) was judged after))) (c.in-Ok-Spent.is ∙ ap Ok c.in-Ok-Spent.field-0-is) h.judges in
    judged_spent rules p c.args.marks.now (view_of old) (view_of new) cells later c.in-Ok-Spent.number judges (subst (λ r. OnOk r (AllJoined rules (view_of new) later)) c.in-Ok-Spent.is h.joined)
