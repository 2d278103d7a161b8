use Rattle.std.proofs.Common.{◌∙◌, [], ◌∷◌, ◌++◌, refl, ap, subst, arith}
use Rattle.cell_frames.proofs.Calls.{no_more, base_here, floor_here}
use Rattle.cell_frames.proofs.Cells.{rewound_above, rewound_joined, kept_joined}
use Rattle.cell_frames.specs.Joined.{view_of}
use Rattle.dura_value.specs.Items.{Floor}
use Rattle.commit_gate.specs.Views.{floors_of}
use Rattle.hub_store.specs.Changes.{stage_at, going_at, trail_in, told_in}
use Rattle.spec_cell.specs.Moves.{CellRewinds}
use Rattle.spec_tracker.specs.Marks.{identity_of}
use Rattle.cell_frames.proofs.judging.judge_cell.Goals as goal

pub restart-requires-clause-above : goal.restart-requires-clause-above
restart-requires-clause-above g c =
    let rules = g.M.Picked.rules in
    let cell = c.args.cell.now in
    let facts = c.if-not-is_going.ensures.facts refl in
    let rewound = subst (λ r. CellRewinds rules.flows rules.count (rules.begin cell.number) c.args.marks.now cell r c.rewind.new.self) c.in-Ok-Rewound.field-0-is c.in-Ok-Rewound.ensures.rewinds in
    let above = rewound_above rules.flows rules.count (rules.begin cell.number) cell c.rewind.new.self facts c.args.marks.now c.in-Ok-Rewound.floor (identity_of c.in-Ok-Rewound.dep) rewound in
    let long = base_here g.M.Picked.origin rules c.requires.begun (view_of c.args.store.now) c.args.part c.requires.place cell c.requires.joined.goes facts.base facts.settled in
    let out = no_more (view_of c.args.store.now) c.args.part cell c.requires.joined.out in
    omega (arith, above, long, out)

pub returns-in-Ok-Kept-clause-joined : goal.returns-in-Ok-Kept-clause-joined
returns-in-Ok-Kept-clause-joined g c =
    let rules = g.M.Picked.rules in
    let cell = c.args.cell.now in
    let kept = subst (λ r. CellRewinds rules.flows rules.count (rules.begin cell.number) c.args.marks.now cell r c.rewind.new.self) c.in-Ok-Kept.field-0-is c.in-Ok-Kept.ensures.rewinds in
    kept_joined rules c.args.part (view_of c.args.store.now) cell c.rewind.new.self rules.count (rules.begin cell.number) c.args.marks.now kept c.requires.joined

pub returns-in-Ok-clause-joined : goal.returns-in-Ok-clause-joined
returns-in-Ok-clause-joined g c =
    let rules = g.M.Picked.rules in
    let cell = c.args.cell.now in
    let old = c.args.store.now in
    let new = c.restart.new.self in
    let after = c.rewind.new.self in
    let logs = c.restart.ensures.logs in
    let facts = c.if-not-is_going.ensures.facts refl in
    let from = c.in-Ok-Rewound.floor in
    let rewound = subst (λ r. CellRewinds rules.flows rules.count (rules.begin cell.number) c.args.marks.now cell r after) c.in-Ok-Rewound.field-0-is c.in-Ok-Rewound.ensures.rewinds in
    let long = base_here g.M.Picked.origin rules c.requires.begun (view_of old) c.args.part c.requires.place cell c.requires.joined.goes facts.base facts.settled in
    let number = ap (λ v. v.number) rewound.becomes ∙ c.requires.joined.goes.number in
    let floors = c.in-Ok.ensures.floors ∙ ap (λ (f : Floor). floors_of old.ledgers.items c.args.part ++ f ∷ []) (floor_here c.args.part c.incarnation.result from after number c.incarnation.ensures) in
    rewound_joined rules c.args.part (view_of old) (view_of new) (ap (λ l. l.latest) logs) (ap told_in logs) (ap trail_in logs) cell after from floors rules.count (rules.begin cell.number) facts long c.requires.joined
    c.args.marks.now (identity_of c.in-Ok-Rewound.dep) rewound (ap (λ l. stage_at l c.args.part) logs) (ap (λ l. going_at l c.args.part) logs)
