use Rattle.std.proofs.Common.{◌≡◌, ◌∙◌, ℕ, [], ◌∷◌, ◌++◌, refl, ap, subst, arith}
use Rattle.cell_frames.proofs.Calls.{no_more, base_here, floor_here}
use Rattle.cell_frames.proofs.Cells.{reset_joined}
use Rattle.cell_frames.specs.Beginning.{BeginsAt}
use Rattle.cell_frames.specs.Joined.{view_of}
use Rattle.cell_frames.specs.Unlost.{floor_of}
use Rattle.commit_gate.specs.Views.{floors_of}
use Rattle.commit_gate.specs.Ledgers.{log_length}
use Rattle.dura_value.specs.Items.{Floor}
use Rattle.hub_store.specs.Changes.{stage_at, going_at, trail_in, told_in}
use Rattle.hub_store.specs.Trail.{of_part}
use Rattle.many_rules.specs.Ledgers.{ledgers}
use Rattle.part_steps.specs.States.{state_of}
use Rattle.spec_cell.specs.Moves.{CellResets, IsReset}
use Rattle.cell_frames.proofs.owning.reset_cell.Goals as goal

pub restart-requires-clause-above : goal.restart-requires-clause-above
restart-requires-clause-above g c =
    let long = base_here g.M.Picked.origin g.M.Picked.rules c.requires.begun (view_of c.args.store.now) c.args.part c.requires.place c.args.cell.now c.requires.joined.goes (state_of c.in-Some.base.now) c.in-Some.ensures.base in
    let at = c.position-floor.ensures in
    let out = no_more (view_of c.args.store.now) c.args.part c.args.cell.now c.requires.joined.out in
    let none = c.requires.rests in
    omega (arith, long, at, out, none)

pub returns-in-Ok-clause-joined : goal.returns-in-Ok-clause-joined
returns-in-Ok-clause-joined g c =
    let rules = g.M.Picked.rules in
    let cell = c.args.cell.now in
    let old = c.args.store.now in
    let new = c.restart.new.self in
    let after = c.reset.new.self in
    let logs = c.restart.ensures.logs in
    let facts = c.if-not-is_going.ensures.facts refl in
    let from = c.position-floor.result in
    let reset = subst (λ r. CellResets from cell r after) c.in-Ok-Done.field-0-is c.in-Ok-Done.ensures.resets in
    let long = base_here g.M.Picked.origin rules c.requires.begun (view_of old) c.args.part c.requires.place cell c.requires.joined.goes facts.base facts.settled in
    let number = ap (λ v. v.number) reset.becomes ∙ c.requires.joined.goes.number in
    let floors = c.in-Ok.ensures.floors ∙ ap (λ (f : Floor). floors_of old.ledgers.items c.args.part ++ f ∷ []) (floor_here c.args.part c.incarnation.result from after number c.incarnation.ensures) in
    let rests = c.requires.joined.out.rests c.requires.rests in
    reset_joined rules c.args.part (view_of old) (view_of new) (ap (λ l. l.latest) logs) (ap told_in logs) (ap trail_in logs) cell after from floors rules.count (rules.begin cell.number) facts long c.requires.joined reset
    (ap (λ l. stage_at l c.args.part) logs ∙ rests.0) (ap (λ l. going_at l c.args.part) logs ∙ rests.1)

pub returns-in-Ok-clause-gives_up : goal.returns-in-Ok-clause-gives_up
returns-in-Ok-clause-gives_up g c =
    let rules = g.M.Picked.rules in
    let cell = c.args.cell.now in
    let old = c.args.store.now in
    let new = c.restart.new.self in
    let after = c.reset.new.self in
    let from = c.position-floor.result in
    let reset = subst (λ r. CellResets from cell r after) c.in-Ok-Done.field-0-is c.in-Ok-Done.ensures.resets in
    let number = ap (λ v. v.number) reset.becomes ∙ c.requires.joined.goes.number in
    let floors = c.in-Ok.ensures.floors ∙ ap (λ (f : Floor). floors_of old.ledgers.items c.args.part ++ f ∷ []) (floor_here c.args.part c.incarnation.result from after number c.incarnation.ensures) in
    let same : from ≡ log_length (ledgers rules c.args.part (of_part c.args.part (trail_in old.logs))) = c.position-floor.ensures ∙ base_here g.M.Picked.origin rules c.requires.begun (view_of old) c.args.part c.requires.place cell c.requires.joined.goes (state_of c.in-Some.base.now) c.in-Some.ensures.base in
    let logs = c.restart.ensures.logs in
    let begins : BeginsAt c.args.part (floor_of after from) (view_of old) (view_of new) = record {
      own = floors;
      others = c.restart.ensures.others;
      rest = λ i. record { latest = (logs i).latest; trail = trail_in (logs i); told = told_in (logs i); going = going_at (logs i); stage = stage_at (logs i); floors = floors_of new.ledgers.items };
    } in
    subst (λ (n : ℕ). IsReset n cell after × BeginsAt c.args.part (floor_of after n) (view_of old) (view_of new)) same (reset, begins)
