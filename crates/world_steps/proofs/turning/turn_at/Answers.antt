use Rattle.cell_frames.proofs.ByItself.{turned_joined}
use Rattle.spec_cell.specs.Turns.{CellTurns}
use Rattle.std.proofs.Common.{refl}
use Rattle.world_steps.proofs.Cells.{each_ok}
use Rattle.world_steps.proofs.turning.turn_at.Goals as goal

pub returns-clause-joined : goal.returns-clause-joined
returns-clause-joined g c = λ s all.
    let rules = g.M.Picked.rules in
    let cell = c.index_mut-cell.result.now in
    each_ok rules s c.args.cells.now.items c.args.part cell c.turn.new.self c.turn.result (λ turned. CellTurns rules.flows rules.count (rules.begin cell.number) c.args.mode c.args.limit cell turned c.turn.new.self)
    c.requires.place c.index_mut-cell.ensures.value c.turn.ensures.going c.turn.ensures.turns
    (λ turned is joined. turned_joined rules s c.args.part cell joined (c.if-not-is_going.ensures.facts refl) c.args.mode c.args.limit c.requires.bound turned c.turn.new.self is) all
