use Rattle.world_lives.proofs.Begins.{stands_first}
use Rattle.world_lives.proofs.NewLives.{new_first, current_first}
use Rattle.world_lives.proofs.beginning.begin_life.Goals as goal

pub returns-clause-stands : goal.returns-clause-stands
returns-clause-stands g c =
    let e = c.in_ok-marks.ensures.known in
    stands_first g.M.Picked.rules c.args.store.now c.first_known.new.store c.args.states.items c.args.incarnations.now c.in_ok-cells.cells.items c.new.result.items e.0 c.in_ok-marks.marks.items
    c.requires.begins c.requires.since c.requires.most c.requires.latest c.requires.untouched c.first_known.ensures.logs c.first_known.ensures.ledgers c.in_ok-cells.ensures.many c.in_ok-cells.ensures.begun e.2 e.1

pub returns-clause-new : goal.returns-clause-new
returns-clause-new g c =
    let e = c.in_ok-marks.ensures.known in
    new_first g.M.Picked.rules c.args.store.now c.first_known.new.store c.first_known.ensures.logs c.first_known.ensures.ledgers e.0 e.2 c.in_ok-marks.marks.items e.1 c.args.incarnations.now c.in_ok-cells.cells.items c.new.result.items 0 c.in_ok-cells.ensures.begun
    c.new.ensures.items

pub returns-clause-current : goal.returns-clause-current
returns-clause-current g c =
    let e = c.in_ok-marks.ensures.known in
    current_first g.M.Picked.rules c.args.store.now c.first_known.new.store c.first_known.ensures.logs c.first_known.ensures.ledgers e.0 e.2 c.in_ok-marks.marks.items e.1 c.in_ok-cells.cells.items c.new.result.items
