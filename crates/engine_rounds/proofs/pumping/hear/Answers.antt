use Rattle.std.proofs.Common.{max}
use Rattle.engine_rounds.proofs.Heard.{heard_goes, heard_runs, raised}
use Rattle.engine_rounds.proofs.pumping.hear.Goals as goal

pub returns-clause-goes : goal.returns-clause-goes
returns-clause-goes g c = let r = c.raise.ensures in heard_goes c.args.store.now c.raise.new.self g.M.Picked.rules c.args.now r.site r.segment r.latest r.trail

pub returns-clause-running : goal.returns-clause-running
returns-clause-running g c =
    let old = c.args.store.now in
    let new = c.raise.new.self in
    let r = c.raise.ensures in
    let heard = c.fire_all.ensures in
    heard_runs old new g.M.Picked.origin g.M.Picked.rules c.args.cells.now.items c.fire_all.new.cells.items c.args.now c.requires.running r.kept (raised old new (max old.logs.latest c.args.now) r.latest r.trail r.told r.ways r.ledgers) r.halted r.whole heard.many
    c.requires.none heard.heard
