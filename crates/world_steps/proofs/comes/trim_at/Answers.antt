use Rattle.std.proofs.Common.{refl}
use Rattle.world_steps.proofs.Cells.{each_ok, trimmed_joined}
use Rattle.world_steps.specs.Comes.{TrimsAt}
use Rattle.world_steps.proofs.comes.trim_at.Goals as goal

pub returns-clause-joined : goal.returns-clause-joined
returns-clause-joined g c = λ s heard all.
    let rules = g.M.Picked.rules in
    let cell = c.index_mut-cell.result.now in
    each_ok rules s c.args.cells.now.items c.args.part cell c.trim.new.self c.trim.result (λ it. TrimsAt rules c.args.marks.now it cell c.trim.new.self)
    c.requires.place c.index_mut-cell.ensures.value c.trim.ensures.going c.trim.ensures.trims
    (λ it is joined. trimmed_joined rules s c.args.part cell c.trim.new.self c.args.marks.now it c.requires.begun.made heard is joined) all
