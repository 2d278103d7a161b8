use Rattle.std.proofs.Common.{ap, length, arith}
use Rattle.cell_waits.specs.Waits.{waits_of}
use Rattle.cell_steps.proofs.Filled.{looks_both}
use Rattle.cell_steps.proofs.turning.fill_waits_first.Goals as goal

pub fill-requires : goal.fill-requires
fill-requires g c = record { way = (c.in_ok-first.ensures.on c.args.now).on.way }

pub returns-clause-on : goal.returns-clause-on
returns-clause-on g c =
    let w1 = waits_of c.put_waits.new.waits in
    looks_both (g.R.Reactions.flows c.args.reactions.now) c.args.now c.args.begun c.in_ok-first.first c.in_ok-second.second (waits_of c.args.waits.now) w1 w1 (c.in_ok-first.ensures.on c.args.now) (c.in_ok-second.ensures.on w1)

pub returns-clause-few : goal.returns-clause-few
returns-clause-few g c =
    let none = ap length c.requires.empty in
    let within = c.requires.within in
    let first = c.in_ok-first.ensures.few (omega (arith, none)) in
    c.in_ok-second.ensures.few (omega (arith, first, within))

pub returns-clause-first : goal.returns-clause-first
returns-clause-first g c = let none = ap length c.requires.empty in let some = c.requires.some in c.in_ok-first.ensures.first (omega (arith, none, some))
