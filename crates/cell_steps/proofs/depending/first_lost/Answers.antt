use Rattle.std.proofs.Common.{◌+◌, Some, option_map, sym, subst}
use Rattle.dura_value.specs.Items.{Identity}
use Rattle.spec_tracker.specs.Marks.{identity_of}
use Rattle.cell_steps.proofs.Losing.{HasLooked, looked_one, first_is, looked_so, so_looked}
use Rattle.cell_steps.proofs.depending.first_lost.Goals as goal

pub loop-place-preserved : goal.loop-place-preserved
loop-place-preserved c =
    subst (λ (e : Identity). HasLooked c.args.marks.now c.args.number (option_map identity_of c.args.before) c.args.from c.args.steps.now (Some e) (c.loop-place.place + 1)) (sym c.name_of.ensures)
    (looked_one c.args.marks.now c.args.number (option_map identity_of c.args.before) c.args.from c.args.steps.now (option_map identity_of c.loop-place.before) c.loop-place.place c.index-steps-place.result c.loop-place.invariant c.loop-place-test.true c.index-steps-place.is
    (λ low. c.in_default.ensures.none (looked_so c.args.from c.loop-place.place low)))

pub returns-in-Some-clause-some : goal.returns-in-Some-clause-some
returns-in-Some-clause-some c =
    first_is c.args.marks.now c.args.number (option_map identity_of c.args.before) c.args.from c.args.steps.now (option_map identity_of c.loop-place.before) c.loop-place.place c.index-steps-place.result (identity_of c.in-Some.dep) c.loop-place.invariant
    c.loop-place-test.true c.index-steps-place.is (so_looked c.args.from c.loop-place.place c.in-Some.ensures.looks) c.in-Some.ensures.some.0 c.in-Some.ensures.some.1
