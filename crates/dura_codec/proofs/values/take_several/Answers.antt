use Rattle.std.proofs.Common.{arith}
use Rattle.std.proofs.lemmas.Result.{err_from_is_err_and}
use Rattle.dura_codec.specs.Fields.{several_at}
use Rattle.dura_codec.specs.Grammar.{scalar_at}
use Rattle.dura_codec.proofs.Several.{goes_on, ends, is_done}
use Rattle.dura_codec.proofs.values.take_several.Goals as goal

pub returns-in_err-scalar-clause-takes : goal.returns-in_err-scalar-clause-takes
returns-in_err-scalar-clause-takes c =
    let p = err_from_is_err_and c.from_residual.result c.from_residual.ensures.1 in
    rw (p.1, p.2) (ends scalar_at c.in_err-scalar.field-0.0 c.loop.scalars.items c.args.count c.loop.counter c.loop.rest.now (several_at scalar_at c.args.count c.args.bytes.now) c.loop-test.true c.in_err-scalar.ensures.takes c.loop.invariant.reads)

pub loop-preserved : goal.loop-preserved
loop-preserved c = record {
  reads = rw c.in_ok-push.ensures.items (goes_on scalar_at c.loop.scalars.items c.args.count c.loop.counter c.loop.rest.now c.in_ok-scalar.scalar c.in_ok-scalar.after.now (several_at scalar_at c.args.count c.args.bytes.now) c.loop-test.true c.in_ok-scalar.ensures.takes c.loop.invariant.reads);
  within = omega (arith, c.in_ok-scalar.ensures.within);
}

pub returns-clause-takes : goal.returns-clause-takes
returns-clause-takes c = is_done scalar_at c.loop.scalars.items c.args.count c.loop.counter c.loop.rest.now (several_at scalar_at c.args.count c.args.bytes.now) c.loop-test.false c.loop.invariant.reads
