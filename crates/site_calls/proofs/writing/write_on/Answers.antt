use Rattle.std.proofs.Common.{arith}
use Rattle.site_calls.specs.Events.{replay}
use Rattle.site_calls.proofs.Events.{told_told}
use Rattle.site_calls.proofs.writing.write_on.Goals as goal

pub returns-in_err-count-clause-tells : goal.returns-in_err-count-clause-tells
returns-in_err-count-clause-tells g c = told_told _ _ _ c.loop-done.invariant.told c.in_err-count.ensures.tells

pub loop-done-preserved : goal.loop-done-preserved
loop-done-preserved g c = record {
  within = c.in_ok-count.ensures.count;
  told = told_told _ _ _ c.loop-done.invariant.told c.in_ok-count.ensures.tells;
  writing = λ unseen. c.in_ok-count.ensures.writing unseen (replay unseen (g.C.Calls.events c.args.calls.now)) (c.loop-done.invariant.writing unseen);
  kept = λ is_such. omega (arith, c.loop-done.invariant.kept is_such, c.in_ok-count.ensures.failure.kept is_such);
}
