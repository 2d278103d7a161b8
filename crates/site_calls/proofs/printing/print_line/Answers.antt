use Rattle.std.proofs.Common.{arith}
use Rattle.site_calls.specs.Events.{replay}
use Rattle.site_calls.proofs.Events.{told_told}
use Rattle.site_calls.proofs.PrintInParts.{said_more, known_said}
use Rattle.site_calls.proofs.printing.print_line.Goals as goal

pub returns-in_err-count-clause-tells : goal.returns-in_err-count-clause-tells
returns-in_err-count-clause-tells g c = told_told _ _ _ c.loop-done.invariant.told c.in_err-count.ensures.tells

pub loop-done-preserved : goal.loop-done-preserved
loop-done-preserved g c =
    let noted = c.in_ok-count.ensures.noted in
    let old = g.C.Calls.events c.loop-done.calls in
    let new = g.C.Calls.events c.print_some.new.calls in
    record {
      within = c.in_ok-count.ensures.count;
      told = told_told _ _ _ c.loop-done.invariant.told c.in_ok-count.ensures.tells;
      known = λ unseen knows.
          known_said c.loop-done.done c.in_ok-count.count c.args.line.now unseen c.loop-done.known c.count_steps.new.self old new
          c.in_ok-count.ensures.count noted c.count_steps.ensures (c.loop-done.invariant.known unseen knows);
      said = λ unseen.
          said_more c.loop-done.done c.in_ok-count.count c.args.line.now unseen (replay unseen (g.C.Calls.events c.args.calls.now)).steps old new noted (c.loop-done.invariant.said unseen);
      kept = λ is_such. omega (arith, c.loop-done.invariant.kept is_such, c.in_ok-count.ensures.failure.kept is_such);
    }
