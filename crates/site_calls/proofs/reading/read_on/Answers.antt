use Rattle.std.proofs.Common.{arith, refl, length, ◌≤◌, ◌+◌}
use Rattle.site_calls.proofs.Events.{told_told, still_still, still_by}
use Rattle.site_calls.proofs.ReadInParts.{reading_more}
use Rattle.site_calls.proofs.reading.read_on.Goals as goal

pub returns-in_err-count-clause-tells : goal.returns-in_err-count-clause-tells
returns-in_err-count-clause-tells g c = told_told _ _ _ c.loop-done.invariant.told c.in_err-count.ensures.tells

pub returns-then-count-eq0-clause-tells : goal.returns-then-count-eq0-clause-tells
returns-then-count-eq0-clause-tells g c = told_told _ _ _ c.loop-done.invariant.told c.in_ok-count.ensures.tells

pub loop-done-preserved : goal.loop-done-preserved
loop-done-preserved g c =
    let noted = c.in_ok-count.ensures.noted in
    let old = g.C.Calls.events c.args.calls.now in
    let mid = g.C.Calls.events c.loop-done.calls in
    let new = g.C.Calls.events c.read_some.new.calls in
    let within : c.loop-done.done + c.in_ok-count.count ≤ length c.args.out.now = omega (arith, c.in_ok-count.ensures.count, c.loop-done.auto.out) in
    let fits : c.loop-done.done + c.in_ok-count.count ≤ length c.read_some.new.out = omega (arith, c.in_ok-count.ensures.count, c.read_some.auto.out) in
    record {
      within = within;
      told = told_told _ _ _ c.loop-done.invariant.told c.in_ok-count.ensures.tells;
      still = still_still old mid new c.loop-done.invariant.still (still_by _ mid new (λ unseen before. refl) noted);
      reading = λ unseen honest.
          reading_more c.args.file c.args.at (length c.loop-done.out) c.loop-done.done c.in_ok-count.count c.read_some.new.out unseen old mid new c.loop-done.invariant.still noted honest fits;
      kept = λ is_such. omega (arith, c.loop-done.invariant.kept is_such, c.in_ok-count.ensures.failure.kept is_such);
    }
