use Rattle.std.proofs.Common.{arith}
use Rattle.site_calls.specs.Failures.{is_disk_failure, is_say_failure}
use Rattle.site_calls.proofs.Failures.{counted_once, fails_through}
use Rattle.site_calls.proofs.Tells.{told_before, says_longer, says_inside_still}
use Rattle.site_calls.proofs.site.CalledSiteSite.say.Goals as goal

pub invariant_of-self : goal.invariant_of-self
invariant_of-self g c =
    let unseen = g.S.Start.unseen in
    let site = c.args.self.now in
    let done = c.print_line-outcome.ensures.done unseen in
    record {
      knows = c.print_line-outcome.ensures.known unseen site.knows;
      inside = λ tells.
          let before = told_before unseen _ _ (c.print_line-outcome.ensures.tells unseen) (says_longer _ _ _ c.args.line.now done) tells in
          says_inside_still _ _ _ c.args.line.now done (site.inside before);
      say_calls = counted_once is_say_failure _ _ c.placed-outcome.result _ _ c.noted.ensures.once
          (fails_through is_say_failure _ _ c.print_line-outcome.result c.placed-outcome.result _ _ c.placed-outcome.ensures c.print_line-outcome.ensures.failure) site.say_calls;
      disk_calls = omega (arith, site.disk_calls, c.print_line-outcome.ensures.failure.kept is_disk_failure);
    }

pub returns-clause-tells : goal.returns-clause-tells
returns-clause-tells g c tells =
    let unseen = g.S.Start.unseen in
    let done = c.print_line-outcome.ensures.done unseen in
    told_before unseen _ _ (c.print_line-outcome.ensures.tells unseen) (says_longer _ _ _ c.args.line.now done) tells
