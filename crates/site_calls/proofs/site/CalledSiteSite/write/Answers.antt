use Rattle.std.proofs.Common.{arith}
use Rattle.site_calls.specs.Failures.{is_disk_failure, is_say_failure}
use Rattle.site_calls.proofs.Failures.{counted_once, fails_through}
use Rattle.site_calls.proofs.Tells.{told_before, writes_longer, writes_inside_still}
use Rattle.site_calls.proofs.site.CalledSiteSite.write.Goals as goal

pub invariant_of-self : goal.invariant_of-self
invariant_of-self g c =
    let unseen = g.S.Start.unseen in
    let site = c.args.self.now in
    let done = c.write_file-outcome.ensures.done unseen in
    record {
      knows = c.write_file-outcome.ensures.known unseen site.knows;
      inside = λ tells.
          let before = told_before unseen _ _ (c.write_file-outcome.ensures.tells unseen) (writes_longer _ _ _ c.args.file c.args.at c.args.bytes.now done) tells in
          writes_inside_still _ _ _ c.args.file c.args.at c.args.bytes.now done (c.requires before) (site.inside before);
      disk_calls = counted_once is_disk_failure _ _ c.placed-outcome.result _ _ c.noted.ensures.once
          (fails_through is_disk_failure _ _ c.write_file-outcome.result c.placed-outcome.result _ _ c.placed-outcome.ensures c.write_file-outcome.ensures.failure) site.disk_calls;
      say_calls = omega (arith, site.say_calls, c.write_file-outcome.ensures.failure.kept is_say_failure);
    }

pub returns-clause-tells : goal.returns-clause-tells
returns-clause-tells g c tells =
    let unseen = g.S.Start.unseen in
    let done = c.write_file-outcome.ensures.done unseen in
    told_before unseen _ _ (c.write_file-outcome.ensures.tells unseen) (writes_longer _ _ _ c.args.file c.args.at c.args.bytes.now done) tells
