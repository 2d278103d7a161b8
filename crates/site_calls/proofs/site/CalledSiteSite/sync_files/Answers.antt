use Rattle.std.proofs.Common.{arith}
use Rattle.site_calls.specs.Failures.{is_disk_failure, is_say_failure}
use Rattle.site_calls.proofs.Failures.{counted_once}
use Rattle.site_calls.proofs.Tells.{told_before, syncs_all_longer, syncs_all_inside_still}
use Rattle.site_calls.proofs.site.CalledSiteSite.sync_files.Goals as goal

pub invariant_of-self : goal.invariant_of-self
invariant_of-self g c =
    let unseen = g.S.Start.unseen in
    let site = c.args.self.now in
    let done = c.sync_files-outcome.ensures.done unseen site.knows in
    record {
      knows = c.sync_files-outcome.ensures.known unseen site.knows;
      inside = λ tells.
          let before = told_before unseen _ _ (c.sync_files-outcome.ensures.tells unseen) (syncs_all_longer _ _ _ c.args.files.now done) tells in
          syncs_all_inside_still _ _ _ c.args.files.now done (site.inside before);
      disk_calls = counted_once is_disk_failure _ _ c.sync_files-outcome.result _ _ c.noted.ensures.once c.sync_files-outcome.ensures.failure site.disk_calls;
      say_calls = omega (arith, site.say_calls, c.sync_files-outcome.ensures.failure.kept is_say_failure);
    }

pub returns-clause-tells : goal.returns-clause-tells
returns-clause-tells g c tells =
    let unseen = g.S.Start.unseen in
    let done = c.sync_files-outcome.ensures.done unseen c.args.self.now.knows in
    told_before unseen _ _ (c.sync_files-outcome.ensures.tells unseen) (syncs_all_longer _ _ _ c.args.files.now done) tells
