use Rattle.std.proofs.Common.{arith, sym, subst}
use Rattle.site_calls.specs.Known.{Knows}
use Rattle.site_calls.specs.Failures.{is_disk_failure, is_say_failure}
use Rattle.site_calls.proofs.Failures.{counted_once, fails_through}
use Rattle.site_calls.proofs.Tells.{told_still}
use Rattle.site_calls.proofs.site.CalledSiteSite.read.Goals as goal
use Rattle.site_model.specs.History.{AllInside}

pub invariant_of-self : goal.invariant_of-self
invariant_of-self g c =
    let unseen = g.S.Start.unseen in
    let site = c.args.self.now in
    let still = c.read_file-outcome.ensures.still unseen in
    record {
      knows = subst (Knows site.known) (sym still) site.knows;
      inside = λ tells. subst (λ m. AllInside m.steps) (sym still) (site.inside (told_still unseen _ _ (c.read_file-outcome.ensures.tells unseen) still tells));
      disk_calls = counted_once is_disk_failure _ _ c.placed-outcome.result _ _ c.noted.ensures.once
          (fails_through is_disk_failure _ _ c.read_file-outcome.result c.placed-outcome.result _ _ c.placed-outcome.ensures c.read_file-outcome.ensures.failure) site.disk_calls;
      say_calls = omega (arith, site.say_calls, c.read_file-outcome.ensures.failure.kept is_say_failure);
    }

pub returns-clause-tells : goal.returns-clause-tells
returns-clause-tells g c tells =
    let unseen = g.S.Start.unseen in
    told_still unseen _ _ (c.read_file-outcome.ensures.tells unseen) (c.read_file-outcome.ensures.still unseen) tells
