use Rattle.std.proofs.Common.{arith, sym, subst, ap}
use Rattle.site_calls.specs.Events.{replay}
use Rattle.site_calls.specs.Known.{Knows}
use Rattle.site_calls.proofs.FirstSteps.{inside_start_of}
use Rattle.site_calls.proofs.site.CalledSite.new.Goals as goal
use Rattle.site_model.specs.History.{AllInside}

pub invariant_of-result : goal.invariant_of-result
invariant_of-result g c =
    let none = ap (replay g.S.Start.unseen) (sym c.requires) in
    record {
      knows = subst (Knows c.at_start.result) none (c.at_start.ensures g.S.Start.unseen);
      inside = λ told. subst (λ m. AllInside m.steps) none (inside_start_of g.S.Start.unseen.files);
      disk_calls = omega arith;
      say_calls = omega arith;
    }
