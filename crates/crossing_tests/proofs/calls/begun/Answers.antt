use Rattle.std.proofs.Common.{ℕ, List, ap, ◌∙◌}
use Rattle.dura_value.specs.Items.{Floor}
use Rattle.crossing_tests.proofs.Begun.{no_floors, none_there}
use Rattle.crossing_tests.proofs.calls.begun.Goals as goal

pub returns : goal.returns
returns g c =
    let e = c.in-Ok.ensures in record {
      kept = e.kept;
      whole = e.whole;
      floors = λ p. ap (λ (f : ℕ → List Floor). f p) e.floors ∙ no_floors c.both-ledgers.result.items c.both-ledgers.ensures.each p;
      each = none_there c.in-Ok.store e.rest e.trail;
    }
