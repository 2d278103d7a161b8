use Rattle.std.proofs.Common.{◌≡◌, ℕ, ap, arith}
use Rattle.dura_model.specs.Partition.{Partition}
use Rattle.many_examples.proofs.placing_examples.logs_placed.Goals as goal

pub returns-clause-states : goal.returns-clause-states
returns-clause-states c = λ flows rest has. let at : 1 ≡ 0 = ap (λ (states : ℕ → Partition). (states 0).position) has.states in omega (arith, at)
