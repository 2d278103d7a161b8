use Rattle.std.proofs.Common.{[], refl, arith}
use Rattle.many_examples.specs.Pairs.{taking}
use Rattle.many_examples.proofs.placing_examples.entries_stuck.Goals as goal

pub returns-clause-taken : goal.returns-clause-taken
returns-clause-taken c = λ flows stuck. cc (stuck 1 (omega arith) taking.entry [] refl)
