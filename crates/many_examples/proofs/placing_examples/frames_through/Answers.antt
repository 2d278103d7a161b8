use Rattle.std.proofs.Common.{refl}
use Rattle.many_examples.proofs.placing_examples.frames_through.Goals as goal

pub returns-clause-behind : goal.returns-clause-behind
returns-clause-behind c = λ flows. (_, refl)
