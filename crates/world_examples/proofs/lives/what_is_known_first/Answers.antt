use Rattle.std.proofs.Common.{[], ◌∷◌, refl}
use Rattle.world_examples.proofs.Known.{known_with, not_settled}
use Rattle.world_examples.specs.Courses.{beside}
use Rattle.world_examples.proofs.lives.what_is_known_first.Goals as goal

pub returns-clause-known : goal.returns-clause-known
returns-clause-known c = λ marks knows. known_with [] [] marks refl knows

pub returns-clause-settled : goal.returns-clause-settled
returns-clause-settled c = λ steps marks knows. known_with (beside ∷ []) [] marks refl knows

pub returns-clause-said : goal.returns-clause-said
returns-clause-said c = λ one steps marks knows. known_with [] (one ∷ []) marks refl knows

pub returns-clause-more : goal.returns-clause-more
returns-clause-more c = not_settled
