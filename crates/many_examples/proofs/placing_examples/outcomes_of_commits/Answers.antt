use Rattle.std.proofs.Common.{◌≡◌, true, false, codes, refl}
use Rattle.dura_value.specs.declared.data.Value.TheVariants as values
use Rattle.many_examples.proofs.placing_examples.outcomes_of_commits.Goals as goal

pub returns-clause-done : goal.returns-clause-done
returns-clause-done c = λ flows given.
    let wrong : false ≡ true = given.0.0 (record { name = codes "add"; argument = values.Null }) refl in
    cc wrong
