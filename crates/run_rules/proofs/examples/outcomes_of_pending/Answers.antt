use Rattle.std.proofs.Common.{[], ◌∷◌, refl, arith}
use Rattle.std.specs.List.{All}
use Rattle.std.proofs.lemmas.List.Elements.{All-from_recursion}
use Rattle.dura_model.specs.Partition.{fresh}
use Rattle.dura_value.specs.Items.{Entry, took, ended}
use Rattle.part_items.specs.Examples.{request, taking}
use Rattle.run_rules.specs.Examples.{summing, adding, ending}
use Rattle.run_rules.specs.Rules.{EndsPending}
use Rattle.run_rules.proofs.examples.outcomes_of_pending.Goals as goal

pub returns-clause-there : goal.returns-clause-there
returns-clause-there c = λ outcome. All-from_recursion (λ (entry : Entry). All (EndsPending adding) entry.items) (ending 0 outcome ∷ [])
    (All-from_recursion (EndsPending adding) (ended summing 3 outcome ∷ []) (refl, tt), tt)

pub returns-clause-early : goal.returns-clause-early
returns-clause-early c = λ outcome pending. cc (pending 1 (taking 0) (omega arith) 0 (took request) (omega arith))

pub returns-clause-taken : goal.returns-clause-taken
returns-clause-taken c = All-from_recursion (λ (entry : Entry). All (EndsPending (fresh 0)) entry.items) (taking 0 ∷ [])
    (All-from_recursion (EndsPending (fresh 0)) (took request ∷ []) (tt, tt), tt)
