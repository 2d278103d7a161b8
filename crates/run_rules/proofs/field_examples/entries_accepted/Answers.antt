use Rattle.std.proofs.Common.{◌≡◌, [], ◌∷◌, Ok, subst}
use Rattle.dura_model.specs.Partition.{Partition}
use Rattle.part_items.specs.Examples.{taking}
use Rattle.run_rules.specs.Examples.{request_taken}
use Rattle.dura_model.specs.Entries.{placed}
use Rattle.run_rules.proofs.FirstEntry.{first_follows}
use Rattle.run_rules.proofs.field_examples.entries_accepted.Goals as goal

pub returns-clause-first : goal.returns-clause-first
returns-clause-first c = first_follows

pub returns-clause-unmade : goal.returns-clause-unmade
returns-clause-unmade c = λ flows follows. cc follows.made

pub returns-clause-refused : goal.returns-clause-refused
returns-clause-refused c = λ flows follows.
    let made : Ok request_taken ≡ Ok follows.before = follows.made in
    let before_is : follows.before ≡ request_taken = cc made in
    let again : placed flows 1 request_taken (taking 1 ∷ []) ≡ Ok follows.after = subst (λ (p : Partition). placed flows 1 p (taking 1 ∷ []) ≡ Ok follows.after) before_is follows.accepted in
    cc again
