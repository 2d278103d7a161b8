use Rattle.std.proofs.Common.{◌≡◌, [], ◌∷◌, Ok, subst, arith}
use Rattle.dura_model.specs.Partition.{Partition}
use Rattle.dura_value.specs.Items.{took}
use Rattle.part_items.specs.Examples.{request, taking}
use Rattle.run_rules.specs.Examples.{request_taken}
use Rattle.dura_model.specs.Entries.{placed}
use Rattle.run_rules.proofs.FirstEntry.{first_follows}
use Rattle.run_rules.proofs.examples.entries_following.Goals as goal

pub returns-clause-first : goal.returns-clause-first
returns-clause-first c = first_follows

pub returns-clause-twice : goal.returns-clause-twice
returns-clause-twice c = λ flows latest told follows.
    let made : Ok request_taken ≡ Ok follows.before = follows.made in
    let before_is : follows.before ≡ request_taken = cc made in
    let again : placed flows 1 request_taken (taking 1 ∷ []) ≡ Ok follows.after = subst (λ (p : Partition). placed flows 1 p (taking 1 ∷ []) ≡ Ok follows.after) before_is follows.accepted in
    cc again

pub returns-clause-later : goal.returns-clause-later
returns-clause-later c = λ flows latest told follows. let incarnation : 0 ≡ 1 = (follows.ours 0 (taking 0) (omega arith)).incarnation in omega (arith, incarnation)

pub returns-clause-unasked : goal.returns-clause-unasked
returns-clause-unasked c = λ flows latest told follows. cc ((follows.ours 0 (taking 0) (omega arith)).asked 0 (took request) (omega arith)).asked
