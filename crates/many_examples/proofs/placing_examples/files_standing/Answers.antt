use Rattle.std.proofs.Common.{◌≡◌, ◌∙◌, ℕ, List, [], ◌∷◌, Option, Some, None, codes, refl, sym, ap, subst, arith}
use Rattle.std.specs.Prelude.{option_map}
use Rattle.dura_model.specs.Legal.{Legal}
use Rattle.dura_model.specs.Partition.{Partition, fresh, shown}
use Rattle.dura_model.specs.Steps.{Label, take}
use Rattle.dura_model.specs.World.{World}
use Rattle.dura_value.specs.Ids.{client}
use Rattle.dura_value.specs.Items.{Entry}
use Rattle.dura_value.specs.Messages.{Message}
use Rattle.many_examples.proofs.Placings.{of_two, none_stand, taken_stands, astray_kept, none_beside, stays}
use Rattle.many_logs.specs.Placing.{commit_accepted}
use Rattle.part_items.specs.Examples.{taking, request}
use Rattle.many_examples.proofs.placing_examples.files_standing.Goals as goal

pub returns-clause-none : goal.returns-clause-none
returns-clause-none c = none_stand

pub returns-clause-taken : goal.returns-clause-taken
returns-clause-taken c = taken_stands

-- a partition's next entry where it has none
never : {X : Type 0} (entries more : List Entry) (entry : Entry) → entries ≡ [] → entries ≡ entry ∷ more → X
never entries more entry none first = absurd (cc (none, first))

-- what a client took of a world, where there is one
first_taken : Option World → Option (Option Message)
first_taken = option_map (λ w. w.taken (client (codes "a")) 1)

pub returns-clause-unkept : goal.returns-clause-unkept
unfolding first_taken
returns-clause-unkept c = λ flows stands.
    let first : [] ≡ stands.logs 0 = cc (stands.kept 0 (omega arith)) in
    let second : [] ≡ stands.logs 1 = cc (stands.kept 1 (omega arith)) in
    let placed = stays flows stands.logs (of_two _ (λ entry more is. never (stands.logs 0) more entry (sym first) is) (λ entry more is. never (stands.logs 1) more entry (sym second) is)) in
    let run : List Label = take (client (codes "a")) 1 request ∷ [] in
    let legal : Legal flows run (shown flows 2 fresh) = subst (λ (s : ℕ → Partition). Legal flows run (shown flows 2 s)) placed.states stands.legal in
    let wrong : Some (Some request) ≡ Some None = ap first_taken legal in
    cc wrong

pub returns-clause-left : goal.returns-clause-left
returns-clause-left c = λ flows run stands.
    let first : taking 0 ∷ [] ≡ stands.logs 0 = cc (astray_kept, stands.kept 0 (omega arith)) in
    let second : [] ≡ stands.logs 1 = cc (none_beside, stands.kept 1 (omega arith)) in
    let refused : (entry : Entry) (more : List Entry) → stands.logs 0 ≡ entry ∷ more → commit_accepted flows 2 fresh 0 entry ≡ None = λ entry more is.
    let same : taking 0 ≡ entry = cc (first, is) in
    subst (λ (e : Entry). commit_accepted flows 2 fresh 0 e ≡ None) same refl in
    let placed = stays flows stands.logs (of_two _ refused (λ entry more is. never (stands.logs 1) more entry (sym second) is)) in
    let left : stands.logs 0 ≡ [] = sym (placed.left 0 (omega arith)) ∙ stands.none_left 0 (omega arith) in
    cc (first, left)
