use Rattle.std.proofs.Common.{◌≡◌, List, [], ◌∷◌, true, false, refl, subst, arith}
use Rattle.dura_value.specs.Dependencies.{Founded}
use Rattle.flow_syntax.specs.Machine as machine
use Rattle.many_examples.specs.Pairs.{first_entry}
use Rattle.many_examples.specs.Placings.{states_of}
use Rattle.many_examples.specs.RulesBy.{rules_with, at_once, letting_unknown, starting_sum}
use Rattle.many_examples.proofs.AtOnce.{ended_at_once}
use Rattle.many_examples.proofs.Placings.{none_in}
use Rattle.many_examples.proofs.Unfounded.{one_founded}
use Rattle.many_examples.proofs.UnderWay.{nothing_under_way, no_frames}
use Rattle.many_logs.specs.Names.{committed_in}
use Rattle.many_logs.specs.Placing.{Commit}
use Rattle.many_rules.specs.Leaves.{AllRan}
use Rattle.run_rules.specs.FieldExamples.{sum_flows}
use Rattle.run_rules.proofs.AskedSum.{sum_of_null}
use Rattle.many_examples.proofs.rules_examples.crashes_leave_no_such_entry.Goals as goal

pub returns-clause-given : goal.returns-clause-given
unfolding machine.go_on
returns-clause-given c = λ files kept.
    let later = kept.given.1 (states_of sum_flows (starting_sum ∷ []) 1) refl in
    let wrong : false ≡ true = later.0.0 sum_of_null refl in
    cc wrong

pub returns-clause-unfounded : goal.returns-clause-unfounded
returns-clause-unfounded c = λ flows. (_, refl)

pub returns-clause-ran : goal.returns-clause-ran
returns-clause-ran c = λ files left.
    let first = nothing_under_way 0 [] (left.going 0) (left.writing 0 (omega arith)) in
    let second = nothing_under_way 1 (at_once.entry ∷ []) (left.going 1) (left.writing 1 (omega arith)) in
    ended_at_once (subst (λ (l : List Commit). AllRan (rules_with sum_flows) (at_once ∷ l)) (no_frames left.going first second) left.ran)

pub returns-clause-founded : goal.returns-clause-founded
returns-clause-founded c = λ flows files left.
    let first = nothing_under_way 0 [] (left.going 0) (left.writing 0 (omega arith)) in
    let second = nothing_under_way 1 (letting_unknown.entry ∷ []) (left.going 1) (left.writing 1 (omega arith)) in
    let founded : Founded [] (committed_in (letting_unknown ∷ [])) = subst (λ (l : List Commit). Founded [] (committed_in (letting_unknown ∷ l))) (no_frames left.going first second) left.founded in
    none_in (first_entry 0) (one_founded founded _ refl 0 (first_entry 0) (omega arith))
