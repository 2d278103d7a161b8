use Rattle.std.proofs.Common.{◌≡◌, ◌≤◌, inl, inr, ℕ, List, [], ◌∷◌, ◌++◌, Some, refl, sym, ◌∙◌, ap, subst, arith}
use Rattle.std.specs.List.{All}
use Rattle.std.proofs.lemmas.List.Elements.{All-from_recursion}
use Rattle.commit_log.specs.Segment.{header_at}
use Rattle.dura_model.specs.Legal.{Legal}
use Rattle.dura_model.specs.Partition.{fresh}
use Rattle.dura_model.specs.World.{World, empty}
use Rattle.dura_value.specs.Dependencies.Founded.{none, one_more}
use Rattle.dura_value.specs.Ids.{client}
use Rattle.dura_value.specs.Items.{Entry, took}
use Rattle.flow_syntax.specs.Syntax.{Flows}
use Rattle.hub_store.specs.Trail.{Said}
use Rattle.many_examples.specs.RulesBy.{rules_with, taking_rules}
use Rattle.many_examples.proofs.Placings.{of_two, second_kept, none_stand, none_are_kept, taken_stands, taken_are_kept}
use Rattle.many_examples.proofs.UnderWay.{nothing_under_way}
use Rattle.many_examples.proofs.Ours.{taking_ours}
use Rattle.many_logs.specs.Labels.{labels_of_commits}
use Rattle.many_logs.specs.Placing.{Commit, of_partition, commits_at}
use Rattle.many_rules.specs.Leaves.{IsAnswered, AllAnswered}
use Rattle.many_rules.specs.Leaves.AllAnswered.{nothing_said, one_more as one_said}
use Rattle.many_rules.specs.Leaves.AllRan.{nothing_ran, frame_more}
use Rattle.many_rules.specs.Rules.{IsOurs}
use Rattle.part_items.specs.Examples.{taking, request}
use Rattle.run_rules.specs.Rules.{EndsPending}
use Rattle.many_examples.proofs.rules_examples.crashes_leave.Goals as goal

pub returns-clause-empty : goal.returns-clause-empty
returns-clause-empty c = λ flows. record {
  going = λ partition. [];
  stands = none_stand flows;
  writing = λ partition below. inl refl;
  kept = none_are_kept flows;
  ran = nothing_ran;
  own = λ partition below k d inside. absurd (omega (arith, inside));
  founded = none;
  told = [];
  lines = [];
  part = [];
  answered = nothing_said;
  spoken = refl;
  saying = inl refl;
}

pub returns-clause-taken : goal.returns-clause-taken
returns-clause-taken c = λ flows. record {
  going = λ partition. [];
  stands = taken_stands flows;
  writing = λ partition below. inl refl;
  kept = taken_are_kept flows;
  ran = frame_more nothing_ran fresh refl 1 (taking 0 ∷ [])
      (λ serves. All-from_recursion (λ (entry : Entry). All (EndsPending (fresh 1)) entry.items) (taking 0 ∷ []) (All-from_recursion (EndsPending (fresh 1)) (taking 0).items (tt, tt), tt));
  own = of_two _ (λ k d inside. absurd (omega (arith, inside)))
      (All-from_recursion (IsOurs (taking_rules flows) 0 [] 1) (taking 0 ∷ []) (taking_ours flows, tt));
  founded = one_more _ none (record { follows = refl; named = λ k d inside. absurd (omega (arith, inside)) });
  told = [];
  lines = [];
  part = [];
  answered = nothing_said;
  spoken = refl;
  saying = inl refl;
}

pub returns-clause-lost : goal.returns-clause-lost
returns-clause-lost c = λ flows left. cc (left.kept.kept 1 (omega arith))

pub returns-clause-nothing : goal.returns-clause-nothing
returns-clause-nothing c = λ flows left. cc (left.kept.kept 1 (omega arith))

pub returns-clause-damaged : goal.returns-clause-damaged
unfolding header_at
returns-clause-damaged c = λ flows left. cc (left.kept.kept 1 (omega arith))

pub returns-clause-of_call : goal.returns-clause-of_call
returns-clause-of_call c = λ flows left. let incarnation : 1 ≤ 0 = (left.own 1 (omega arith) 0 (taking 0) (omega arith)).incarnation in omega (arith, incarnation)

pub returns-clause-foreign : goal.returns-clause-foreign
returns-clause-foreign c = λ flows left. cc ((left.own 1 (omega arith) 0 (taking 0) (omega arith)).asked refl 0 (took request) (omega arith)).asked

pub returns-clause-unwritten : goal.returns-clause-unwritten
returns-clause-unwritten c = λ flows left.
    let first = nothing_under_way 0 [] (left.going 0) (left.writing 0 (omega arith)) in
    let second = nothing_under_way 1 [] (left.going 1) (left.writing 1 (omega arith)) in
    let none : of_partition 1 (commits_at 0 (left.going 0) ++ commits_at 1 (left.going 1)) ≡ [] =
    ap (λ (l : List Entry). of_partition 1 (commits_at 0 l ++ commits_at 1 (left.going 1))) first ∙ ap (λ (l : List Entry). of_partition 1 (commits_at 1 l)) second in
    let kept : Some (taking 0 ∷ []) ≡ Some (of_partition 1 (commits_at 0 (left.going 0) ++ commits_at 1 (left.going 1))) = sym second_kept ∙ left.kept.kept 1 (omega arith) in
    cc (kept, none)

pub returns-clause-unsaid : goal.returns-clause-unsaid
returns-clause-unsaid c = λ flows left. cc left.spoken

-- ---- what is said where nothing is settled

nothing_before : (before behind : List Commit) → [] ≡ before ++ behind → before ≡ []
nothing_before [] behind is = refl
nothing_before (one ∷ before) behind is = cc is

module _ (flows : Flows) where
  no_answer : (told : List Said) (one : Said) (line : List ℕ) → IsAnswered (rules_with flows) [] told one line → ⊥
  no_answer told one line it =
      let legal : Legal flows [] it.world = subst (λ (l : List Commit). Legal flows ([] ++ labels_of_commits l) it.world) (nothing_before it.before it.behind it.front) it.legal in
      let world_is : empty ≡ it.world = cc legal in
      let has : empty.answers (client one.client) one.number ≡ Some it.answer = ap (λ (w : World). w.answers (client one.client) one.number) world_is ∙ it.has in
      cc has

  nothing_settled : (told : List Said) (lines : List ℕ) → AllAnswered (rules_with flows) [] told lines → lines ≡ []
  nothing_settled told lines nothing_said = refl
  nothing_settled told lines (one_said {told = before} all one line it) = absurd (no_answer before one line it)

pub returns-clause-answering : goal.returns-clause-answering
returns-clause-answering c = λ flows left.
    let none : left.lines ≡ [] = nothing_settled flows left.told left.lines left.answered in
    let part : 97 ∷ [] ≡ left.part = left.spoken ∙ ap (λ (l : List ℕ). l ++ left.part) none in
    elim left.saying [
      | inl empty ↦ cc (part, empty)
      | inr half ↦ no_answer flows left.told half.one half.line half.answered
    ]
