use Rattle.std.proofs.Common.{◌≡◌, ◌∙◌, inl, inr, ℕ, List, [], ◌∷◌, ◌++◌, Ok, Err, refl, ap, arith}
use Rattle.std.specs.List.{All}
use Rattle.std.proofs.lemmas.List.Elements.{All-from_recursion}
use Rattle.dura_value.specs.Dependencies.Founded.{none, one_more}
use Rattle.dura_model.specs.Partition.{fresh}
use Rattle.dura_value.specs.Items.{Entry}
use Rattle.part_items.specs.Examples.{taking}
use Rattle.dura_model.specs.Entries.{placed}
use Rattle.run_laws.specs.Examples.{empty_origin}
use Rattle.run_laws.specs.Leaves.{IsOfCall, committed}
use Rattle.run_laws.specs.Leaves.AllAnswered.{nothing_said}
use Rattle.run_laws.specs.Leaves.AllRan.{nothing_ran, frame_more}
use Rattle.run_laws.proofs.EntriesKept.{once_kept, twice_kept, none_kept, once_stands}
use Rattle.run_laws.proofs.NothingAnswered.{no_answer, nothing_settled}
use Rattle.run_rules.specs.Examples.{rules_with}
use Rattle.run_rules.specs.Rules.{EndsPending, IsBy}
use Rattle.run_laws.proofs.examples.crashes_leave_entries.Goals as goal
use Rattle.run_rules.proofs.OneOfMany.{stands_alone}
use Rattle.part_items.specs.Examples.{digest}

pub returns-clause-taken : goal.returns-clause-taken
returns-clause-taken c = λ flows. record {
  going = [];
  kept = once_kept;
  stands = once_stands flows;
  writing = inl refl;
  given = ((tt, λ next is. tt), λ next is. tt);
  ran = frame_more nothing_ran (fresh 0) refl (taking 0 ∷ []) (All-from_recursion (λ (entry : Entry). All (EndsPending (fresh 0)) entry.items) (taking 0 ∷ []) (All-from_recursion (EndsPending (fresh 0)) (taking 0).items (tt, tt), tt));
  own = All-from_recursion (IsOfCall (rules_with flows) 0) (taking 0 ∷ []) (record { incarnation = refl; timely = All-from_recursion (IsBy 0) (taking 0).items (tt, tt) }, tt);
  founded = one_more (committed (taking 0)) none (record { follows = refl; named = λ k d inside. absurd (omega (arith, inside)) });
  told = [];
  lines = [];
  part = [];
  answered = nothing_said;
  spoken = refl;
  saying = inl refl;
}

pub returns-clause-lost : goal.returns-clause-lost
returns-clause-lost c = λ flows left. cc (none_kept, left.kept)

pub returns-clause-kept : goal.returns-clause-kept
returns-clause-kept c = λ flows left. cc (none_kept, left.kept)

pub returns-clause-accepted : goal.returns-clause-accepted
returns-clause-accepted c = λ flows left.
    let stood = stands_alone flows digest _ _ left.stands in
    let entries : taking 0 ∷ taking 1 ∷ [] ≡ stood.entries = cc (twice_kept, stood.kept) in
    let wrong : Err 1 ≡ Ok stood.state = ap (placed flows 1 (fresh 0)) entries ∙ stood.all in
    cc wrong

pub returns-clause-of_call : goal.returns-clause-of_call
returns-clause-of_call c = λ flows left. let own = left.own 0 (taking 0) (omega arith) in omega (arith, own.incarnation)

-- what is kept of one entry that wasn't settled is under way
pub returns-clause-unwritten : goal.returns-clause-unwritten
returns-clause-unwritten c = λ flows left.
    let going : taking 0 ∷ [] ≡ left.going = cc (once_kept, left.kept) in
    elim left.writing [
      | inl nothing ↦ cc (going, nothing)
      | inr gate ↦ cc gate.last
    ]

pub returns-clause-answering : goal.returns-clause-answering
returns-clause-answering c = λ flows left.
    let none : left.lines ≡ [] = nothing_settled (rules_with flows) empty_origin refl left.told left.lines left.answered in
    let part : 97 ∷ [] ≡ left.part = left.spoken ∙ ap (λ (l : List ℕ). l ++ left.part) none in
    elim left.saying [
      | inl empty ↦ cc (part, empty)
      | inr half ↦ no_answer (rules_with flows) empty_origin refl left.told half.one half.line half.answered
    ]
