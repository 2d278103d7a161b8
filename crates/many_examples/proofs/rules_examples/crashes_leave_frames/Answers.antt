use Rattle.std.proofs.Common.{◌≤◌, inl, inr, List, [], ◌∷◌, ◌==◌, if◌then◌else◌, refl, subst, arith}
use Rattle.std.specs.List.{All}
use Rattle.std.proofs.lemmas.List.Elements.{All-from_recursion}
use Rattle.commit_log.specs.Segment.{header_at}
use Rattle.dura_model.specs.Partition.{fresh}
use Rattle.dura_value.specs.Dependencies.{Founded}
use Rattle.dura_value.specs.Dependencies.Founded.{none, one_more}
use Rattle.dura_value.specs.Items.{Entry}
use Rattle.hub_store.specs.Moments.{WroteGate}
use Rattle.many_examples.specs.Pairs.{first_entry}
use Rattle.many_examples.specs.RulesBy.{rules_with, taking_rules, empty_log, gate_written, at_once, letting_unknown}
use Rattle.many_examples.proofs.AtOnce.{ended_at_once}
use Rattle.many_examples.proofs.Placings.{none_in, of_two, second_kept, none_stand, none_are_kept, taken_stands, taken_are_kept}
use Rattle.many_examples.proofs.UnderWay.{nothing_under_way, kept_under_way, one_frame}
use Rattle.many_examples.proofs.Unfounded.{one_founded}
use Rattle.many_examples.proofs.Ours.{taking_ours}
use Rattle.many_logs.specs.Names.{committed_in}
use Rattle.many_logs.specs.Placing.{Commit}
use Rattle.many_rules.specs.Leaves.{AllRan}
use Rattle.many_rules.specs.Leaves.AllAnswered.{nothing_said}
use Rattle.many_rules.specs.Leaves.AllRan.{nothing_ran, frame_more}
use Rattle.many_rules.specs.Rules.{IsOurs, pairs_of}
use Rattle.part_items.specs.Examples.{taking}
use Rattle.part_items.specs.Kept.{entries_from}
use Rattle.run_rules.specs.FieldExamples.{sum_flows}
use Rattle.run_rules.specs.Rules.{EndsPending}
use Rattle.site_model.specs.History.{changes_of}
use Rattle.many_examples.proofs.rules_examples.crashes_leave_frames.Goals as goal

-- the gate in front of the frame was written last, where the log kept nothing
gate_last : WroteGate (empty_log 1) [] (changes_of 20 gate_written)
unfolding header_at entries_from
gate_last = record { gate = 33; bytes = 0xC3 ∷ []; before = _; last = refl; kept = refl }

pub returns-clause-open : goal.returns-clause-open
returns-clause-open c = λ flows. record {
  going = λ partition. if partition == 1 then taking 0 ∷ [] else [];
  stands = taken_stands flows;
  writing = of_two _ (inl refl) (inr gate_last);
  kept = taken_are_kept flows;
  ran = frame_more nothing_ran fresh refl 1 (taking 0 ∷ [])
      (λ serves. All-from_recursion (λ (entry : Entry). All (EndsPending (fresh 1)) entry.items) (taking 0 ∷ []) (All-from_recursion (EndsPending (fresh 1)) (taking 0).items (tt, tt), tt));
  own = of_two _ (λ k d inside. absurd (omega (arith, inside)))
      (All-from_recursion (IsOurs (taking_rules flows) 0 [] 1) (taking 0 ∷ []) (taking_ours flows, tt));
  founded = one_more _ none (record { follows = refl; named = λ k d inside. absurd (omega (arith, inside)) });
  told = [];
  lines = [];
  part = [];
  answered = nothing_said;
  spoken = refl;
  saying = inl refl;
}

pub returns-clause-closed : goal.returns-clause-closed
returns-clause-closed c = λ flows. record {
  going = λ partition. [];
  stands = none_stand flows;
  writing = λ partition below. inl refl;
  kept = none_are_kept flows;
  ran = nothing_ran;
  own = λ partition below k d inside. absurd (omega (arith, inside));
  founded = none;
  told = [];
  lines = [];
  part = [];
  answered = nothing_said;
  spoken = refl;
  saying = inl refl;
}

pub returns-clause-of_call : goal.returns-clause-of_call
returns-clause-of_call c = λ flows left.
    let going = kept_under_way left.going (taking 0) _ second_kept (left.kept.kept 1 (omega arith)) in
    let own = subst (All (IsOurs (record (rules_with flows) { incarnations = λ partition. 1 }) 0 (pairs_of left.told) 1)) going (left.own 1 (omega arith)) in
    let incarnation : 1 ≤ 0 = (own 0 (taking 0) (omega arith)).incarnation in
    omega (arith, incarnation)

pub returns-clause-ran : goal.returns-clause-ran
returns-clause-ran c = λ files keeps left.
    let first = nothing_under_way 0 [] (left.going 0) (left.writing 0 (omega arith)) in
    let second = kept_under_way left.going at_once.entry _ keeps (left.kept.kept 1 (omega arith)) in
    ended_at_once (subst (AllRan (rules_with sum_flows)) (one_frame left.going at_once.entry first second) left.ran)

pub returns-clause-founded : goal.returns-clause-founded
returns-clause-founded c = λ flows files keeps left.
    let first = nothing_under_way 0 [] (left.going 0) (left.writing 0 (omega arith)) in
    let second = kept_under_way left.going letting_unknown.entry _ keeps (left.kept.kept 1 (omega arith)) in
    let founded : Founded [] (committed_in (letting_unknown ∷ [])) = subst (λ (l : List Commit). Founded [] (committed_in l)) (one_frame left.going letting_unknown.entry first second) left.founded in
    none_in (first_entry 0) (one_founded founded _ refl 0 (first_entry 0) (omega arith))
