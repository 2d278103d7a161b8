use Rattle.std.proofs.Common.{arith, inr, [], ◌∷◌, true, false, subst, sym, ◌≡◌, inl, ℕ, Some, None, codes, refl, ap}
use Rattle.dura_model.specs.Partition.{Partition, fresh}
use Rattle.dura_value.specs.Ids.{client}
use Rattle.dura_value.specs.Messages.{was_started}
use Rattle.many_examples.specs.RulesBy.{answered_in}
use Rattle.part_items.specs.Kept.{kept_in}
use Rattle.part_items.specs.Logs.{second_log}
use Rattle.flow_syntax.specs.Machine as machine
use Rattle.many_examples.specs.Placings.{states_of, none_of}
use Rattle.many_examples.specs.RulesBy.{starting_sum}
use Rattle.run_rules.specs.FieldExamples.{sum_flows}
use Rattle.run_rules.proofs.AskedSum.{sum_of_null}
use Rattle.commit_log.specs.Segment.{header_at}
use Rattle.part_items.specs.Kept.{nothing, entries_from}
use Rattle.site_model.specs.History.{on, wrote, changes_of, Leaves}
use Rattle.many_examples.proofs.rules_examples.calls_begin.Goals as goal

pub returns-clause-empty : goal.returns-clause-empty
returns-clause-empty c = λ flows. record {
  count = refl;
  headers = λ partition below. refl;
  below = tt;
  theirs = λ partition below. refl;
  made = refl;
  given = tt;
  other = second_log;
  files = λ partition below. inl (refl, refl);
  empty = λ partition below image is. ap (kept_in partition) is;
}

pub returns-clause-made : goal.returns-clause-made
returns-clause-made c = λ flows begins.
    let states_are : fresh ≡ answered_in 1 = cc begins.made in
    let has : None ≡ Some was_started = ap (λ (states : ℕ → Partition). (states 1).answers (client (codes "a")) 1) states_are in
    cc has

pub returns-clause-given : goal.returns-clause-given
unfolding machine.go_on
returns-clause-given c = λ begins.
    let later = begins.given.1 (states_of sum_flows (starting_sum ∷ []) 1) refl in
    let wrong : false ≡ true = later.0.0 sum_of_null refl in
    cc wrong

-- what a crash may leave of a file in which this was written
torn : Leaves (wrote 0 34 (none_of 0) ∷ []) (none_of 0)
torn = ([], refl, record { before = refl; behind = refl; no_shorter = omega arith; no_longer = omega arith })

keeps_something : kept_in 0 (none_of 0) ≡ nothing → ⊥
unfolding header_at entries_from
keeps_something is = cc is

pub returns-clause-other : goal.returns-clause-other
returns-clause-other c = λ flows begins.
    let there : begins.other 0 ≡ 17 = elim (begins.files 0 (omega arith)) [
      | inl first ↦ first.1
      | inr second ↦ absurd (let wrong : 16 ≡ 17 = second.0 in omega (arith, wrong))
    ] in
    keeps_something (begins.empty 0 (omega arith) (none_of 0) (subst (λ (file : ℕ). Leaves (changes_of file (on 17 (wrote 0 34 (none_of 0)) ∷ [])) (none_of 0)) (sym there) torn))
