use Rattle.std.proofs.Common.{◌≡◌, ◌∙◌, ℕ, List, [], ◌∷◌, map, Some, sym, ap, subst, refl, arith}
use Rattle.std.specs.List.{slice_get}
use Rattle.dura_model.specs.Entries.{next_incarnation}
use Rattle.dura_model.specs.Partition.{Partition, fresh}
use Rattle.dura_value.specs.Items.{Entry}
use Rattle.recover_core.specs.declared.ending.Life.{Life}
use Rattle.run_examples.proofs.NoLogs.{none_kept, none_placed}
use Rattle.run_examples.proofs.recovery_examples.opened_without_logs.Goals as goal

pub returns-clause-nothing : goal.returns-clause-nothing
returns-clause-nothing c = λ flows digest opened states lives. record {
  logs = λ partition. [];
  kept = λ partition below. refl;
  none_left = λ partition below. refl;
  states = states;
  lives = λ partition life at. let none = subst (λ (l : List Life). slice_get l partition ≡ Some life) lives at in absurd (cc none);
}

pub returns-clause-entry_there : goal.returns-clause-entry_there
returns-clause-entry_there c = λ flows digest opened one is.
    let states = is.states ∙ none_placed flows is.logs (none_kept digest is.logs is.kept) in
    let none : (fresh 1).position ≡ 1 = ap (λ (f : ℕ → Partition). (f 1).position) (sym states) ∙ one in
    omega (arith, none)

pub returns-clause-entry_told : goal.returns-clause-entry_told
returns-clause-entry_told c = λ flows digest opened life at one is.
    let told : 0 ∷ [] ≡ [] = sym one ∙ (is.lives 1 life at).past ∙ ap (map (λ (e : Entry). e.incarnation)) (none_kept digest is.logs is.kept 1 (omega arith)) in
    cc told

pub returns-clause-incarnation_told : goal.returns-clause-incarnation_told
returns-clause-incarnation_told c = λ flows digest opened life at one is.
    let told : 1 ≡ 0 = sym one ∙ (is.lives 1 life at).incarnation ∙ ap next_incarnation (none_kept digest is.logs is.kept 1 (omega arith)) in
    omega (arith, told)
