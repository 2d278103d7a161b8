use Rattle.std.proofs.Common.{◌≡◌, ◌∙◌, inl, inr, ℕ, [], refl, sym, subst}
use Rattle.dura_model.specs.Entries.{shown_by}
use Rattle.dura_model.specs.Partition.{Partition, fresh, shown}
use Rattle.dura_model.specs.World.{World}
use Rattle.dura_model.proofs.Alone.{shown_alone}
use Rattle.run_examples.proofs.Shown.{is_there, only_fresh, no_flows_there}
use Rattle.run_inputs.specs.Examples.{one_flow}
use Rattle.state_lines.specs.Table.{IsTable}
use Rattle.state_lines.proofs.Few.{empty_table}
use Rattle.state_lines.proofs.Tables.{one_table}
use Rattle.run_examples.proofs.show_examples.tables_shown.Goals as goal

pub returns-clause-done : goal.returns-clause-done
returns-clause-done c = (one_flow, fresh, is_there, record { table = []; is = subst (λ (w : World). IsTable one_flow w []) (sym (shown_alone one_flow fresh (fresh 0) refl)) (empty_table one_flow); said = refl })

pub returns-clause-more : goal.returns-clause-more
returns-clause-more c = λ shows.
    let says = shows.3 in
    let table : IsTable shows.0 (shown shows.0 1 fresh) says.table = subst (λ (f : ℕ → Partition). IsTable shows.0 (shown shows.0 1 f) says.table) (sym (only_fresh shows.0 shows.1 shows.2)) says.is in
    let alone : IsTable shows.0 (shown_by shows.0 (fresh 0)) says.table = subst (λ (w : World). IsTable shows.0 w says.table) (shown_alone shows.0 fresh (fresh 0) refl) table in
    let none : says.table ≡ [] = one_table shows.0 (shown_by shows.0 (fresh 0)) says.table [] alone (empty_table shows.0) in
    cc (says.said, none)

pub returns-clause-not_there : goal.returns-clause-not_there
returns-clause-not_there c = λ shows. let wrong = sym shows.2.flows_in_file.accepted ∙ no_flows_there in cc wrong

pub returns-clause-say_fault : goal.returns-clause-say_fault
returns-clause-say_fault c = λ shows. let wrong = sym shows.2.flows_in_file.accepted ∙ no_flows_there in cc wrong

pub returns-clause-memory : goal.returns-clause-memory
returns-clause-memory c = inl refl

pub returns-clause-memory_said : goal.returns-clause-memory_said
returns-clause-memory_said c = λ shows. elim shows [
  | inl same ↦ cc same
  | inr there ↦ let wrong = sym there.2.flows_in_file.accepted ∙ no_flows_there in cc wrong
]
