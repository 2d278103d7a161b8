-- The states that were recovered go on where the logs do, and each run whose entries the files keep made them.
use Rattle.std.proofs.Common.{◌≡◌, ◌<◌, ℕ, List, ◌++◌, Some, Ok, sym, ◌∙◌, ap}
use Rattle.std.specs.List.{slice_get}
use Rattle.std.proofs.lemmas.List.{append-nil}
use Rattle.dura_model.specs.Entries as alone
use Rattle.dura_model.specs.Entries.{next_incarnation}
use Rattle.dura_model.specs.Partition.{Partition, fresh}
use Rattle.dura_value.proofs.Basics.{some_same}
use Rattle.dura_value.specs.Items.{Entry}
use Rattle.flow_syntax.specs.Syntax.{Flows}
use Rattle.log_items.specs.Entries.{incarnations_in}
use Rattle.many_logs.proofs.Orders.{any_order}
use Rattle.many_logs.proofs.OrdersStand.{placed_in_order}
use Rattle.many_logs.proofs.Own.{own_chain}
use Rattle.many_logs.specs.Labels.{state_next}
use Rattle.many_logs.specs.Placing.{Commit, of_partition, placed, states_after}
use Rattle.many_logs.specs.Stands.{asked_at, AreKept}
use Rattle.many_rules.proofs.GateMoments.{goes_behind}
use Rattle.many_rules.specs.Leaves.{header_at}
use Rattle.part_items.proofs.LogsNumbered.{entries_numbered}
use Rattle.part_items.specs.Kept.{first_of}
use Rattle.part_items.specs.Numbered.{behind_all}
use Rattle.part_steps.specs.States.{parts_in}
use Rattle.recover_core.specs.Recovering.{AreOpened}
use Rattle.recover_core.specs.declared.ending.Life.{Life}
use Rattle.recover_core.specs.declared.recovery.Opened.{Opened}

module _ (flows : Flows) (count digest : ℕ) (files : ℕ → List ℕ) (opened : Opened) (are : AreOpened flows count digest files opened) where
  -- a partition's entries made its state
  own_made : (partition : ℕ) → partition < count → alone.placed flows count (fresh partition) (are.logs partition) ≡ Ok (parts_in opened.states.items partition)
  own_made partition below =
      let order = placed_in_order flows count are.logs in
      let its : are.logs partition ≡ of_partition partition order.run = order.left partition ∙ ap (λ (l : List Entry). of_partition partition order.run ++ l) (are.none_left partition below) ∙ append-nil (of_partition partition order.run) in
      ap (λ (l : List Entry). alone.placed flows count (fresh partition) l) its
      ∙ own_chain flows count order.run fresh (placed flows count are.logs).states partition order.all
      ∙ ap (λ (f : ℕ → Partition). Ok (f partition)) (sym are.states)

  pub state_goes : (partition : ℕ) → partition < count → state_next (parts_in opened.states.items partition) ≡ behind_all (first_of (header_at count digest partition)) (are.logs partition)
  state_goes partition below =
      goes_behind flows count (are.logs partition) (fresh partition) (parts_in opened.states.items partition) (own_made partition below) (entries_numbered (asked_at count digest partition) files (are.logs partition) (are.kept partition below))

  -- ---- by a run

  module _ (run : List Commit) (kept : AreKept flows count digest files run) where
    -- its entries are those of the logs
    pub same_entries : (partition : ℕ) → partition < count → of_partition partition run ≡ are.logs partition
    same_entries partition below = some_same (sym (kept.kept partition below) ∙ are.kept partition below)

    pub run_made : states_after flows count fresh run ≡ Some (parts_in opened.states.items)
    run_made =
        let they = any_order flows count run are.logs kept.states kept.below kept.made (λ partition below. sym (same_entries partition below)) in
        kept.made ∙ ap (λ (f : ℕ → Partition). Some f) (sym they.states ∙ sym are.states)

    -- what a life has is of its entries
    pub past_is : (partition : ℕ) (life : Life) → partition < count → slice_get opened.lives.items partition ≡ Some life → life.past ≡ incarnations_in (of_partition partition run)
    past_is partition life below at = (are.lives partition life at).past ∙ ap incarnations_in (sym (same_entries partition below))

    pub next_is : (partition : ℕ) (life : Life) → partition < count → slice_get opened.lives.items partition ≡ Some life → life.incarnation ≡ next_incarnation (of_partition partition run)
    next_is partition life below at = (are.lives partition life at).incarnation ∙ ap next_incarnation (sym (same_entries partition below))
