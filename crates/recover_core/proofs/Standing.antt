-- Files that stand for a run are recovered.
use Rattle.std.proofs.Common.{◌≡◌, ◌∙◌, ℕ, ◌<◌, List, [], ◌++◌, Some, None, Result, Ok, Err, sym, ap, subst, append-nil}
use Rattle.dura_value.specs.Items.{Entry}
use Rattle.flow_syntax.specs.Syntax.{Flows}
use Rattle.dura_model.specs.Legal.{Legal}
use Rattle.dura_model.specs.Partition.{Partition, shown}
use Rattle.dura_model.specs.Steps.{Label}
use Rattle.many_logs.specs.Placing.{HasPlaced, of_partition, placed}
use Rattle.many_logs.specs.Stands.{FilesStand}
use Rattle.many_logs.specs.Unplaced.{Unplaced, illegal, unclosed}
use Rattle.many_logs.proofs.Orders.{any_order}
use Rattle.many_logs.proofs.OrdersStand.{placed_in_order}
use Rattle.many_logs.proofs.Unplaced.{none_has_none}
use Rattle.part_items.specs.Logs.{Logs, Refusal, refused, entries_in}
use Rattle.part_steps.specs.States.{parts_in}
use Rattle.recover_core.specs.Recovering.{AreLogs, IsLeft, Opens, IsNotRefused, ShowsRun}
use Rattle.recover_core.specs.declared.error.RecoverError.{RecoverError}
use Rattle.recover_core.specs.declared.error.RecoverError.TheVariants.{Damaged, OtherShape, OtherFlows, Illegal, Unclosed, SiteFault, Memory}
use Rattle.recover_core.specs.declared.recovery.Opened.{Opened}

-- there are no entries where the files are refused
nothing_there : (logs : Logs) (refusal : Refusal) (entries : List Entry) → logs ≡ refused refusal → entries_in logs ≡ Some entries → ⊥
nothing_there logs refusal entries is kept = let none : None ≡ Some entries = sym (ap entries_in is) ∙ kept in cc none

-- the same entries make the same states, and none of them is left
same_placed : (flows : Flows) (count : ℕ) (logs other : ℕ → List Entry) → ((partition : ℕ) → partition < count → other partition ≡ logs partition) → ((partition : ℕ) → partition < count → (placed flows count logs).left partition ≡ [])
    → HasPlaced count (placed flows count other) (placed flows count logs).states (λ partition. [])
same_placed flows count logs other same none =
    let order = placed_in_order flows count logs in
    any_order flows count order.run other (placed flows count logs).states order.below order.all
    (λ partition below. same partition below ∙ order.left partition ∙ ap (λ (l : List Entry). of_partition partition order.run ++ l) (none partition below) ∙ append-nil (of_partition partition order.run))

module _ (flows : Flows) (count digest : ℕ) (files : ℕ → List ℕ) (run : List Label) (stands : FilesStand flows count digest files run) where
  same_logs : (logs : ℕ → List Entry) → AreLogs count digest files logs → (partition : ℕ) → partition < count → logs partition ≡ stands.logs partition
  same_logs logs kept partition below = cc (kept partition below, stands.kept partition below)

  they : (logs : ℕ → List Entry) → AreLogs count digest files logs → HasPlaced count (placed flows count logs) (placed flows count stands.logs).states (λ partition. [])
  they logs kept = same_placed flows count stands.logs logs (same_logs logs kept) stands.none_left

  none_left_over : (reason : Unplaced) → IsLeft flows count digest files reason → ⊥
  none_left_over reason left = let wrong : None ≡ Some reason = sym (none_has_none flows count left.logs (they left.logs left.kept).left) ∙ left.why in cc wrong

  pub never_refused : (result : Result Opened RecoverError) → Opens flows count digest files result → IsNotRefused result
  never_refused (Ok opened) opens = tt
  never_refused (Err (Damaged file offset)) opens = nothing_there _ _ (stands.logs opens.partition) opens.refused (stands.kept opens.partition opens.below)
  never_refused (Err (OtherShape found asked)) opens = nothing_there _ _ (stands.logs opens.partition) opens.refused.0 (stands.kept opens.partition opens.below)
  never_refused (Err (OtherFlows found given)) opens = nothing_there _ _ (stands.logs opens.partition) opens.refused.0 (stands.kept opens.partition opens.below)
  never_refused (Err (Illegal partition position)) opens = none_left_over (illegal partition position) opens
  never_refused (Err (Unclosed partition position src seq)) opens = none_left_over (unclosed partition position src seq) opens
  never_refused (Err SiteFault) opens = tt
  never_refused (Err Memory) opens = tt

  pub shows_run : (result : Result Opened RecoverError) → Opens flows count digest files result → ShowsRun flows count run result
  shows_run (Ok opened) opens =
      let same : (placed flows count stands.logs).states ≡ parts_in opened.states.items = sym (they opens.logs opens.kept).states ∙ sym opens.states in
      subst (λ (f : ℕ → Partition). Legal flows run (shown flows count f)) same stands.legal
  shows_run (Err error) opens = tt
