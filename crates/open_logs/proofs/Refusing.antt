-- Files that are accepted aren't refused, and what is refused where they are.
use Rattle.std.proofs.Common.{◌≡◌, ◌∙◌, ℕ, ◌<◌, true, false, List, [], ◌++◌, length, Some, None, sym, ap, subst, append-nil, arith}
use Rattle.std.proofs.lemmas.List.Elements.{All-contains}
use Rattle.client_order.specs.Clashes.{clashes, taken_in, IsClash, NoClash}
use Rattle.dura_model.specs.Entries.{next_incarnation}
use Rattle.dura_model.specs.Partition.{Partition}
use Rattle.dura_value.specs.Items.{Entry}
use Rattle.flow_syntax.specs.Syntax.{Flows}
use Rattle.log_files.specs.Fronts.{AreSyncs}
use Rattle.many_logs.proofs.Orders.{any_order}
use Rattle.many_logs.proofs.OrdersStand.{placed_in_order}
use Rattle.many_logs.proofs.Unplaced.{none_has_none}
use Rattle.many_logs.specs.Placing.{HasPlaced, of_partition, placed}
use Rattle.many_logs.specs.Unplaced.{Unplaced, illegal, unclosed}
use Rattle.open_logs.specs.Spent.{HasTakenOther, IsFirstSpent, IsOwn, IsSpent, OnlySynced, RefusesTaken, WhyUnopened}
use Rattle.open_logs.specs.declared.error.OpenError.{OpenError}
use Rattle.open_logs.specs.declared.error.OpenError.TheVariants.{Refused, Spent, Clash}
use Rattle.open_logs.proofs.Pushed.{element}
use Rattle.part_items.specs.Logs.{Logs, Refusal, refused, entries_in}
use Rattle.part_steps.specs.States.{parts_in}
use Rattle.recover_core.specs.Recovering.{AreLogs, AreOpened, IsLeft, Refuses}
use Rattle.recover_core.specs.declared.error.RecoverError.{RecoverError}
use Rattle.recover_core.specs.declared.error.RecoverError.TheVariants.{Damaged, OtherShape, OtherFlows, Illegal, Unclosed, SiteFault, Memory}
use Rattle.recover_core.specs.declared.recovery.Opened.{Opened}
use Rattle.request_reader.specs.Line.{Request}
use Rattle.site_model.specs.History.{Step}

nothing_there : (logs : Logs) (refusal : Refusal) (entries : List Entry) → logs ≡ refused refusal → entries_in logs ≡ Some entries → ⊥
nothing_there logs refusal entries is kept = let none : None ≡ Some entries = sym (ap entries_in is) ∙ kept in cc none

module _ (flows : Flows) (count digest : ℕ) (files : ℕ → List ℕ) (opened : Opened) (are : AreOpened flows count digest files opened) where
  same_logs : (logs : ℕ → List Entry) → AreLogs count digest files logs → (partition : ℕ) → partition < count → logs partition ≡ are.logs partition
  same_logs logs kept partition below = cc (kept partition below, are.kept partition below)

  -- the same entries make the same states, and none of them is left
  they : (logs : ℕ → List Entry) → AreLogs count digest files logs → HasPlaced count (placed flows count logs) (placed flows count are.logs).states (λ partition. [])
  they logs kept =
      let order = placed_in_order flows count are.logs in
      any_order flows count order.run logs (placed flows count are.logs).states order.below order.all
      (λ partition below. same_logs logs kept partition below ∙ order.left partition ∙ ap (λ (l : List Entry). of_partition partition order.run ++ l) (are.none_left partition below) ∙ append-nil (of_partition partition order.run))

  none_left_over : (reason : Unplaced) → IsLeft flows count digest files reason → ⊥
  none_left_over reason left = let wrong : None ≡ Some reason = sym (none_has_none flows count left.logs (they left.logs left.kept).left) ∙ left.why in cc wrong

  no_refusal : (error : RecoverError) → IsOwn (Refused error) → Refuses flows count digest files error → ⊥
  no_refusal (Damaged file offset) own why = nothing_there _ _ (are.logs why.partition) why.refused (are.kept why.partition why.below)
  no_refusal (OtherShape found asked) own why = nothing_there _ _ (are.logs why.partition) why.refused.0 (are.kept why.partition why.below)
  no_refusal (OtherFlows found given) own why = nothing_there _ _ (are.logs why.partition) why.refused.0 (are.kept why.partition why.below)
  no_refusal (Illegal partition position) own why = none_left_over (illegal partition position) why
  no_refusal (Unclosed partition position src seq) own why = none_left_over (unclosed partition position src seq) why
  no_refusal SiteFault own why = own
  no_refusal Memory own why = own

  not_spent : length opened.lives.items ≡ count → IsFirstSpent opened.lives.items None → (partition number : ℕ) → IsSpent flows count digest files partition number → ⊥
  not_spent many young partition number spent =
      let below = spent.below in
      let one = element opened.lives.items partition (omega (arith, below, many)) in
      let new = young partition one.0 (omega (arith, below, many)) one.1 in
      let here = (are.lives partition one.0 one.1).incarnation ∙ ap next_incarnation (sym (same_logs spent.logs spent.kept partition below)) ∙ sym spent.number_is in
      let old = spent.old in
      omega (arith, new, here, old)

  not_taken : (requests : List Request) → NoClash (taken_in count (parts_in opened.states.items)) requests → (client : List ℕ) (number : ℕ) → HasTakenOther flows count digest files requests client number → ⊥
  not_taken requests none client number other =
      let there = other.clash.there in
      let states : (placed flows count other.logs).states ≡ parts_in opened.states.items = (they other.logs other.kept).states ∙ sym are.states in
      let clashing : clashes (taken_in count (parts_in opened.states.items)) there.request ≡ true = subst (λ (f : ℕ → Partition). clashes (taken_in count f) there.request ≡ true) states there.clashes in
      let wrong : true ≡ false = sym clashing ∙ All-contains (λ r. clashes (taken_in count (parts_in opened.states.items)) r ≡ false) requests there.request none there.asked in
      cc wrong

  -- files by which logs may be opened aren't refused
  pub accepted : length opened.lives.items ≡ count → IsFirstSpent opened.lives.items None → (requests : List Request) → NoClash (taken_in count (parts_in opened.states.items)) requests → (error : OpenError) → IsOwn error → WhyUnopened flows count digest files requests error → ⊥
  accepted many young requests none (Refused error) own why = no_refusal error own why
  accepted many young requests none (Spent partition number) own why = not_spent many young partition number why
  accepted many young requests none (Clash client number) own why = not_taken requests none client number why

  -- another request was taken
  pub taken_other : (requests : List Request) (error : OpenError) → RefusesTaken (taken_in count (parts_in opened.states.items)) requests error → WhyUnopened flows count digest files requests error
  taken_other requests (Clash client number) clash = record { logs = are.logs; kept = are.kept; none_left = are.none_left; clash = subst (λ (f : ℕ → Partition). IsClashOf f) are.states clash }
    where
      IsClashOf : (ℕ → Partition) → Type 0
      IsClashOf states = IsClash (taken_in count states) requests client number
  taken_other requests (Refused Memory) clash = tt
  taken_other requests (Refused SiteFault) clash = absurd clash
  taken_other requests (Refused (Damaged file offset)) clash = absurd clash
  taken_other requests (Refused (OtherShape found asked)) clash = absurd clash
  taken_other requests (Refused (OtherFlows found given)) clash = absurd clash
  taken_other requests (Refused (Illegal partition position)) clash = absurd clash
  taken_other requests (Refused (Unclosed partition position src seq)) clash = absurd clash
  taken_other requests (Spent partition number) clash = absurd clash

-- nothing was opened then
pub taken_synced : (count : ℕ) (old new : List Step) (states : ℕ → Partition) (requests : List Request) (error : OpenError) → RefusesTaken (taken_in count states) requests error → AreSyncs count old new → OnlySynced count old new error
taken_synced count old new states requests (Clash client number) clash syncs = syncs
taken_synced count old new states requests (Refused Memory) clash syncs = tt
taken_synced count old new states requests (Refused SiteFault) clash syncs = tt
taken_synced count old new states requests (Refused (Damaged file offset)) clash syncs = syncs
taken_synced count old new states requests (Refused (OtherShape found asked)) clash syncs = syncs
taken_synced count old new states requests (Refused (OtherFlows found given)) clash syncs = syncs
taken_synced count old new states requests (Refused (Illegal partition position)) clash syncs = syncs
taken_synced count old new states requests (Refused (Unclosed partition position src seq)) clash syncs = syncs
taken_synced count old new states requests (Spent partition number) clash syncs = syncs

pub no_fault_taken : (count : ℕ) (states : ℕ → Partition) (requests : List Request) (error : OpenError) → RefusesTaken (taken_in count states) requests error → error ≡ Refused SiteFault → ⊥
no_fault_taken count states requests error refuses is = subst (RefusesTaken (taken_in count states) requests) is refuses
