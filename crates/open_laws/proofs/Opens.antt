-- Files that stand for a run aren't refused.
use Rattle.std.proofs.Common.{◌≡◌, ◌∙◌, ℕ, ◌<◌, true, false, List, [], ◌++◌, Some, None, sym, ap, subst, append-nil}
use Rattle.std.proofs.lemmas.List.Elements.{All-contains}
use Rattle.client_order.specs.Clashes.{clashes, taken_in, NoClash}
use Rattle.dura_model.specs.Partition.{Partition}
use Rattle.dura_value.proofs.Basics.{some_same}
use Rattle.dura_value.specs.Items.{Entry}
use Rattle.flow_syntax.specs.Syntax.{Flows}
use Rattle.many_logs.proofs.Orders.{any_order}
use Rattle.many_logs.proofs.OrdersStand.{orders_stand, placed_in_order}
use Rattle.many_logs.proofs.Unplaced.{none_has_none}
use Rattle.many_logs.specs.Labels.{labels_of_commits}
use Rattle.many_logs.specs.Placing.{Commit, HasPlaced, of_partition, placed}
use Rattle.many_logs.specs.Stands.{AreKept}
use Rattle.many_logs.specs.Unplaced.{Unplaced, illegal, unclosed}
use Rattle.open_laws.specs.Standing.{MayMeet, StandFor}
use Rattle.open_logs.specs.Spent.{HasTakenOther, WhyUnopened}
use Rattle.open_logs.specs.declared.error.OpenError.{OpenError}
use Rattle.open_logs.specs.declared.error.OpenError.TheVariants.{Refused, Spent, Clash}
use Rattle.part_items.specs.Logs.{Logs, Refusal, refused, entries_in}
use Rattle.recover_core.specs.Recovering.{AreLogs, IsLeft, Refuses}
use Rattle.recover_core.specs.declared.error.RecoverError.{RecoverError}
use Rattle.recover_core.specs.declared.error.RecoverError.TheVariants.{Damaged, OtherShape, OtherFlows, Illegal, Unclosed, SiteFault, Memory}
use Rattle.request_reader.specs.Line.{Request}

-- log files that are refused have no entries
has_entries : (logs : Logs) (refusal : Refusal) (entries : List Entry) → logs ≡ refused refusal → entries_in logs ≡ Some entries → ⊥
has_entries logs refusal entries is kept = let none : None ≡ Some entries = sym (ap entries_in is) ∙ kept in cc none

-- no partition has a log that is refused, and none of their entries is left
module _ (flows : Flows) (count digest : ℕ) (files : ℕ → List ℕ) (logs : ℕ → List Entry) (kept : AreLogs count digest files logs) (none_left : (partition : ℕ) → partition < count → (placed flows count logs).left partition ≡ []) where
  -- the entries of one partition are the same, however they are named
  same_logs : (other : ℕ → List Entry) → AreLogs count digest files other → (partition : ℕ) → partition < count → other partition ≡ logs partition
  same_logs other they partition below = some_same (sym (they partition below) ∙ kept partition below)

  -- the same entries make the same states, and none of them is left
  pub same_placed : (other : ℕ → List Entry) → AreLogs count digest files other → HasPlaced count (placed flows count other) (placed flows count logs).states (λ partition. [])
  same_placed other they =
      let order = placed_in_order flows count logs in
      any_order flows count order.run other (placed flows count logs).states order.below order.all
      (λ partition below. same_logs other they partition below ∙ order.left partition ∙ ap (λ (l : List Entry). of_partition partition order.run ++ l) (none_left partition below) ∙ append-nil (of_partition partition order.run))

  not_left : (reason : Unplaced) → IsLeft flows count digest files reason → ⊥
  not_left reason left = let wrong : None ≡ Some reason = sym (none_has_none flows count left.logs (same_placed left.logs left.kept).left) ∙ left.why in cc wrong

  not_refused : (error : RecoverError) → Refuses flows count digest files error → MayMeet (Refused error)
  not_refused (Damaged file offset) why = has_entries _ _ (logs why.partition) why.refused (kept why.partition why.below)
  not_refused (OtherShape found asked) why = has_entries _ _ (logs why.partition) why.refused.0 (kept why.partition why.below)
  not_refused (OtherFlows found given) why = has_entries _ _ (logs why.partition) why.refused.0 (kept why.partition why.below)
  not_refused (Illegal partition position) why = not_left (illegal partition position) why
  not_refused (Unclosed partition position src seq) why = not_left (unclosed partition position src seq) why
  not_refused SiteFault why = tt
  not_refused Memory why = tt

  not_clashing : (requests : List Request) → NoClash (taken_in count (placed flows count logs).states) requests → (client : List ℕ) (number : ℕ) → HasTakenOther flows count digest files requests client number → ⊥
  not_clashing requests none client number other =
      let there = other.clash.there in
      let states : (placed flows count other.logs).states ≡ (placed flows count logs).states = (same_placed other.logs other.kept).states in
      let clashing : clashes (taken_in count (placed flows count logs).states) there.request ≡ true = subst (λ (f : ℕ → Partition). clashes (taken_in count f) there.request ≡ true) states there.clashes in
      let wrong : true ≡ false = sym clashing ∙ All-contains (λ r. clashes (taken_in count (placed flows count logs).states) r ≡ false) requests there.request none there.asked in
      cc wrong

  -- so of all errors these alone are left
  pub meets : (requests : List Request) → NoClash (taken_in count (placed flows count logs).states) requests → (error : OpenError) → WhyUnopened flows count digest files requests error → MayMeet error
  meets requests none (Refused error) why = not_refused error why
  meets requests none (Spent partition number) why = tt
  meets requests none (Clash client number) why = not_clashing requests none client number why

pub may_meet : (flows : Flows) (count digest : ℕ) (files : ℕ → List ℕ) (requests : List Request) → StandFor flows count digest files requests → (error : OpenError) → WhyUnopened flows count digest files requests error → MayMeet error
may_meet flows count digest files requests stands = meets flows count digest files stands.stand.logs stands.stand.kept stands.stand.none_left requests stands.no_clash

pub kept_stand : (flows : Flows) (count digest : ℕ) (files : ℕ → List ℕ) (requests : List Request) (commits : List Commit) (kept : AreKept flows count digest files commits) → NoClash (taken_in count kept.states) requests → StandFor flows count digest files requests
kept_stand flows count digest files requests commits kept none =
    let stand = orders_stand flows count digest files commits kept.states kept.below kept.kept kept.made kept.given in
    let they = any_order flows count commits stand.logs kept.states kept.below kept.made (λ partition below. some_same (sym (stand.kept partition below) ∙ kept.kept partition below)) in
    record {
      run = labels_of_commits commits;
      stand = stand;
      no_clash = subst (λ (f : ℕ → Partition). NoClash (taken_in count f) requests) (sym they.states) none;
    }
