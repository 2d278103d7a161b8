-- Files of two partitions of which none has a log.
use Rattle.std.proofs.Common.{◌≡◌, ◌∙◌, ◌<◌, ℕ, List, [], length, Some, None, sym, ap, arith}
use Rattle.dura_model.specs.Partition.{fresh}
use Rattle.dura_value.specs.Items.{Entry}
use Rattle.flow_syntax.specs.Syntax.{Flows}
use Rattle.many_logs.specs.Placing.{count_entries, placed, placed_in}
use Rattle.many_logs.specs.Unplaced.{Unplaced}
use Rattle.many_logs.proofs.Unplaced.{none_has_none}
use Rattle.recover_core.specs.Recovering.{AreLogs, IsLeft}

-- they have no entries
pub none_kept : (digest : ℕ) (logs : ℕ → List Entry) → AreLogs 2 digest (λ file. []) logs → (partition : ℕ) → partition < 2 → logs partition ≡ []
none_kept digest logs kept partition below = let is : Some [] ≡ Some (logs partition) = kept partition below in let same : [] ≡ logs partition = cc is in sym same

count_none : (logs : ℕ → List Entry) → ((partition : ℕ) → partition < 2 → logs partition ≡ []) → count_entries 2 logs ≡ 0
count_none logs none =
    let first : length (logs 0) ≡ 0 = ap (λ (l : List Entry). length l) (none 0 (omega arith)) in
    let second : length (logs 1) ≡ 0 = ap (λ (l : List Entry). length l) (none 1 (omega arith)) in
    omega (arith, first, second)

-- and make no state
pub none_placed : (flows : Flows) (logs : ℕ → List Entry) → ((partition : ℕ) → partition < 2 → logs partition ≡ []) → (placed flows 2 logs).states ≡ fresh
none_placed flows logs none = ap (λ (n : ℕ). (placed_in flows 2 n (record { states = fresh; left = logs })).states) (count_none logs none)

none_left : (flows : Flows) (logs : ℕ → List Entry) → ((partition : ℕ) → partition < 2 → logs partition ≡ []) → (partition : ℕ) → partition < 2 → (placed flows 2 logs).left partition ≡ []
none_left flows logs none partition below = ap (λ (n : ℕ). (placed_in flows 2 n (record { states = fresh; left = logs })).left partition) (count_none logs none) ∙ none partition below

-- so none is left
pub none_left_over : (flows : Flows) (digest : ℕ) (reason : Unplaced) → IsLeft flows 2 digest (λ file. []) reason → ⊥
none_left_over flows digest reason left =
    let wrong : None ≡ Some reason = sym (none_has_none flows 2 left.logs (none_left flows left.logs (none_kept digest left.logs left.kept))) ∙ left.why in
    cc wrong
