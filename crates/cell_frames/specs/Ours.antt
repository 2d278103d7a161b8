-- What the rules of a call ask of the entries that a cell holds.
use Rattle.std.specs.Prelude.{◌≡◌, ℕ, true, List}
use Rattle.std.specs.List.{All}
use Rattle.dura_model.specs.Partition.{Partition}
use Rattle.hub_store.specs.Trail.{Said}
use Rattle.many_rules.specs.Rules.{Rules, IsOurs, rules_at, pairs_of}
use Rattle.run_rules.specs.Rules.{IsAsked}
use Rattle.spec_cell.specs.Views.{CellView, IsBase}
use Rattle.task_laws.specs.Asked.{WasAsked}

-- Each entry that isn't settled is the call's, and, where the call serves clients, each outcome is of an activity that was asked for by what
-- is settled.
pub record AreOurs (rules : Rules) (latest : ℕ) (told : List Said) (c : CellView) : Type 0 where
  pub ours : All (IsOurs rules latest (pairs_of told) c.number) c.entries
  pub run : (base : Partition) → IsBase rules.flows rules.count (rules.begin c.number) c base → rules.serves ≡ true → All (λ e. All (WasAsked rules.flows base) e.items) c.entries

-- What waits is the call's: where it serves clients, requests are asked for, and each outcome is of an activity that was asked for by what
-- is settled.
pub record WaitOurs (rules : Rules) (told : List Said) (c : CellView) : Type 0 where
  pub asked : rules.serves ≡ true → All (λ w. IsAsked (rules_at rules c.number) (pairs_of told) w.item) c.waits
  pub run : (base : Partition) → IsBase rules.flows rules.count (rules.begin c.number) c base → rules.serves ≡ true → All (λ w. WasAsked rules.flows base w.item) c.waits
