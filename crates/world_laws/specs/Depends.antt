-- Which entries an entry that was made in a life depends on, through any number of entries between.
use Rattle.std.specs.Prelude.{◌≡◌, ℕ, List, [], ◌∷◌, ◌++◌, drop, Some}
use Rattle.std.specs.List.{All, Contains, slice_get}
use Rattle.cell_steps.specs.Depends.{AreKept}
use Rattle.dura_model.specs.Partition.{Partition}
use Rattle.dura_value.specs.Dependencies.{named_by, Lost}
use Rattle.dura_value.specs.Items.{Identity, Entry}
use Rattle.log_items.specs.Entries.{identity_at}
use Rattle.many_logs.specs.Placing.{of_partition}
use Rattle.many_rules.specs.Rules.{Rules}
use Rattle.spec_cell.specs.Moves.{dependencies_in}
use Rattle.spec_cell.specs.Views.{CellView, IsBase}
use Rattle.spec_tracker.specs.declared.marks.Marks.{Marks}
use Rattle.world_core.specs.World.{WorldView}
use Rattle.world_laws.specs.Made.{MadeEntry, name_of}

-- the entry right before one that was made, in its partition: recovered, or of this life
pub record StandsBefore (rules : Rules) (one : MadeEntry) (d : Identity) : Type 0 where
  pub before : List Entry
  pub entry : Entry
  pub split : of_partition one.partition rules.recovered ++ one.front ≡ before ++ entry ∷ []
  pub name : d ≡ identity_at one.partition entry

-- An entry that was made depends on each that its items name, and on the one right before it in its partition; and on all that these
-- depend on.
pub data DependsOn (rules : Rules) (made : List MadeEntry) : Identity → Identity → Type 0 where
  named : (one : MadeEntry) (d : Identity) → Contains made one → Contains (named_by one.entry.items) d → DependsOn rules made (name_of one) d
  before : (one : MadeEntry) (d : Identity) → Contains made one → StandsBefore rules one d → DependsOn rules made (name_of one) d
  further : (e d f : Identity) → DependsOn rules made e d → DependsOn rules made d f → DependsOn rules made e f

-- no entry that a cell holds depends on one that was given up
abbrev pub HoldsNothingLost : Rules → List MadeEntry → WorldView → Type 0
HoldsNothingLost rules made w =
    (partition : ℕ) (c : CellView) (entry : Entry) (d : Identity) → slice_get w.cells partition ≡ Some c → Contains c.entries entry → DependsOn rules made (identity_at partition entry) d → Lost (w.store.floors d.partition) d → ⊥

-- A cell was judged by what was known of the logs, and nothing of it was given up: no entry behind those that are out depends on one which was.
pub record IsJudged (rules : Rules) (marks : Marks) (c : CellView) : Type 0 where
  pub base : Partition
  pub is_base : IsBase rules.flows rules.count (rules.begin c.number) c base
  pub kept : All (AreKept marks) (drop c.out (dependencies_in c base))
