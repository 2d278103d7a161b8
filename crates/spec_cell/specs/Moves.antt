-- What the calls that give entries up make of a cell.
use Rattle.std.specs.Prelude.{◌≡◌, ℕ, ◌+◌, ◌<◌, ◌≤◌, ◌^◌, List, Option, length, take, drop, filter}
use Rattle.std.specs.List.{All, HoldsAt}
use Rattle.cell_tasks.specs.Tasks.{none_out}
use Rattle.cell_tasks.specs.declared.given_out.GivenOut.{GivenOut}
use Rattle.cell_waits.specs.Waits.{lasting, lost_by, without_lost}
use Rattle.dura_model.specs.Partition.{Partition}
use Rattle.dura_value.specs.Items.{Identity}
use Rattle.flow_syntax.specs.Syntax.{Flows}
use Rattle.spec_tracker.specs.Marks.{identity_of, floors_of}
use Rattle.spec_tracker.specs.declared.marks.Marks.{Marks}
use Rattle.cell_steps.specs.Depends.{last_made, dependencies, AreKept, IsFirstLost}
use Rattle.spec_cell.specs.Tasks.{given_by}
use Rattle.spec_cell.specs.Views.{CellView, IsBase}
use Rattle.spec_cell.specs.declared.moving.CellReset.{CellReset}
use Rattle.spec_cell.specs.declared.moving.CellReset.TheVariants as resets
use Rattle.spec_cell.specs.declared.moving.CellRewind.{CellRewind}
use Rattle.spec_cell.specs.declared.moving.CellRewind.TheVariants as rewinds

-- All entries but the first so many were given up, and a later incarnation began. No packet waits, and no outcome.
abbrev pub given_up : (kept out : ℕ) → Option GivenOut → CellView → CellView
given_up kept out given c = record c { entries = take kept c.entries; incarnation = c.incarnation + 1; waits = filter lasting c.waits; given = given; out = out }

-- what each of a cell's entries depends on, behind its settled state
abbrev pub dependencies_in : CellView → (base : Partition) → List (List Identity)
dependencies_in c base = dependencies base.number (last_made base) c.entries

-- Entries behind those that are out were given up, from the first on that depends on one which was.
pub record IsRewound (flows : Flows) (count : ℕ) (begin : Partition) (marks : Marks) (old new : CellView) (floor : ℕ) (lost : Identity) : Type 0 where
  pub kept : ℕ
  pub base : Partition
  pub is_base : IsBase flows count begin old base
  pub first : IsFirstLost marks (dependencies_in old base) old.out kept lost
  pub inside : kept < length old.entries
  pub floor_is : HoldsAt (λ e. e.position ≡ floor) old.entries kept
  pub becomes : new ≡ given_up kept old.out new.given old
  -- and no task is out any more
  pub none_given : given_by new.given ≡ none_out

-- No entry behind those that are out depends on one which was given up. No packet waits that was sent by one, nor a later one of its stream.
pub record IsKept (flows : Flows) (count : ℕ) (begin : Partition) (marks : Marks) (old new : CellView) : Type 0 where
  pub base : Partition
  pub is_base : IsBase flows count begin old base
  pub kept : All (AreKept marks) (drop old.out (dependencies_in old base))
  pub becomes : new ≡ record old { waits = without_lost (lost_by (floors_of marks)) old.waits }

-- the incarnation that would begin is past those that there are
abbrev pub IsPast : (old new : CellView) → (number : ℕ) → Type 0
IsPast old new number = (new ≡ old) × (number ≡ old.incarnation + 1) × (2 ^ 62 ≤ number)

abbrev pub CellRewinds : Flows → (count : ℕ) → (begin : Partition) → Marks → (old : CellView) → CellRewind → (new : CellView) → Type 0
CellRewinds flows count begin marks old rewinds.Kept new = IsKept flows count begin marks old new
CellRewinds flows count begin marks old (rewinds.Rewound floor dep) new = IsRewound flows count begin marks old new floor (identity_of dep)
CellRewinds flows count begin marks old (rewinds.Spent number) new = IsPast old new number

-- All entries from the floor on were given up, and none before it. No frame is out.
pub record IsReset (floor : ℕ) (old new : CellView) : Type 0 where
  pub kept : ℕ
  pub before : All (λ e. e.position < floor) (take kept old.entries)
  pub behind : All (λ e. floor ≤ e.position) (drop kept old.entries)
  pub becomes : new ≡ given_up kept 0 new.given old
  pub none_given : given_by new.given ≡ none_out

abbrev pub CellResets : (floor : ℕ) → (old : CellView) → CellReset → (new : CellView) → Type 0
CellResets floor old resets.Done new = IsReset floor old new
CellResets floor old (resets.Spent number) new = IsPast old new number
