-- Why a frame is refused at its gate.
use Rattle.std.specs.Prelude.{◌≡◌, ◌⊎◌, ℕ, ◌<◌, ◌≤◌, List, ◌∷◌, ◌++◌, Result, Ok, Err}
use Rattle.std.specs.List.{All, Contains}
use Rattle.dura_value.specs.Dependencies.{Lost, Ready}
use Rattle.dura_value.specs.Items as plain
use Rattle.dura_value.specs.Items.{Identity, Item, got, trim}
use Rattle.dura_value.specs.Messages.{Message}
use Rattle.dura_value.specs.Views.{identity_of}
use Rattle.commit_gate.specs.declared.unmet.Unmet.{Unmet}
use Rattle.commit_gate.specs.declared.unmet.Unmet.TheVariants as unmet
use Rattle.commit_gate.specs.Ledgers.{Ledger, log_length}
use Rattle.commit_gate.specs.Met.{IsMet}

-- the entry that an item names
pub data Names : Item → Identity → Type 0 where
  by_got : {source : Identity} {number : ℕ} {message : Message} → Names (got source number message) source
  by_trim : {reader : Identity} {number : ℕ} → Names (trim reader number) reader

-- An entry is settled, by the length of its partition's log, and no incarnation gave it up.
abbrev pub IsReady : (ℕ → Ledger) → (floors : ℕ → List plain.Floor) → Identity → Type 0
IsReady ledgers floors e = Ready (λ partition. log_length (ledgers partition)) (floors e.partition) e

-- An item passes: the entry that it names is ready, and is what the item takes it for.
pub record Passes (ledgers : ℕ → Ledger) (floors : ℕ → List plain.Floor) (partition : ℕ) (item : Item) : Type 0 where
  pub ready : (e : Identity) → Names item e → IsReady ledgers floors e
  pub met : IsMet ledgers partition item

-- this incarnation's floor gave an entry up from this position on
pub record GaveUp (floors : List plain.Floor) (e : Identity) (from : ℕ) : Type 0 where
  pub floor : plain.Floor
  pub there : Contains floors floor
  pub from_is : floor.from ≡ from
  pub partition : floor.partition ≡ e.partition
  pub later : e.incarnation < floor.incarnation
  pub below : floor.from ≤ e.position

-- An entry isn't ready: an incarnation gave it up; or none did, and it isn't settled, as so many entries of its partition are.
abbrev pub IsNotReady : (ℕ → Ledger) → (floors : ℕ → List plain.Floor) → Identity → Unmet → Type 0
IsNotReady ledgers floors e (unmet.Lost dep from) = (identity_of dep ≡ e) × GaveUp (floors e.partition) e from
IsNotReady ledgers floors e (unmet.NotReady dep have) = (identity_of dep ≡ e) × (Lost (floors e.partition) e → ⊥) × (have ≡ log_length (ledgers e.partition)) × (have ≤ e.position)
IsNotReady ledgers floors e (unmet.Differs dep) = ⊥

-- It is ready, and isn't what the item takes it for.
abbrev pub IsMistaken : (ℕ → Ledger) → (floors : ℕ → List plain.Floor) → (partition : ℕ) → Item → Identity → Unmet → Type 0
IsMistaken ledgers floors partition item e (unmet.Differs dep) = (identity_of dep ≡ e) × IsReady ledgers floors e × (IsMet ledgers partition item → ⊥)
IsMistaken ledgers floors partition item e other = ⊥

-- An item is refused for the entry that it names.
pub record Refuses (ledgers : ℕ → Ledger) (floors : ℕ → List plain.Floor) (partition : ℕ) (item : Item) (why : Unmet) : Type 0 where
  pub e : Identity
  pub names : Names item e
  pub refused : IsNotReady ledgers floors e why ⊎ IsMistaken ledgers floors partition item e why

-- the first item that doesn't pass decides
pub record RefusesFirst (ledgers : ℕ → Ledger) (floors : ℕ → List plain.Floor) (partition : ℕ) (items : List Item) (why : Unmet) : Type 0 where
  pub before : List Item
  pub item : Item
  pub behind : List Item
  pub split : items ≡ before ++ item ∷ behind
  pub passed : All (Passes ledgers floors partition) before
  pub refuses : Refuses ledgers floors partition item why

abbrev pub Tests : (ℕ → Ledger) → (floors : ℕ → List plain.Floor) → (partition : ℕ) → List Item → Result (Unit {0}) Unmet → Type 0
Tests ledgers floors partition items (Ok done) = All (Passes ledgers floors partition) items
Tests ledgers floors partition items (Err why) = RefusesFirst ledgers floors partition items why
