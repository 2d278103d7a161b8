-- Which items, entries and frames are within the limits of the format.
use Rattle.std.specs.Prelude.{◌<◌, ◌≤◌, List, length}
use Rattle.std.specs.List.{All}
use Rattle.dura_value.specs.Items.{Identity, Item, took, got, ran, ended, fired, trim, Entry}
use Rattle.part_items.specs.Tags.{most_members}
use Rattle.part_items.specs.Fits.{FitsNumber, FitsCount, FitsId, FitsOutcome, FitsMessage}

-- another partition's entry
pub record FitsIdentity (identity : Identity) : Type 0 where
  pub partition_fits : FitsNumber identity.partition
  pub incarnation_fits : FitsCount identity.incarnation
  pub position_fits : FitsCount identity.position

abbrev pub FitsItem : Item → Type 0
FitsItem (took message) = FitsMessage message
FitsItem (got source number message) = FitsIdentity source × FitsCount number × FitsMessage message
FitsItem (ran from to stamp) = FitsId from × FitsId to × FitsCount stamp
FitsItem (ended id task outcome) = FitsId id × FitsNumber task × FitsOutcome outcome
FitsItem (fired id task stamp) = FitsId id × FitsNumber task × FitsCount stamp
FitsItem (trim reader number) = FitsIdentity reader × FitsCount number

-- an entry has 1 to 64 items
pub record FitsEntry (entry : Entry) : Type 0 where
  pub position_fits : FitsCount entry.position
  pub incarnation_fits : FitsCount entry.incarnation
  pub some : 0 < length entry.items
  pub few : length entry.items ≤ most_members
  pub each : All FitsItem entry.items

-- a frame has 1 to 64 entries
pub record FitsFrame (entries : List Entry) : Type 0 where
  pub some : 0 < length entries
  pub few : length entries ≤ most_members
  pub each : All FitsEntry entries
