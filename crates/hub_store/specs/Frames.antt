-- Frames that go on a log.
use Rattle.std.specs.Prelude.{◌≡◌, ℕ, ◌+◌, List, ◌++◌, length, Ok}
use Rattle.dura_value.specs.Items.{Entry}
use Rattle.part_items.specs.Numbered.{Next, behind_all, next_frame_in}
use Rattle.part_items.specs.Spelling.{spell_frame, CanSpellFrame}
use Rattle.part_items.specs.Kept.{first_of}
use Rattle.hub_store.specs.Origin.{Log}
use Rattle.hub_store.specs.declared.way.Way.{Way}
use Rattle.hub_store.specs.declared.way.Way.TheVariants.{Resting}

-- where a log goes on, once these entries are settled in it
abbrev pub goes_on : Log → List Entry → Next
goes_on log entries = behind_all (first_of log.header) (log.entries ++ entries)

-- A frame that can be spelled, and is read again where the log goes on.
pub record GoesBehind (next : Next) (going : List Entry) : Type 0 where
  pub spells : CanSpellFrame going
  pub again : next_frame_in next (spell_frame going) ≡ Ok going

-- how long the file of a log at rest would be with a frame
abbrev pub length_with : Way → List Entry → ℕ
length_with (Resting log) going = log.gate + 6 + length (spell_frame going)
length_with other going = 0
