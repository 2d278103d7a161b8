-- An entry to look at that runs an activity too early.
use Rattle.std.specs.Prelude.{ℕ, List, [], ◌∷◌, ◌++◌, Option, Some, None, Result, Ok, Err}
use Rattle.commit_log.specs.Segment.{segment_bytes}
use Rattle.dura_value.specs.Items.{Entry}
use Rattle.hub_store.specs.Trail.{Settled}
use Rattle.part_items.specs.Examples.{digest}
use Rattle.part_items.specs.Spelling.{spell_frame}
use Rattle.run_rules.specs.FieldExamples.{starting, ending_first}

-- Sum/x is started, asks for the sum, and has it, all in one entry
abbrev pub at_once : Entry
at_once = record { position = 0; incarnation = 0; items = starting.items ++ ending_first.items }

abbrev pub settled_at_once : List Settled
settled_at_once = record { partition = 0; entry = at_once; at = 0 } ∷ []

-- a log with that entry
abbrev pub at_once_log : List ℕ
at_once_log = segment_bytes (record { partition = 0; partitions = 1; digest = digest; base = 0 }) (spell_frame (at_once ∷ []) ∷ []) ++ 0 ∷ []

-- what an answer gives, if anything
abbrev pub ok_of : {T : Type 0} → Result T ℕ → Option T
ok_of (Ok value) = Some value
ok_of (Err position) = None
