-- Entries of partition 0, and where its incarnation 2 began.
use Rattle.std.specs.Prelude.{ℕ}
use Rattle.dura_value.specs.Items.{Identity, Floor}

abbrev pub begun : Floor
begun = record { partition = 0; incarnation = 2; from = 5 }

abbrev pub entry : (incarnation position : ℕ) → Identity
entry incarnation position = record { partition = 0; incarnation = incarnation; position = position }
