-- How far entries let go of streams.
use Rattle.std.specs.Prelude.{◌≤◌, ℕ, List, [], ◌∷◌}
use Rattle.dura_value.specs.Items.{Item, trim}

-- what these items let go lies before these numbers, by the partition that reads it
abbrev pub LetGoBefore : (ends : ℕ → ℕ) → List Item → Type 0
LetGoBefore ends [] = Unit {0}
LetGoBefore ends (trim reader number ∷ items) = (number ≤ ends reader.partition) × LetGoBefore ends items
LetGoBefore ends (other ∷ items) = LetGoBefore ends items
