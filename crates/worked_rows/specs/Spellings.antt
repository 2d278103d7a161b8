-- What a table of spellings says.
use Rattle.std.specs.Prelude.{◌≡◌, ℕ, List, [], map, Ok, Err}
use Rattle.dura_codec.specs.Fields.{Read, placed}

-- each of these bytes reads as what stands beside it, and nothing is left
abbrev pub Reads : {X : Type 0} → (List ℕ → Read X) → List (List ℕ × X) → Type 0
Reads grammar rows = map (λ row. placed row.0 (grammar row.0)) rows ≡ map (λ row. Ok (row.1, [])) rows

-- what stands beside these bytes is spelled by them
abbrev pub Spells : {X : Type 0} → (X → List ℕ) → List (List ℕ × X) → Type 0
Spells spell rows = map (λ row. spell row.1) rows ≡ map (λ row. row.0) rows

-- none of these bytes can be read, from the offset beside them on
abbrev pub Faults : {X : Type 0} → (List ℕ → Read X) → List (List ℕ × ℕ) → Type 0
Faults grammar rows = map (λ row. placed row.0 (grammar row.0)) rows ≡ map (λ row. Err row.1) rows
