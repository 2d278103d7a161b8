-- Which bytes begin a written form, and where others stop.
use Rattle.std.specs.Prelude.{◌≡◌, ℕ, suc, ◌<◌, List, ◌++◌, length, take, true}
use Rattle.dura_value.specs.Ids.{Id, written}
use Rattle.dura_value.specs.Names.{is_name, is_key}
use Rattle.id_laws.specs.Forms.{has_form}

abbrev pub IsName : List ℕ → Type 0
IsName bytes = is_name bytes ≡ true

abbrev pub IsKey : List ℕ → Type 0
IsKey bytes = is_key bytes ≡ true

-- the bytes are how some id is written
abbrev pub IsWritten : List ℕ → Type 0
IsWritten bytes = (id : Id) × (has_form id ≡ true) × (written id ≡ bytes)

-- with some bytes behind them they are one
abbrev pub Begins : (List ℕ → Type 0) → List ℕ → Type 0
Begins Is bytes = (rest : List ℕ) × Is (bytes ++ rest)

-- so many of the first bytes begin one, and with one more they don't
pub record StopsAt (Is : List ℕ → Type 0) (bytes : List ℕ) (n : ℕ) : Type 0 where
  pub front : Begins Is (take n bytes)
  pub longest : n < length bytes → Begins Is (take (suc n) bytes) → ⊥
