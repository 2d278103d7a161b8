-- The ids that something is there for, one after another.
use Rattle.std.specs.Prelude.{◌≡◌, Bool, true, Option, Some, None}
use Rattle.std.specs.Ordering.{is_lt, is_le}
use Rattle.dura_value.specs.Ids.{Id}
use Rattle.shared_trees.specs.Ids.{id_cmp, key_of}

-- whether an id comes before another
abbrev pub is_before : Id → Id → Bool
is_before a b = is_lt (id_cmp (key_of a) (key_of b))

-- whether an id comes before another or is it
abbrev pub is_no_later : Id → Id → Bool
is_no_later a b = is_le (id_cmp (key_of a) (key_of b))

-- whether an id comes behind the last one, if there was one
abbrev pub is_behind : Option Id → Id → Bool
is_behind None id = true
is_behind (Some last) id = is_before last id

-- Something is there for this id, which is the first such behind the last one.
pub record IsNextBehind (there : Id → Bool) (last : Option Id) (id : Id) : Type 0 where
  pub found : there id ≡ true
  pub behind : is_behind last id ≡ true
  pub first : (other : Id) → there other ≡ true → is_behind last other ≡ true → is_no_later id other ≡ true

-- nothing is there for an id behind the last one
abbrev pub NoneBehind : (there : Id → Bool) → Option Id → Type 0
NoneBehind there last = (id : Id) → there id ≡ true → is_behind last id ≡ true → ⊥
