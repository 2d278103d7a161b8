-- The ids of states, list by list.
use Rattle.std.proofs.Common.{◌≡◌, ◌∙◌, inl, inr, ℕ, ◌+◌, ◌<◌, length, Bool, List, [], ◌∷◌, ◌++◌, Option, None, get_or, sym, ap, subst, arith}
use Rattle.std.proofs.lemmas.Bool.{cases_lt}
use Rattle.std.proofs.lemmas.List.{get_or_default, get_or_append_left, get_or_push, length-append, length-map, map-append}
use Rattle.std.specs.Borrow.{Bor}
use Rattle.dura_value.specs.declared.addresses.Id.{Id as Given}
use Rattle.dura_value.specs.Ids.{Id}
use Rattle.shared_maps.specs.Entries.{Entries}
use Rattle.shared_maps.specs.Maps.{has_id}
use Rattle.state_lines.specs.Heads.{AreHeads, AreListed, IsHead, head_of, heads_of}
use Rattle.state_lines.proofs.Merging.{heads_more}

-- one list more, of the place behind the others
pub list_more : (there : ℕ → Id → Bool) (lists : List (Entries (Unit {0}))) (ids : Entries (Unit {0})) → AreListed there lists → has_id ids ≡ there (length lists) → AreListed there (lists ++ ids ∷ [])
list_more there lists ids all new = λ place inside. elim (cases_lt place (length lists)) [
  | inl before ↦ ap has_id (get_or_append_left lists (ids ∷ []) [] place before) ∙ all place before
  | inr beyond ↦
      let at : length lists ≡ place = let long = length-append lists (ids ∷ []) in omega arith in
      ap has_id (get_or_push lists ids [] place at) ∙ new ∙ ap there at
]

-- the head of a list is that of its place
pub head_at : (there : ℕ → Id → Bool) (lists : List (Entries (Unit {0}))) (place : ℕ) (ids : Entries (Unit {0})) (last head : Option Id) → AreListed there lists → place < length lists → ids ≡ get_or lists place ids
    → IsHead (has_id ids) last head → IsHead (there place) last head
head_at there lists place ids last head listed inside is new =
    subst (λ (t : Id → Bool). IsHead t last head) (ap has_id (is ∙ get_or_default lists place ids [] inside) ∙ listed place inside) new

-- the first id of one list more
pub first_more : (there : ℕ → Id → Bool) (lists : List (Entries (Unit {0}))) (heads : List (Option (Bor Given))) (ids : Entries (Unit {0})) (head : Option (Bor Given)) → AreListed there lists
    → length heads < length lists → ids ≡ get_or lists (length heads) ids → IsHead (has_id ids) None (head_of head) → AreHeads there None (heads_of heads) → AreHeads there None (heads_of (heads ++ head ∷ []))
first_more there lists heads ids head listed inside is new all =
    subst (AreHeads there None) (sym (map-append head_of heads (head ∷ [])))
    (heads_more there None (heads_of heads) (head_of head) all
    (subst (λ (n : ℕ). IsHead (there n) None (head_of head)) (sym (length-map heads head_of)) (head_at there lists (length heads) ids None (head_of head) listed inside is new)))
