-- The keys of the ids that a map keeps something for, with what it keeps.
use Rattle.std.proofs.Common.{◌≡◌, ◌∙◌, ◌<◌, Bool, true, false, cond, List, [], ◌∷◌, ◌++◌, Option, Some, None, option_map, is_some, refl, ap, sym, subst}
use Rattle.std.specs.BTreeMap.{is_at}
use Rattle.std.specs.Map.{lookup}
use Rattle.std.specs.Option.{option_or}
use Rattle.dura_value.specs.declared.addresses.Id.{Id}
use Rattle.dura_value.specs.Ids as plain
use Rattle.dura_value.specs.Views.{id_of}
use Rattle.shared_maps.specs.Digests.{hashed_place}
use Rattle.shared_maps.specs.Entries.{Entries, find}
use Rattle.shared_maps.specs.Ids.{id_cmp, key_of}
use Rattle.shared_maps.specs.IdOrder.{IsNextBehind}
use Rattle.shared_maps.specs.Places.{Place, is_same}
use Rattle.shared_maps.proofs.Ids.{plain_again}
use Rattle.shared_maps.proofs.Listing.{not_hashed}
use Rattle.shared_maps.proofs.Orders.{same_place, same_itself}
use Rattle.state_lines.proofs.Behind.{count_behind, fewer, is_there, same_key, at_itself}

-- a key, where it stands where its id is looked for
abbrev pub key_if : {X : Type 0} → Bool → Id → X → List (Id × X)
key_if true k x = (k, x) ∷ []
key_if false k x = []

-- the key of an entry
abbrev pub key_by : {X : Type 0} → Place → Option Id → Option X → List (Id × X)
key_by p None v = []
key_by p (Some k) None = []
key_by p (Some k) (Some x) = key_if (is_same (hashed_place (id_of k) 0) p) k x

-- the keys of those entries that stand where their ids are looked for
abbrev pub keys_in : {X : Type 0} → Entries X → List (Id × X)
keys_in [] = []
keys_in (e ∷ es) = key_by e.0 e.0.id e.1 ++ keys_in es

abbrev has : {X : Type 0} → List (Id × X) → plain.Id → Bool
has entries id = is_some (lookup (is_at (id_cmp (key_of id))) entries)

same_bool : (a b : Bool) → (a ≡ true → b ≡ true) → (b ≡ true → a ≡ true) → a ≡ b
same_bool true true there back = refl
same_bool true false there back = sym (there refl)
same_bool false true there back = back refl
same_bool false false there back = refl

not_by : (b : Bool) → (b ≡ true → ⊥) → b ≡ false
not_by true never = absurd (never refl)
not_by false never = refl

same_some : (a b : Id) → Some a ≡ Some b → a ≡ b
same_some a b is = cc is

none_some : (a : Id) → None ≡ Some a → ⊥
none_some a is = cc is

module _ {X : Type 0} where
  past : (b : Bool) (o r : Option X) → b ≡ false → option_or (cond b o None) r ≡ r
  past true o r is = absurd (cc is)
  past false o r is = refl

  none_either : (b : Bool) (r : Option X) → option_or (cond b None None) r ≡ r
  none_either true r = refl
  none_either false r = refl

  bit : (a b : Bool) (x : X) (l r : Option X) → a ≡ b → is_some l ≡ is_some r → is_some (cond a (Some x) l) ≡ is_some (option_or (cond b (Some x) None) r)
  bit true true x l r same is = refl
  bit true false x l r same is = absurd (cc same)
  bit false true x l r same is = absurd (cc same)
  bit false false x l r same is = is

  here : (k : Id) (x : X) (rest : List (Id × X)) (r : Option X) (p : Place) (id : plain.Id) → p ≡ hashed_place (id_of k) 0 → has rest id ≡ is_some r
      → has ((k, x) ∷ rest) id ≡ is_some (option_or (cond (is_same p (hashed_place id 0)) (Some x) None) r)
  here k x rest r p id is later =
      let at = hashed_place id 0 in
      let alike = same_bool (is_at (id_cmp (key_of id)) k) (is_same p at)
      (λ found. ap (λ (q : Place). is_same q at) (is ∙ ap (λ (i : plain.Id). hashed_place i 0) (same_key id k found)) ∙ same_itself at)
      (λ same.
      let places : hashed_place (id_of k) 0 ≡ at = sym is ∙ same_place p at same in
      let keys : key_of (id_of k) ≡ key_of id = same_some (key_of (id_of k)) (key_of id) (ap (λ (q : Place). q.id) places) in
      let ids : id_of k ≡ id = sym (plain_again (id_of k)) ∙ ap id_of keys ∙ plain_again id in
      subst (λ (i : plain.Id). is_at (id_cmp (key_of i)) k ≡ true) ids (at_itself k)) in
      bit (is_at (id_cmp (key_of id)) k) (is_same p at) x (lookup (is_at (id_cmp (key_of id))) rest) r alike later

  by_place : (k : Id) (x : X) (rest : List (Id × X)) (r : Option X) (p : Place) (id : plain.Id) (b : Bool) → is_same (hashed_place (id_of k) 0) p ≡ b → p.id ≡ Some k → has rest id ≡ is_some r
      → has (key_if b k x ++ rest) id ≡ is_some (option_or (cond (is_same p (hashed_place id 0)) (Some x) None) r)
  by_place k x rest r p id true same ids later = here k x rest r p id (sym (same_place (hashed_place (id_of k) 0) p same)) later
  by_place k x rest r p id false off ids later = later ∙ ap is_some (sym (past (is_same p (hashed_place id 0)) (Some x) r (not_hashed p k ids off id)))

  by_key : (p : Place) (o : Option Id) (v : Option X) (rest : List (Id × X)) (r : Option X) (id : plain.Id) → p.id ≡ o → has rest id ≡ is_some r
      → has (key_by p o v ++ rest) id ≡ is_some (option_or (cond (is_same p (hashed_place id 0)) v None) r)
  by_key p None v rest r id ids later =
      let off = not_by (is_same p (hashed_place id 0)) (λ same. none_some (key_of id) (sym ids ∙ ap (λ (q : Place). q.id) (same_place p (hashed_place id 0) same))) in
      later ∙ ap is_some (sym (past (is_same p (hashed_place id 0)) v r off))
  by_key p (Some k) None rest r id ids later = later ∙ ap is_some (sym (none_either (is_same p (hashed_place id 0)) r))
  by_key p (Some k) (Some x) rest r id ids later = by_place k x rest r p id (is_same (hashed_place (id_of k) 0) p) refl ids later

  -- just the ids that something is kept for have keys
  pub keys_found : (es : Entries X) (id : plain.Id) → has (keys_in es) id ≡ is_some (find es (hashed_place id 0))
  keys_found [] id = refl
  keys_found (e ∷ es) id = by_key e.0 e.0.id e.1 (keys_in es) (find es (hashed_place id 0)) id refl (keys_found es id)

-- fewer lie behind the next id than behind the last one
pub fewer_behind : {X Y : Type 0} (view : X → Y) (es : Entries X) (last : Option plain.Id) (id : plain.Id) → IsNextBehind (λ other. is_some (option_map view (find es (hashed_place other 0)))) last id
    → count_behind (Some id) (keys_in es) < count_behind last (keys_in es)
fewer_behind view es last id next = fewer last id next.behind (keys_in es) (keys_found es id ∙ is_there view (find es (hashed_place id 0)) next.found)
