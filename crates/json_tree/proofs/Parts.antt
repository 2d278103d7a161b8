-- A value by the token that it begins with.
use Rattle.std.proofs.Common.{◌≡◌, ℕ, ◌-◌, ◌<◌, List, [], ◌∷◌, length, Bool, true, false, Option, Some, None, option_map, Result, Ok, Err, refl, ap, ◌∙◌, arith, rules, Bor}
use Rattle.std.specs.Prelude.{OnOk}
use Rattle.json.specs.Token.{Token}
use Rattle.json.specs.Json as json
use Rattle.json.specs.Reads.{token_of}
use Rattle.json.specs.declared.token.Token.{Token as Read}
use Rattle.json.specs.declared.token.Token.TheVariants as read
use Rattle.json.specs.Json.{parse_map}
use Rattle.json.proofs.Grammar.{value_is, value-begin_array, value-begin_object}
use Rattle.serde_json.specs.Data.{array, object, no_members}
use Rattle.serde_json.specs.Read.{converted, of_items, of_json, of_members}
use Rattle.json_tree.specs.Answers.{TreeFails, Finds, Takes}
use Rattle.json_tree.specs.Tokens.{data_in, items_in, leaf, members_in}
use Rattle.json_tree.specs.View.{items_view, members_view, view}
use Rattle.json_tree.specs.declared.reading.ReadError.{ReadError}
use Rattle.json_tree.specs.declared.reading.ReadError.TheVariants.{NotJson, Memory}
use Rattle.json_tree.specs.declared.tree.Tree.{Tree, Array, Object, the_lemmas}

-- ---- data behind a conversion

abbrev or_else : {A : Type 0} → A → Option A → A
or_else other None = other
or_else other (Some a) = a

-- what was converted was there
came_of : {B : Type 0} (o : Option B) (b : B) (s r : List Token) → option_map {U = B × List Token} (λ y. (y, s)) o ≡ Some (b, r) → (s ≡ r) × (o ≡ Some b)
came_of None b s r e = absurd (cc)
came_of {B} (Some y) b s r e = (ap (λ (o : Option (B × List Token)). (or_else (y, s) o).1) e, ap (λ (o : Option (B × List Token)). Some (or_else (y, s) o).0) e)

pub converted_from : {A B : Type 0} (f : A → Option B) (o : Option (A × List Token)) (b : B) (r : List Token) → converted f o ≡ Some (b, r) → (a : A) × (o ≡ Some (a, r)) × (f a ≡ Some b)
converted_from f None b r e = absurd (cc)
converted_from f (Some q) b r e = let both = came_of (f q.0) b q.1 r e in (q.0, ap (λ s. Some (q.0, s)) both.0, both.1)

-- a conversion of the inside is one of the whole
pub mapped_last : {A B : Type 0} (g : A → B) (r : List Token) (x : Option A) → option_map {U = B × List Token} (λ b. (b, r)) (option_map g x) ≡ parse_map g (option_map (λ a. (a, r)) x)
mapped_last g r None = refl
mapped_last g r (Some a) = refl

array_of : (o : Option (json.Items × List Token)) → converted of_json (parse_map json.array o) ≡ parse_map array (converted of_items o)
array_of None = refl
array_of (Some q) = mapped_last array q.1 (of_items q.0)

object_of : (o : Option (json.Members × List Token)) → converted of_json (parse_map json.object o) ≡ parse_map object (converted (λ ms. of_members ms no_members) o)
object_of None = refl
object_of (Some q) = mapped_last object q.1 (of_members q.0 no_members)

-- ---- by the first token

pub array_began : (levels : ℕ) (ts rest : List Token) → 0 < levels → ts ≡ Token.begin_array ∷ rest → data_in levels ts ≡ parse_map array (items_in (levels - 1) rest)
array_began levels ts rest some is = ap (data_in levels) is ∙ ap (converted of_json) (value-begin_array levels rest some) ∙ array_of (json.items (json.value (levels - 1)) (length rest) rest)

pub object_began : (levels : ℕ) (ts rest : List Token) → 0 < levels → ts ≡ Token.begin_object ∷ rest → data_in levels ts ≡ parse_map object (members_in (levels - 1) rest)
object_began levels ts rest some is = ap (data_in levels) is ∙ ap (converted of_json) (value-begin_object levels rest some) ∙ object_of (json.members (json.value (levels - 1)) (length rest) rest)

pub too_deep_array : (levels : ℕ) (ts rest : List Token) → levels ≡ 0 → ts ≡ Token.begin_array ∷ rest → data_in levels ts ≡ None
unfolding json.value
too_deep_array levels ts rest none is = rw (none, is) refl

pub too_deep_object : (levels : ℕ) (ts rest : List Token) → levels ≡ 0 → ts ≡ Token.begin_object ∷ rest → data_in levels ts ≡ None
unfolding json.value
too_deep_object levels ts rest none is = rw (none, is) refl

pub nothing_left : (levels : ℕ) (ts : List Token) → ts ≡ [] → data_in levels ts ≡ None
nothing_left levels ts is = ap (data_in levels) is ∙ ap (converted of_json) (value_is levels [])

abbrev opens : Token → Bool
opens Token.begin_array = true
opens Token.begin_object = true
opens _ = false

leaf_is : (levels : ℕ) (t : Token) (rest : List Token) → opens t ≡ false → data_in levels (t ∷ rest) ≡ option_map (λ d. (d, rest)) (leaf t)
leaf_is levels Token.begin_object rest e = absurd (cc)
leaf_is levels Token.begin_array rest e = absurd (cc)
leaf_is levels Token.end_object rest e = ap (converted of_json) (value_is levels _)
leaf_is levels Token.end_array rest e = ap (converted of_json) (value_is levels _)
leaf_is levels (Token.key s) rest e = ap (converted of_json) (value_is levels _)
leaf_is levels (Token.string s) rest e = ap (converted of_json) (value_is levels _)
leaf_is levels (Token.number s) rest e = ap (converted of_json) (value_is levels _)
leaf_is levels (Token.boolean b) rest e = ap (converted of_json) (value_is levels _)
leaf_is levels Token.null rest e = ap (converted of_json) (value_is levels _)
leaf_is levels Token.bad rest e = ap (converted of_json) (value_is levels _)

opens_nothing : (t : Read) → ¬ t ≡ read.BeginObject → ¬ t ≡ read.BeginArray → opens (token_of t) ≡ false
opens_nothing read.BeginObject no_object no_array = absurd (no_object refl)
opens_nothing read.BeginArray no_object no_array = absurd (no_array refl)
opens_nothing read.EndObject no_object no_array = refl
opens_nothing read.EndArray no_object no_array = refl
opens_nothing (read.Key s) no_object no_array = refl
opens_nothing (read.String s) no_object no_array = refl
opens_nothing (read.Number s) no_object no_array = refl
opens_nothing (read.Bool b) no_object no_array = refl
opens_nothing read.Null no_object no_array = refl
opens_nothing read.Bad no_object no_array = refl

pub leaf_taken : (result : Result Tree ReadError) (levels : ℕ) (t : Read) (ts rest : List Token) → ¬ t ≡ read.BeginObject → ¬ t ≡ read.BeginArray → ts ≡ token_of t ∷ rest → Finds view result (leaf (token_of t)) → Takes view result rest (data_in levels ts)
leaf_taken (Ok v) levels t ts rest no_object no_array is found = ap (data_in levels) is ∙ leaf_is levels (token_of t) rest (opens_nothing t no_object no_array) ∙ ap (option_map (λ d. (d, rest))) found
leaf_taken (Err NotJson) levels t ts rest no_object no_array is found = ap (data_in levels) is ∙ leaf_is levels (token_of t) rest (opens_nothing t no_object no_array) ∙ ap (option_map (λ d. (d, rest))) found
leaf_taken (Err Memory) levels t ts rest no_object no_array is found = tt

pub one_taken : (result : Result Tree ReadError) (t : Token) (ts rest : List Token) → ts ≡ t ∷ rest → OnOk result (length rest < length ts)
one_taken (Ok v) t ts rest is = rw is (omega arith)
one_taken (Err error) t ts rest is = tt

-- ---- trees of trees

pub view_of_array : (v : Bor (List Tree)) → view (Array v) ≡ array (items_view v.now)
view_of_array v = search (rules, the_lemmas)

pub view_of_object : (v : Bor (List (Bor (List ℕ) × Tree))) → view (Object v) ≡ object (members_view v.now)
view_of_object v = search (rules, the_lemmas)

-- a refusal of the inside is one of the whole
pub fails_around : {A B : Type 0} (f : A → B) (inside : Option (A × List Token)) (whole : Option (B × List Token)) (error : ReadError) → whole ≡ parse_map f inside → TreeFails error inside → TreeFails error whole
fails_around f inside whole NotJson is none = rw (is, none) refl
fails_around f inside whole Memory is none = tt
