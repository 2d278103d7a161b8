-- Reading the members of an object one after another.
use Rattle.std.proofs.Common.{◌≡◌, ℕ, ◌+◌, ◌<◌, ◌≤◌, ◌&&◌, List, ◌∷◌, length, drop, get_or, Bool, true, false, Result, Ok, refl, sym, ◌∙◌, add-one}
use Rattle.std.proofs.Math.Seq.{drop-cons}
use Rattle.std.proofs.lemmas.List.{drop_all}
use Rattle.std.specs.Ordering.{nat_cmp}
use Rattle.std.specs.Cmp.Lexicographic.{slice_cmp}
use Rattle.std.specs.BTreeMap.{insert_entry}
use Rattle.flow_syntax.specs.Views.{named_by}
use Rattle.flow_syntax.proofs.Maps.{put_into}
use Rattle.serde_json.specs.Data.{Data}
use Rattle.json_tree.specs.View.{view, members_view}
use Rattle.json_tree.proofs.Members.{Entry}
use Rattle.dura_value.specs.Names.{is_name}
use Rattle.flow_syntax.specs.Syntax.{Named, put_in}
use Rattle.flow_values.specs.Answers.{PartFails}
use Rattle.flow_reader.specs.Classes.{have_names, named_after}
use Rattle.flow_values.specs.Faults.{Path, at, to_key}
use Rattle.flow_values.specs.declared.faults.PartError.{PartError}
use Rattle.flow_values.proofs.Parts.{ends_then}

left_is : (a b : Bool) → a && b ≡ true → a ≡ true
left_is true b h = refl
left_is false b h = h

right_is : (a b : Bool) → a && b ≡ true → b ≡ true
right_is true b h = h
right_is false b h = absurd (cc h)

-- the members that are left, from the one that is looked at
from : (es : List Entry) (i : ℕ) (e : Entry) → i < length es → e ≡ get_or es i e → drop i es ≡ e ∷ drop (i + 1) es
from es i e lt at = rw (add-one, drop-cons es i e lt, ← at) refl

-- whether the keys are names, from this place on
abbrev pub names_from : ℕ → List Entry → Bool
names_from i es = have_names (members_view (drop i es))

pub name_here : (es : List Entry) (i : ℕ) (e : Entry) (whole : Bool) → i < length es → e ≡ get_or es i e → names_from i es ≡ whole → is_name e.0.now ≡ true → names_from (i + 1) es ≡ whole
name_here es i e whole lt at so_far named = rw (from es i e lt at, named) at so_far

pub no_name_here : (es : List Entry) (i : ℕ) (e : Entry) (whole : Bool) → i < length es → e ≡ get_or es i e → names_from i es ≡ whole → is_name e.0.now ≡ false → whole ≡ false
no_name_here es i e whole lt at so_far named = sym so_far ∙ rw (from es i e lt at, named) refl

pub all_names : (es : List Entry) (i : ℕ) (whole : Bool) → length es ≤ i → names_from i es ≡ whole → whole ≡ true
all_names es i whole past so_far = sym so_far ∙ rw (drop_all i es past) refl

-- the first key is a name, and so are those behind it
pub first_is_name : (es : List Entry) (i : ℕ) (e : Entry) → i < length es → e ≡ get_or es i e → names_from i es ≡ true → is_name e.0.now ≡ true
first_is_name es i e lt at names = left_is (is_name e.0.now) (names_from (i + 1) es) (rw (from es i e lt at) at names)

pub rest_are_names : (es : List Entry) (i : ℕ) (e : Entry) → i < length es → e ≡ get_or es i e → names_from i es ≡ true → names_from (i + 1) es ≡ true
rest_are_names es i e lt at names = right_is (is_name e.0.now) (names_from (i + 1) es) (rw (from es i e lt at) at names)

-- a member was read
goes_on : {X : Type 0} (read : Data → Result X Path) (whole : Result (List (Named X)) Path) (done : List (Named X)) (es : List Entry) (i : ℕ) (e : Entry) (it : X) → i < length es → e ≡ get_or es i e → named_after read done (members_view (drop i es)) ≡ whole → at (to_key e.0.now) (read (view e.1)) ≡ Ok it
    → named_after read (put_in done e.0.now it) (members_view (drop (i + 1) es)) ≡ whole
goes_on read whole done es i e it lt at before here = rw (from es i e lt at, here) at before

-- a member was read, and went into a map
pub put : {X Y : Type 0} (read : Data → Result Y Path) (show : X → Y) (whole : Result (List (Named Y)) Path) (before new : List (List ℕ × X)) (es : List Entry) (i : ℕ) (e : Entry) (name : List ℕ) (it : X) → i < length es → e ≡ get_or es i e → name ≡ e.0.now → new ≡ insert_entry (slice_cmp nat_cmp) before name it
    → named_after read (named_by show before) (members_view (drop i es)) ≡ whole → at (to_key name) (read (view e.1)) ≡ Ok (show it) → named_after read (named_by show new) (members_view (drop (i + 1) es)) ≡ whole
put read show whole before new es i e name it lt here named inserted so_far read_is =
    let behind : named_by show new ≡ put_in (named_by show before) name (show it) = put_into show before new name it inserted in
    rw (behind, named) (goes_on read whole (named_by show before) es i e (show it) lt here so_far (rw named at read_is))

-- a member has a fault
pub ends : {X : Type 0} (read : Data → Result X Path) (whole : Result (List (Named X)) Path) (done : List (Named X)) (es : List Entry) (i : ℕ) (e : Entry) (name : List ℕ) (error : PartError) → i < length es → e ≡ get_or es i e → name ≡ e.0.now → named_after read done (members_view (drop i es)) ≡ whole → PartFails error (at (to_key name) (read (view e.1))) → PartFails error whole
ends read whole done es i e name error lt here named before fails =
    let first : named_after read done (members_view (e ∷ drop (i + 1) es)) ≡ whole = rw (from es i e lt here) at before in
    rw (← first) (ends_then _ _ error (rw named at fails))

-- all members were read
pub all : {X : Type 0} (read : Data → Result X Path) (whole : Result (List (Named X)) Path) (done : List (Named X)) (es : List Entry) (i : ℕ) → length es ≤ i → named_after read done (members_view (drop i es)) ≡ whole → whole ≡ Ok done
all read whole done es i past so_far = sym so_far ∙ rw (drop_all i es past) refl
