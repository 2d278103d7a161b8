-- Reading the pairs of a lock one after another.
use Rattle.std.proofs.Common.{◌≡◌, ℕ, ◌+◌, ◌<◌, ◌≤◌, List, [], ◌∷◌, ◌++◌, length, drop, get_or, map, Some, None, Result, Ok, Err, refl, sym, ◌∙◌, ap}
use Rattle.std.proofs.lemmas.List.{drop_all, append-nil}
use Rattle.serde_json.specs.Data.{Data, array, Items, item, no_items}
use Rattle.json_tree.specs.View.{view, items_view}
use Rattle.json_tree.specs.declared.tree.Tree.{Tree}
use Rattle.flow_values.specs.Answers.{PartFails, IsUnder}
use Rattle.flow_values.specs.Faults.{Path, at, misshapen, to_part, ◌>>=◌}
use Rattle.flow_values.specs.Expressions.{expression_in}
use Rattle.flow_values.specs.Values.{name_in}
use Rattle.flow_values.specs.declared.faults.PartError.{PartError}
use Rattle.flow_values.specs.declared.faults.PartError.TheVariants.{Misshapen, Memory}
use Rattle.flow_values.proofs.Parts.{items_from}
use Rattle.flow_syntax.specs.declared.syntax.Locked.{Locked}
use Rattle.flow_syntax.specs.Syntax as plain
use Rattle.flow_syntax.specs.Views.{locked_of}
use Rattle.flow_reader.specs.Statements.{locked_in, pairs_from, two_parts}

-- an array of two parts is a class and what gives a key
pub locked_there : (ds : Items) (c k : Data) → Some (c, k) ≡ two_parts ds → locked_in (array ds) ≡ (at (to_part 0) (name_in c) >>= λ class. at (to_part 1) (expression_in k) >>= λ key. Ok (record { class = class; key = key }))
locked_there no_items c k is = absurd (cc is)
locked_there (item a no_items) c k is = absurd (cc is)
locked_there (item a (item b no_items)) c k is = let pair : (c, k) ≡ (a, b) = cc is in let first : c ≡ a = ap (λ (p : Data × Data). p.0) pair in let second : k ≡ b = ap (λ (p : Data × Data). p.1) pair in rw (first, second) refl
locked_there (item a (item b (item d ds))) c k is = absurd (cc is)

pub locked_not_there : (ds : Items) → None ≡ two_parts ds → locked_in (array ds) ≡ misshapen
locked_not_there no_items is = refl
locked_not_there (item a no_items) is = refl
locked_not_there (item a (item b no_items)) is = absurd (cc is)
locked_not_there (item a (item b (item d ds))) is = refl

-- the pairs that are still to be read, from this place on, behind those that were
abbrev pub with_rest : List Locked → ℕ → Items → Result (List plain.Locked) Path
with_rest done i ds = pairs_from i ds >>= λ rest. Ok (map locked_of done ++ rest)

one_behind : (done : List Locked) (e : Locked) (rest : List plain.Locked) → map locked_of (done ++ e ∷ []) ++ rest ≡ map locked_of done ++ (locked_of e ∷ rest)
one_behind [] e rest = refl
one_behind (d ∷ ds) e rest = ap (λ (l : List plain.Locked). locked_of d ∷ l) (one_behind ds e rest)

with_first : (done : List Locked) (e : Locked) (rest : Result (List plain.Locked) Path) → (rest >>= (λ es. Ok (locked_of e ∷ es)) >>= λ es. Ok (map locked_of done ++ es)) ≡ (rest >>= λ es. Ok (map locked_of (done ++ e ∷ []) ++ es))
with_first done e (Err path) = refl
with_first done e (Ok es) = rw (one_behind done e es) refl

-- nothing was read yet
pub begins : (vs : List Tree) → with_rest [] 0 (items_view (drop 0 vs)) ≡ pairs_from 0 (items_view vs)
begins vs = same (pairs_from 0 (items_view vs)) where
  same : (read : Result (List plain.Locked) Path) → (read >>= λ rest. Ok (map locked_of [] ++ rest)) ≡ read
  same (Ok es) = refl
  same (Err path) = refl

-- a pair was read
pub goes_on : (whole : Result (List plain.Locked) Path) (done : List Locked) (vs : List Tree) (i : ℕ) (v : Tree) (e : Locked) → i < length vs → v ≡ get_or vs i v → with_rest done i (items_view (drop i vs)) ≡ whole → locked_in (view v) ≡ Ok (locked_of e) → with_rest (done ++ e ∷ []) (i + 1) (items_view (drop (i + 1) vs)) ≡ whole
goes_on whole done vs i v e lt here before is = sym (with_first done e (pairs_from (i + 1) (items_view (drop (i + 1) vs)))) ∙ sym (rw (items_from vs i v lt here, is) refl) ∙ before

-- a part is no pair
pub ends : (whole : Result (List plain.Locked) Path) (done : List Locked) (vs : List Tree) (i : ℕ) (v : Tree) (error further : PartError) → i < length vs → v ≡ get_or vs i v → with_rest done i (items_view (drop i vs)) ≡ whole → PartFails error (locked_in (view v)) → IsUnder (to_part i) error further → PartFails further whole
ends whole done vs i v (Misshapen path) (Misshapen outer) lt here before is under = sym before ∙ rw (items_from vs i v lt here, is, under) refl
ends whole done vs i v Memory (Misshapen outer) lt here before is under = absurd under
ends whole done vs i v (Misshapen path) Memory lt here before is under = tt
ends whole done vs i v Memory Memory lt here before is under = tt

-- all parts were read
pub all : (vs : List Tree) (done : List Locked) (i : ℕ) → length vs ≤ i → with_rest done i (items_view (drop i vs)) ≡ pairs_from 0 (items_view vs) → pairs_from 0 (items_view vs) ≡ Ok (map locked_of done)
all vs done i past is = sym is ∙ rw (drop_all i vs past, append-nil) refl
