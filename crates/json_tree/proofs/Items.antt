-- The items of an array, one after another.
use Rattle.std.proofs.Common.{◌≡◌, ℕ, zero, suc, ◌-◌, ◌<◌, ◌≤◌, List, [], ◌∷◌, ◌++◌, length, Option, Some, None, refl, sym, ap, ◌∙◌, arith}
use Rattle.json.specs.Token.{Token}
use Rattle.json.specs.Json as json
use Rattle.json.specs.Json.{Parse, parse_map, after_end_array, items}
use Rattle.json.proofs.Grammar.{items_end, items_fail, items_more}
use Rattle.serde_json.specs.Data.{Data, Items, no_items, item}
use Rattle.serde_json.specs.Read.{converted, of_items, of_json}
use Rattle.json_tree.specs.Answers.{TreeFails}
use Rattle.json_tree.specs.Tokens.{data_in, items_in}
use Rattle.json_tree.specs.View.{items_view, view}
use Rattle.json_tree.specs.declared.reading.ReadError.{ReadError}
use Rattle.json_tree.specs.declared.reading.ReadError.TheVariants.{NotJson, Memory}
use Rattle.json_tree.specs.declared.tree.Tree.{Tree}
use Rattle.json_tree.proofs.Parts.{converted_from, mapped_last}
use Rattle.json_tree.proofs.Members.{not_made}

-- the items that trees stand for, and behind them further ones
abbrev before : List Tree → Items → Items
before [] rest = rest
before (v ∷ vs) rest = item (view v) (before vs rest)

before_none : (vs : List Tree) → before vs no_items ≡ items_view vs
before_none [] = refl
before_none (v ∷ vs) = ap (item (view v)) (before_none vs)

before_one : (vs : List Tree) (v : Tree) (rest : Items) → before (vs ++ v ∷ []) rest ≡ before vs (item (view v) rest)
before_one [] v rest = refl
before_one (w ∷ vs) v rest = ap (item (view w)) (before_one vs v rest)

before_first : (vs : List Tree) (v : Tree) (o : Option (Items × List Token)) → parse_map (before (vs ++ v ∷ [])) o ≡ parse_map (before vs) (parse_map (item (view v)) o)
before_first vs v None = refl
before_first vs v (Some q) = ap (λ ds. Some (ds, q.1)) (before_one vs v q.0)

-- ---- one turn

first_made : (j : json.Json) (d : Data) (o : Option (json.Items × List Token)) → of_json j ≡ Some d → converted of_items (parse_map (json.item j) o) ≡ parse_map (item d) (converted of_items o)
first_made j d None is = refl
first_made j d (Some q) is = rw is (mapped_last (item d) q.1 (of_items q.0))

first_refused : (j : json.Json) (o : Option (json.Items × List Token)) → of_json j ≡ None → converted of_items (parse_map (json.item j) o) ≡ None
first_refused j None none = refl
first_refused j (Some q) none = rw none refl

no_turns : (p : Parse json.Json) (ts : List Token) → converted of_items (items p 0 ts) ≡ None
unfolding items
no_turns p ts = refl

refused_at : (p : Parse json.Json) (n : ℕ) (ts : List Token) (o : Option (json.Json × List Token)) → p ts ≡ o → after_end_array ts ≡ None → converted of_json o ≡ None → converted of_items (items p n ts) ≡ None
refused_at p n ts None read open_still none = ap (converted of_items) (items_fail p n ts open_still read)
refused_at p zero ts (Some q) read open_still none = no_turns p ts
refused_at p (suc n) ts (Some q) read open_still none =
    ap (converted of_items) (items_more p (suc n) ts q.1 q.0 (omega arith) open_still read) ∙ first_refused q.0 _ (not_made (of_json q.0) q.1 none)

-- ---- the loop

-- the items that are still to be read, behind those that were, are the whole
unfoldable pub LeadTo : Option (Items × List Token) → ℕ → List Tree → List Token → Type 0
LeadTo whole levels done ts = (n : ℕ) × (length ts ≤ n) × (whole ≡ parse_map (before done) (converted of_items (items (json.value levels) n ts)))

nothing_before : (o : Option (Items × List Token)) → o ≡ parse_map (before []) o
nothing_before None = refl
nothing_before (Some q) = refl

pub begins : (levels : ℕ) (ts : List Token) → LeadTo (items_in levels ts) levels [] ts
unfolding LeadTo
begins levels ts = (length ts, omega arith, nothing_before (items_in levels ts))

-- an item was read
pub goes_on : (whole : Option (Items × List Token)) (levels : ℕ) (done : List Tree) (ts rest : List Token) (v : Tree) → LeadTo whole levels done ts → after_end_array ts ≡ None → data_in levels ts ≡ Some (view v, rest) → length rest < length ts → LeadTo whole levels (done ++ v ∷ []) rest
unfolding LeadTo
goes_on whole levels done ts rest v leads open_still read less =
    let n = leads.0 in
    let p = json.value levels in
    let j = converted_from of_json (p ts) (view v) rest read in
    let turn : converted of_items (items p n ts) ≡ parse_map (item (view v)) (converted of_items (items p (n - 1) rest)) =
    ap (converted of_items) (items_more p n ts rest j.0 (omega (arith, leads.1)) open_still j.1) ∙ first_made j.0 (view v) _ j.2 in
    (n - 1, omega (arith, leads.1), leads.2 ∙ ap (parse_map (before done)) turn ∙ sym (before_first done v _))

-- there is no further item
pub ends : (whole : Option (Items × List Token)) (levels : ℕ) (done : List Tree) (ts rest : List Token) → LeadTo whole levels done ts → after_end_array ts ≡ Some rest → whole ≡ Some (items_view done, rest)
unfolding LeadTo
ends whole levels done ts rest leads over =
    leads.2 ∙ ap (λ o. parse_map (before done) (converted of_items o)) (items_end (json.value levels) leads.0 ts rest leads.1 over) ∙ ap (λ ds. Some (ds, rest)) (before_none done)

-- what comes next is no item
pub fails : (whole : Option (Items × List Token)) (levels : ℕ) (done : List Tree) (ts : List Token) (error : ReadError) → LeadTo whole levels done ts → after_end_array ts ≡ None → TreeFails error (data_in levels ts) → TreeFails error whole
unfolding LeadTo
fails whole levels done ts NotJson leads open_still none = leads.2 ∙ ap (parse_map (before done)) (refused_at (json.value levels) leads.0 ts _ refl open_still none)
fails whole levels done ts Memory leads open_still none = tt
