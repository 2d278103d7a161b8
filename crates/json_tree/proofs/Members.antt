-- The members of an object, one after another.
use Rattle.std.proofs.Common.{◌≡◌, ℕ, zero, suc, ◌-◌, ◌<◌, ◌≤◌, List, [], ◌∷◌, length, Option, Some, None, option_map, Ordering, Less, Equal, Greater, Bor, nat_cmp, refl, sym, ap, ◌∙◌, arith}
use Rattle.std.specs.BTreeMap.{insert_entry}
use Rattle.std.specs.Cmp.Lexicographic.{slice_cmp}
use Rattle.std.specs.Ordering.{match_ordering}
use Rattle.json.specs.Token.{Token}
use Rattle.json.specs.Json as json
use Rattle.json.specs.Json.{Parse, parse_map, read_key, members}
use Rattle.json.proofs.Grammar.{members_end, members_fail, members_more, members_no_key, read_key-shorter}
use Rattle.serde_json.specs.Data.{Data, Members, put}
use Rattle.serde_json.specs.Read.{converted, of_json, of_members}
use Rattle.json_tree.specs.Answers.{TreeFails}
use Rattle.json_tree.specs.Tokens.{data_in, members_in}
use Rattle.json_tree.specs.View.{members_view, view}
use Rattle.json_tree.specs.declared.reading.ReadError.{ReadError}
use Rattle.json_tree.specs.declared.reading.ReadError.TheVariants.{NotJson, Memory}
use Rattle.json_tree.specs.declared.tree.Tree.{Tree}
use Rattle.json_tree.proofs.Parts.{converted_from}

abbrev pub Entry : Type 0
Entry = Bor (List ℕ) × Tree

-- ---- the map

-- the order of keys
abbrev pub key_cmp : Bor (List ℕ) → Bor (List ℕ) → Ordering
key_cmp a b = slice_cmp nat_cmp a.now b.now

by_order : (o : Ordering) (less equal greater : List Entry) → members_view (match_ordering o less equal greater) ≡ match_ordering o (members_view less) (members_view equal) (members_view greater)
by_order Less less equal greater = refl
by_order Equal less equal greater = refl
by_order Greater less equal greater = refl

inserted : (es : List Entry) (key : Bor (List ℕ)) (v : Tree) → members_view (insert_entry key_cmp es key v) ≡ put key.now (view v) (members_view es)
inserted [] key v = refl
inserted (e ∷ es) key v = by_order (key_cmp key e.0) _ _ _ ∙ rw (inserted es key v) refl

-- ---- one turn

first_made : (key : List ℕ) (j : json.Json) (d : Data) (old : Members) (o : Option (json.Members × List Token)) → of_json j ≡ Some d → converted (λ ms. of_members ms old) (parse_map (json.member key j) o) ≡ converted (λ ms. of_members ms (put key d old)) o
first_made key j d old None is = refl
first_made key j d old (Some q) is = rw is refl

first_refused : (key : List ℕ) (j : json.Json) (old : Members) (o : Option (json.Members × List Token)) → of_json j ≡ None → converted (λ ms. of_members ms old) (parse_map (json.member key j) o) ≡ None
first_refused key j old None none = refl
first_refused key j old (Some q) none = rw none refl

pub not_made : {B : Type 0} (o : Option B) (r : List Token) → option_map {U = B × List Token} (λ y. (y, r)) o ≡ None → o ≡ None
not_made None r e = refl
not_made (Some y) r e = absurd (cc)

no_turns : (p : Parse json.Json) (old : Members) (ts : List Token) → converted (λ ms. of_members ms old) (members p 0 ts) ≡ None
unfolding members
no_turns p old ts = refl

refused_at : (p : Parse json.Json) (n : ℕ) (old : Members) (key : List ℕ) (ts behind : List Token) (o : Option (json.Json × List Token)) → p behind ≡ o → read_key ts ≡ Some (Some key, behind) → converted of_json o ≡ None → converted (λ ms. of_members ms old) (members p n ts) ≡ None
refused_at p n old key ts behind None read named none = ap (converted (λ ms. of_members ms old)) (members_fail p n key ts behind named read)
refused_at p zero old key ts behind (Some q) read named none = no_turns p old ts
refused_at p (suc n) old key ts behind (Some q) read named none =
    ap (converted (λ ms. of_members ms old)) (members_more p (suc n) key ts behind q.1 q.0 (omega arith) named read) ∙ first_refused key q.0 old _ (not_made (of_json q.0) q.1 none)

-- ---- the loop

-- the members that are still to be read, put into those that were, are the whole
unfoldable pub LeadTo : Option (Members × List Token) → ℕ → List Entry → List Token → Type 0
LeadTo whole levels done ts = (n : ℕ) × (length ts ≤ n) × (whole ≡ converted (λ ms. of_members ms (members_view done)) (members (json.value levels) n ts))

pub begins : (levels : ℕ) (done : List Entry) (ts : List Token) → done ≡ [] → LeadTo (members_in levels ts) levels done ts
unfolding LeadTo
begins levels done ts none = (length ts, omega arith, rw none refl)

-- a member was read and put
pub goes_on : (whole : Option (Members × List Token)) (levels : ℕ) (done further : List Entry) (ts behind rest : List Token) (key : Bor (List ℕ)) (v : Tree) → LeadTo whole levels done ts → read_key ts ≡ Some (Some key.now, behind) → data_in levels behind ≡ Some (view v, rest)
    → further ≡ insert_entry key_cmp done key v → length rest < length behind → LeadTo whole levels further rest
unfolding LeadTo
goes_on whole levels done further ts behind rest key v leads named read put_in less =
    let n = leads.0 in
    let p = json.value levels in
    let j = converted_from of_json (p behind) (view v) rest read in
    let shorter = read_key-shorter ts (Some key.now) behind named in
    let seen : members_view further ≡ put key.now (view v) (members_view done) = ap members_view put_in ∙ inserted done key v in
    let turn : converted (λ ms. of_members ms (members_view done)) (members p n ts) ≡ converted (λ ms. of_members ms (members_view further)) (members p (n - 1) rest) =
    ap (converted (λ ms. of_members ms (members_view done))) (members_more p n key.now ts behind rest j.0 (omega (arith, leads.1)) named j.1)
    ∙ first_made key.now j.0 (view v) (members_view done) _ j.2 ∙ ap (λ found. converted (λ ms. of_members ms found) (members p (n - 1) rest)) (sym seen) in
    (n - 1, omega (arith, leads.1), leads.2 ∙ turn)

-- there is no further member
pub ends : (whole : Option (Members × List Token)) (levels : ℕ) (done : List Entry) (ts rest : List Token) → LeadTo whole levels done ts → read_key ts ≡ Some (None, rest) → whole ≡ Some (members_view done, rest)
unfolding LeadTo
ends whole levels done ts rest leads over = leads.2 ∙ ap (converted (λ ms. of_members ms (members_view done))) (members_end (json.value levels) leads.0 ts rest leads.1 over)

-- what comes next is no key
pub no_key : (whole : Option (Members × List Token)) (levels : ℕ) (done : List Entry) (ts : List Token) → LeadTo whole levels done ts → read_key ts ≡ None → whole ≡ None
unfolding LeadTo
no_key whole levels done ts leads none = leads.2 ∙ ap (converted (λ ms. of_members ms (members_view done))) (members_no_key (json.value levels) leads.0 ts none)

-- what stands under the key is no value
pub fails : (whole : Option (Members × List Token)) (levels : ℕ) (done : List Entry) (key : List ℕ) (ts behind : List Token) (error : ReadError) → LeadTo whole levels done ts → read_key ts ≡ Some (Some key, behind) → TreeFails error (data_in levels behind) → TreeFails error whole
unfolding LeadTo
fails whole levels done key ts behind NotJson leads named none = leads.2 ∙ refused_at (json.value levels) leads.0 (members_view done) key ts behind _ refl named none
fails whole levels done key ts behind Memory leads named none = tt
