-- What is put into a map and looked up in it, as its entries in order say it.
use Rattle.std.proofs.Common.{◌≡◌, ◌∙◌, ℕ, List, [], ◌∷◌, true, false, if◌then◌else◌, Option, Some, None, option_map, option_copied, Bor, refl, ap, sym}
use Rattle.std.specs.declared.cmp.Ordering.{Ordering}
use Rattle.std.specs.declared.cmp.Ordering.TheVariants.{Less, Equal, Greater}
use Rattle.std.specs.Ordering.{nat_cmp, is_lt, is_eq, match_ordering}
use Rattle.std.specs.Cmp.Lexicographic.{slice_cmp, nat_list_eq_equiv}
use Rattle.std.specs.BTreeMap.{insert_entry}
use Rattle.std.specs.Map.{lookup}
use Rattle.std.proofs.lemmas.Map.Text.{is_eq-slice_cmp}
use Rattle.dura_value.proofs.Bytes.{is_lt-slice_cmp}
use Rattle.flow_syntax.specs.Syntax.{Named, put_in, look_up}
use Rattle.flow_syntax.specs.Views.{named_by}

by_tests : {X : Type 0} (o : Ordering) (a b c : X) → match_ordering o a b c ≡ (if is_lt o then a else (if is_eq o then b else c))
by_tests Less a b c = refl
by_tests Equal a b c = refl
by_tests Greater a b c = refl

-- what is put into a map's entries is put into the list
pub named_by-insert_entry : {X Y : Type 0} (view : X → Y) (es : List (List ℕ × X)) (k : List ℕ) (v : X) → named_by view (insert_entry (slice_cmp nat_cmp) es k v) ≡ put_in (named_by view es) k (view v)
named_by-insert_entry view [] k v = refl
named_by-insert_entry {X = X} {Y = Y} view (e ∷ es) k v =
    let there : Named Y = record { name = e.0; it = view e.1 } in
    let fresh : Named Y = record { name = k; it = view v } in
    let same : Named Y = record { name = e.0; it = view v } in
    let more : List (Named Y) = named_by view es in
    rw (is_lt-slice_cmp k e.0, ← is_eq-slice_cmp k e.0)
    (elim (slice_cmp nat_cmp k e.0) as (λ o. named_by view (match_ordering o ((k, v) ∷ e ∷ es) ((e.0, v) ∷ es) (e ∷ insert_entry (slice_cmp nat_cmp) es k v)) ≡ (if is_lt o then fresh ∷ there ∷ more else (if is_eq o then same ∷ more else there ∷ put_in more k (view v)))) [
      | Less ↦ refl
      | Equal ↦ refl
      | Greater ↦ ap (λ (l : List (Named Y)). there ∷ l) (named_by-insert_entry view es k v)
    ])

-- what a look-up in a map finds is under the name in the list
pub look_up-named_by : {X Y : Type 0} (view : X → Y) (es : List (List ℕ × X)) (k : List ℕ) → look_up (named_by view es) k ≡ option_map view (lookup (λ q. is_eq (slice_cmp nat_cmp k q)) es)
look_up-named_by view [] k = refl
look_up-named_by view (e ∷ es) k =
    rw (nat_list_eq_equiv.symm e.0 k, ← is_eq-slice_cmp k e.0)
    (elim (is_eq (slice_cmp nat_cmp k e.0)) as (λ b. (if b then Some (view e.1) else look_up (named_by view es) k) ≡ option_map view (if b then Some e.1 else lookup (λ q. is_eq (slice_cmp nat_cmp k q)) es)) [
      | true ↦ refl
      | false ↦ look_up-named_by view es k
    ])

-- ---- as the contracts of maps say it

pub put_into : {X Y : Type 0} (view : X → Y) (es new : List (List ℕ × X)) (k : List ℕ) (v : X) → new ≡ insert_entry (slice_cmp nat_cmp) es k v → named_by view new ≡ put_in (named_by view es) k (view v)
put_into view es new k v is = ap (named_by view) is ∙ named_by-insert_entry view es k v

pub found_in : {X Y : Type 0} (view : X → Y) (es : List (List ℕ × X)) (k : List ℕ) (found : Option X) → found ≡ lookup (λ q. is_eq (slice_cmp nat_cmp k q)) es → option_map view found ≡ look_up (named_by view es) k
found_in view es k found is = ap (option_map view) is ∙ sym (look_up-named_by view es k)

pub found_at : {X Y : Type 0} (view : X → Y) (es : List (List ℕ × X)) (k : List ℕ) (found : Option (Bor X)) → option_copied found ≡ lookup (λ q. is_eq (slice_cmp nat_cmp k q)) es → option_map (λ (x : Bor X). view x.now) found ≡ look_up (named_by view es) k
found_at view es k None is = found_in view es k None is
found_at view es k (Some x) is = found_in view es k (Some x.now) is
