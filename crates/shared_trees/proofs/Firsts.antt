-- The first entry from a place on.
use Rattle.std.proofs.Common.{◌≡◌, ◌⊎◌, inl, inr, Bool, true, false, cond, [], ◌∷◌, Option, Some, None, is_some, option_map, refl, ap, sym, ◌∙◌, subst, is_ok, Result, Ok, Err, OnOk, OnErr, IfSome, IfNone}
use Rattle.std.specs.Option.{option_or}
use Rattle.std.proofs.lemmas.Option.{none-some, same_Some}
use Rattle.shared_trees.specs.Places.{Place, is_before, is_same}
use Rattle.shared_trees.specs.Entries.{Entries, AllPlaces, IsSorted, find, first_from, at_place, Changes, IsFirstFrom, NoneFrom}
use Rattle.shared_trees.proofs.Orders.{same_place, same_itself, not_before, never}

itself_not_before : (k other : Place) → k ≡ other → is_before other k ≡ false
itself_not_before k other is = ap (λ y. is_before y k) (sym is) ∙ never k

module _ {X : Type 0} where
  by_same : (b : Bool) (o rest : Option X) → is_some (option_or (cond b o None) rest) ≡ true → ((b ≡ true) × (is_some o ≡ true)) ⊎ (is_some rest ≡ true)
  by_same true None rest is = inr is
  by_same true (Some x) rest is = inl (refl, refl)
  by_same false o rest is = inr is

  -- what is found is of the first entry or of the others
  pub found_in : (e : Place × Option X) (es : Entries X) (at : Place) → is_some (find (e ∷ es) at) ≡ true → ((e.0 ≡ at) × (is_some e.1 ≡ true)) ⊎ (is_some (find es at) ≡ true)
  found_in e es at is = elim (by_same (is_same e.0 at) e.1 (find es at) is) [
    | inl here ↦ inl (same_place e.0 at here.0, here.1)
    | inr later ↦ inr later
  ]

  -- what is true of each place is true of a place that something is kept at
  pub of_found : (P : Place → Bool) (es : Entries X) (at : Place) → AllPlaces P es → is_some (find es at) ≡ true → P at ≡ true
  of_found P [] at all is = absurd (cc is)
  of_found P (e ∷ es) at all is = elim (found_in e es at is) [
    | inl here ↦ subst (λ y. P y ≡ true) here.0 all.0
    | inr later ↦ of_found P es at all.1 later
  ]

  is_none : (o : Option X) → (is_some o ≡ true → ⊥) → o ≡ None
  is_none None off = refl
  is_none (Some x) off = absurd (off refl)

  some_is : (o : Option X) (x : X) → o ≡ Some x → is_some o ≡ true
  some_is o x is = ap is_some is

  past : (b : Bool) (o rest : Option X) (x : X) → (b ≡ true → is_some rest ≡ true → ⊥) → rest ≡ Some x → option_or (cond b o None) rest ≡ Some x
  past true o rest x off is = absurd (off refl (some_is rest x is))
  past false o rest x off is = is

  none_passed : (b : Bool) (rest : Option X) → option_or (cond b None None) rest ≡ rest
  none_passed true rest = refl
  none_passed false rest = refl

  at_first : (b : Bool) (x : X) (rest : Option X) → b ≡ true → option_or (cond b (Some x) None) rest ≡ Some x
  at_first true x rest is = refl
  at_first false x rest is = absurd (cc is)

  module _ (from : Place) where
    -- the first entry comes before: the others are left
    later_first : (e : Place × Option X) (es : Entries X) (one : Place × X) → is_before e.0 from ≡ true → IsFirstFrom (find es) from one.0 one.1 → IsFirstFrom (find (e ∷ es)) from one.0 one.1
    later_first e es one before is = record {
      found = past (is_same e.0 one.0) e.1 (find es one.0) one.1
          (λ same there. absurd (let here = same_place e.0 one.0 same in cc (sym before ∙ ap (λ y. is_before y from) here ∙ is.behind))) is.found;
      behind = is.behind;
      first = λ other there behind. elim (found_in e es other there) [
        | inl here ↦ absurd (cc (sym before ∙ ap (λ y. is_before y from) here.0 ∙ behind))
        | inr later ↦ is.first other later behind
      ];
    }

    -- the first entry has no value
    none_first : (k : Place) (es : Entries X) (one : Place × X) → IsFirstFrom (find es) from one.0 one.1 → IsFirstFrom (find ((k, None) ∷ es)) from one.0 one.1
    none_first k es one is = record {
      found = none_passed (is_same k one.0) (find es one.0) ∙ is.found;
      behind = is.behind;
      first = λ other there behind. is.first other (ap is_some (sym (none_passed (is_same k other) (find es other))) ∙ there) behind;
    }

    this_first : (k : Place) (x : X) (es : Entries X) → AllPlaces (is_before k) es → is_before k from ≡ false → IsFirstFrom (find ((k, Some x) ∷ es)) from k x
    this_first k x es above behind = record {
      found = at_first (is_same k k) x (find es k) (same_itself k);
      behind = behind;
      first = λ other there _. elim (found_in (k, Some x) es other there) [
        | inl here ↦ itself_not_before k other here.0
        | inr later ↦ not_before k other (of_found (is_before k) es other above later)
      ];
    }

    by_first : (k : Place) (v : Option X) (es : Entries X) (one : Place × X) (b : Bool) → is_before k from ≡ b → AllPlaces (is_before k) es
        → (first_from es from ≡ Some one → IsFirstFrom (find es) from one.0 one.1)
        → option_or (cond b None (option_map (λ (x : X). (k, x)) v)) (first_from es from) ≡ Some one → IsFirstFrom (find ((k, v) ∷ es)) from one.0 one.1
    by_first k v es one true before above further is = later_first (k, v) es one before (further is)
    by_first k None es one false behind above further is = none_first k es one (further is)
    by_first k (Some x) es one false behind above further is =
        let same : (k, x) ≡ one = same_Some (k, x) one is in
        subst (λ (o : Place × X). IsFirstFrom (find ((k, Some x) ∷ es)) from o.0 o.1) same (this_first k x es above behind)

    pub is_first : (es : Entries X) (one : Place × X) → IsSorted es → first_from es from ≡ Some one → IsFirstFrom (find es) from one.0 one.1
    is_first [] one sorted is = absurd (none-some one is)
    is_first (e ∷ es) one sorted is = by_first e.0 e.1 es one (is_before e.0 from) refl sorted.0 (is_first es one sorted.1) is

    none_by : (k : Place) (v : Option X) (es : Entries X) (b : Bool) → is_before k from ≡ b → (first_from es from ≡ None → NoneFrom (find es) from)
        → option_or (cond b None (option_map (λ (x : X). (k, x)) v)) (first_from es from) ≡ None → NoneFrom (find ((k, v) ∷ es)) from
    none_by k v es true before further is = λ other behind.
        is_none (find ((k, v) ∷ es) other) (λ there. elim (found_in (k, v) es other there) [
          | inl here ↦ cc (sym before ∙ ap (λ y. is_before y from) here.0 ∙ behind)
          | inr later ↦ cc (sym later ∙ ap is_some (further is other behind))
        ])
    none_by k None es false before further is = λ other behind. none_passed (is_same k other) (find es other) ∙ further is other behind
    none_by k (Some x) es false before further is = absurd (none-some (k, x) (sym is))

    pub is_none_from : (es : Entries X) → first_from es from ≡ None → NoneFrom (find es) from
    is_none_from [] is = λ other behind. refl
    is_none_from (e ∷ es) is = none_by e.0 e.1 es (is_before e.0 from) refl (is_none_from es) is

  at_here : (b : Bool) (o : Option X) → (b ≡ true → o ≡ None) → o ≡ cond b None o
  at_here true o none = none refl
  at_here false o none = refl

  -- where nothing is kept, nothing is taken out
  pub taken_none : (f : Place → Option X) (at : Place) → f at ≡ None → f ≡ at_place f at None
  taken_none f at none = λ i q. at_here (is_same at q) (f q) (λ same. ap f (sym (same_place at q same)) ∙ none) i

  pub done : {A E : Type 0} (result : Result A E) (old new : Entries X) (place : Place) (w : Option X) → Changes old new (is_ok result) place w → OnOk result (find new ≡ at_place (find old) place w)
  done (Ok y) old new place w c = c.is
  done (Err e) old new place w c = tt

  pub not_done : {A E : Type 0} (result : Result A E) (old new : Entries X) (place : Place) (w : Option X) → Changes old new (is_ok result) place w → OnErr result (find new ≡ find old)
  not_done (Ok y) old new place w c = tt
  not_done (Err e) old new place w c = c.is

  -- what a search tells of the first
  pub first_seen : {A : Type 0} (seen : A → Place × X) (result : Option A) (es : Entries X) (from : Place) → option_map seen result ≡ first_from es from → IsSorted es
      → IfSome result (λ one. IsFirstFrom (find es) from ((seen one).0) ((seen one).1))
  first_seen seen None es from is sorted = tt
  first_seen seen (Some one) es from is sorted = is_first from es (seen one) sorted (sym is)

  pub none_seen : {A : Type 0} (seen : A → Place × X) (result : Option A) (es : Entries X) (from : Place) → option_map seen result ≡ first_from es from → IfNone result (NoneFrom (find es) from)
  none_seen seen None es from is = is_none_from from es (sym is)
  none_seen seen (Some one) es from is = tt
