-- Entries around one of them.
use Rattle.std.proofs.Common.{◌≡◌, Bool, true, false, cond, [], ◌∷◌, ◌++◌, Option, Some, None, option_map, refl, ap, sym, ◌∙◌, subst, inl, inr}
use Rattle.std.specs.Option.{option_or}
use Rattle.shared_trees.specs.Places.{Place, is_before, is_same}
use Rattle.shared_trees.specs.Entries.{Entries, AllPlaces, IsSorted, find, first_from, at_place, Changes}
use Rattle.shared_trees.proofs.Orders.{before_trans, before_other, behind_other, same_itself, in_order}

module _ {X : Type 0} where
  pub all_map : (P Q : Place → Bool) → ((y : Place) → P y ≡ true → Q y ≡ true) → (es : Entries X) → AllPlaces P es → AllPlaces Q es
  all_map P Q f [] a = tt
  all_map P Q f (e ∷ es) a = (f e.0 a.0, all_map P Q f es a.1)

  pub all_front : (P : Place → Bool) (l m : Entries X) → AllPlaces P (l ++ m) → AllPlaces P l
  all_front P [] m a = tt
  all_front P (e ∷ l) m a = (a.0, all_front P l m a.1)

  pub all_back : (P : Place → Bool) (l m : Entries X) → AllPlaces P (l ++ m) → AllPlaces P m
  all_back P [] m a = a
  all_back P (e ∷ l) m a = all_back P l m a.1

  pub all_both : (P : Place → Bool) (l m : Entries X) → AllPlaces P l → AllPlaces P m → AllPlaces P (l ++ m)
  all_both P [] m a b = b
  all_both P (e ∷ l) m a b = (a.0, all_both P l m a.1 b)

  none_first : (b : Bool) (o : Option X) → b ≡ false → cond b o None ≡ None
  none_first true o is = absurd (cc is)
  none_first false o is = refl

  is_other : (e : Place × Option X) (at : Place) → is_same e.0 at ≡ false → (rest : Option X) → option_or (cond (is_same e.0 at) e.1 None) rest ≡ rest
  is_other e at other rest = ap (λ o. option_or o rest) (none_first (is_same e.0 at) e.1 other)

  -- nothing is found before all places
  pub none_behind : (es : Entries X) (at : Place) → AllPlaces (is_before at) es → find es at ≡ None
  none_behind [] at a = refl
  none_behind (e ∷ es) at a = is_other e at (behind_other at e.0 a.0) (find es at) ∙ none_behind es at a.1

  -- nothing is found behind all places
  pub none_before : (es : Entries X) (at : Place) → AllPlaces (λ y. is_before y at) es → find es at ≡ None
  none_before [] at a = refl
  none_before (e ∷ es) at a = is_other e at (before_other e.0 at a.0) (find es at) ∙ none_before es at a.1

  or_assoc : (a b c : Option X) → option_or (option_or a b) c ≡ option_or a (option_or b c)
  or_assoc None b c = refl
  or_assoc (Some x) b c = refl

  pub or_none : (a : Option X) → option_or a None ≡ a
  or_none None = refl
  or_none (Some x) = refl

  pub find_append : (l r : Entries X) (at : Place) → find (l ++ r) at ≡ option_or (find l at) (find r at)
  find_append [] r at = refl
  find_append (e ∷ l) r at =
      ap (option_or (cond (is_same e.0 at) e.1 None)) (find_append l r at) ∙ sym (or_assoc (cond (is_same e.0 at) e.1 None) (find l at) (find r at))

  -- What is known of entries before a place, and of those behind it.
  pub record Parts (l : Entries X) (k : Place) (r : Entries X) : Type 0 where
    pub left : IsSorted l
    pub below : AllPlaces (λ y. is_before y k) l
    pub right : IsSorted r
    pub above : AllPlaces (is_before k) r

  pub parts : (l : Entries X) (k : Place) (x : Option X) (r : Entries X) → IsSorted (l ++ (k, x) ∷ r) → Parts l k r
  parts [] k x r s = record { left = tt; below = tt; right = s.1; above = s.0 }
  parts (e ∷ l) k x r s =
      let rest = parts l k x r s.1 in
      let here : is_before e.0 k ≡ true = (all_back (is_before e.0) l ((k, x) ∷ r) s.0).0 in
      record { left = (all_front (is_before e.0) l ((k, x) ∷ r) s.0, rest.left); below = (here, rest.below); right = rest.right; above = rest.above }

  pub whole : (l : Entries X) (k : Place) (x : Option X) (r : Entries X) → Parts l k r → IsSorted (l ++ (k, x) ∷ r)
  whole [] k x r p = (p.above, p.right)
  whole (e ∷ l) k x r p =
      let here : is_before e.0 k ≡ true = p.below.0 in (
        all_both (is_before e.0) l ((k, x) ∷ r) p.left.0 (here, all_map (is_before k) (is_before e.0) (λ y. before_trans e.0 k y here) r p.above),
        whole l k x r (record { left = p.left.1; below = p.below.1; right = p.right; above = p.above }),
      )

  pub joined : (l : Entries X) (k : Place) (r : Entries X) → Parts l k r → IsSorted (l ++ r)
  joined [] k r p = p.right
  joined (e ∷ l) k r p =
      let here : is_before e.0 k ≡ true = p.below.0 in (
        all_both (is_before e.0) l r p.left.0 (all_map (is_before k) (is_before e.0) (λ y. before_trans e.0 k y here) r p.above),
        joined l k r (record { left = p.left.1; below = p.below.1; right = p.right; above = p.above }),
      )

  module _ (l : Entries X) (k : Place) (r : Entries X) (p : Parts l k r) where
    none_left : (at : Place) → is_before k at ≡ true → find l at ≡ None
    none_left at h = none_before l at (all_map (λ y. is_before y k) (λ y. is_before y at) (λ y g. before_trans y k at g h) l p.below)

    none_right : (at : Place) → is_before at k ≡ true → find r at ≡ None
    none_right at h = none_behind r at (all_map (is_before k) (is_before at) (λ y. before_trans at k y h) r p.above)

    none_left_here : (at : Place) → k ≡ at → find l at ≡ None
    none_left_here at is = subst (λ y. find l y ≡ None) is (none_before l k p.below)

    none_right_here : (at : Place) → k ≡ at → find r at ≡ None
    none_right_here at is = subst (λ y. find r y ≡ None) is (none_behind r k p.above)

    module _ (x : Option X) where
      pub find_left : (at : Place) → is_before at k ≡ true → find (l ++ (k, x) ∷ r) at ≡ find l at
      find_left at h =
          find_append l ((k, x) ∷ r) at
          ∙ ap (option_or (find l at)) (is_other (k, x) at (behind_other at k h) (find r at) ∙ none_right at h) ∙ or_none (find l at)

      pub find_right : (at : Place) → is_before k at ≡ true → find (l ++ (k, x) ∷ r) at ≡ find r at
      find_right at h =
          find_append l ((k, x) ∷ r) at ∙ ap (λ o. option_or o (find ((k, x) ∷ r) at)) (none_left at h) ∙ is_other (k, x) at (before_other k at h) (find r at)

      here_first : (b : Bool) → b ≡ true → option_or (cond b x None) None ≡ x
      here_first true is = or_none x
      here_first false is = absurd (cc is)

      pub find_middle : (at : Place) → k ≡ at → find (l ++ (k, x) ∷ r) at ≡ x
      find_middle at is =
          find_append l ((k, x) ∷ r) at ∙ ap (λ o. option_or o (find ((k, x) ∷ r) at)) (none_left_here at is)
          ∙ ap (option_or (cond (is_same k at) x None)) (none_right_here at is) ∙ here_first (is_same k at) (ap (is_same k) (sym is) ∙ same_itself k)

  -- what differs by what is kept at one place, if at all
  abbrev pub changed : Bool → (Place → Option X) → Place → Option X → Place → Option X
  changed b f key w = cond b (at_place f key w) f

  cond_other : (b : Bool) (x y : Option X) → b ≡ false → cond b x y ≡ y
  cond_other true x y is = absurd (cc is)
  cond_other false x y is = refl

  cond_this : (b : Bool) (x y : Option X) → b ≡ true → cond b x y ≡ x
  cond_this true x y is = refl
  cond_this false x y is = absurd (cc is)

  changed_away : (b : Bool) (f : Place → Option X) (key : Place) (w : Option X) (q : Place) → is_same key q ≡ false → changed b f key w q ≡ f q
  changed_away true f key w q e = cond_other (is_same key q) w (f q) e
  changed_away false f key w q e = refl

  changed_alike : (b : Bool) (f g : Place → Option X) (key : Place) (w : Option X) (q : Place) → f q ≡ g q → changed b f key w q ≡ changed b g key w q
  changed_alike true f g key w q e = ap (cond (is_same key q) w) e
  changed_alike false f g key w q e = e

  module _ (l : Entries X) (k : Place) (x : Option X) (r new : Entries X) (p : Parts l k r) (b : Bool) (key : Place) (w : Option X) where
    module _ (h : is_before key k ≡ true) (c : Changes l new b key w) where
      left_parts : Parts new k r
      left_parts = record { left = c.sorted; below = c.among (λ y. is_before y k) h p.below; right = p.right; above = p.above }

      left_at : (q : Place) → find (new ++ (k, x) ∷ r) q ≡ changed b (find (l ++ (k, x) ∷ r)) key w q
      left_at q = elim (in_order k q) [
        | inl e ↦ find_middle new k r left_parts x q e ∙ sym (changed_away b (find (l ++ (k, x) ∷ r)) key w q (ap (is_same key) (sym e) ∙ before_other key k h) ∙ find_middle l k r p x q e)
        | inr s ↦ elim s [
          | inl e ↦ find_right new k r left_parts x q e ∙ sym (changed_away b (find (l ++ (k, x) ∷ r)) key w q (before_other key q (before_trans key k q h e)) ∙ find_right l k r p x q e)
          | inr e ↦ find_left new k r left_parts x q e ∙ ap (λ f. f q) c.is ∙ changed_alike b (find l) (find (l ++ (k, x) ∷ r)) key w q (sym (find_left l k r p x q e))
        ]
      ]

      -- a change on the left
      pub left_changes : Changes (l ++ (k, x) ∷ r) (new ++ (k, x) ∷ r) b key w
      left_changes = record {
        is = λ i q. left_at q i;
        sorted = whole new k x r left_parts;
        among = λ P at all. all_both P new ((k, x) ∷ r) (c.among P at (all_front P l ((k, x) ∷ r) all)) (all_back P l ((k, x) ∷ r) all);
      }

    module _ (h : is_before k key ≡ true) (c : Changes r new b key w) where
      right_parts : Parts l k new
      right_parts = record { left = p.left; below = p.below; right = c.sorted; above = c.among (is_before k) h p.above }

      right_at : (q : Place) → find (l ++ (k, x) ∷ new) q ≡ changed b (find (l ++ (k, x) ∷ r)) key w q
      right_at q = elim (in_order k q) [
        | inl e ↦ find_middle l k new right_parts x q e ∙ sym (changed_away b (find (l ++ (k, x) ∷ r)) key w q (ap (is_same key) (sym e) ∙ behind_other k key h) ∙ find_middle l k r p x q e)
        | inr s ↦ elim s [
          | inl e ↦ find_right l k new right_parts x q e ∙ ap (λ f. f q) c.is ∙ changed_alike b (find r) (find (l ++ (k, x) ∷ r)) key w q (sym (find_right l k r p x q e))
          | inr e ↦ find_left l k new right_parts x q e ∙ sym (changed_away b (find (l ++ (k, x) ∷ r)) key w q (behind_other q key (before_trans q k key e h)) ∙ find_left l k r p x q e)
        ]
      ]

      -- a change on the right
      pub right_changes : Changes (l ++ (k, x) ∷ r) (l ++ (k, x) ∷ new) b key w
      right_changes = record {
        is = λ i q. right_at q i;
        sorted = whole l k x new right_parts;
        among = λ P at all.
            let rest = all_back P l ((k, x) ∷ r) all in
            all_both P l ((k, x) ∷ new) (all_front P l ((k, x) ∷ r) all) (rest.0, c.among P at rest.1);
      }

  module _ (l : Entries X) (k : Place) (x y : Option X) (r : Entries X) (p : Parts l k r) where
    middle_at : (q : Place) → find (l ++ (k, y) ∷ r) q ≡ at_place (find (l ++ (k, x) ∷ r)) k y q
    middle_at q = elim (in_order k q) [
      | inl e ↦ find_middle l k r p y q e ∙ sym (cond_this (is_same k q) y (find (l ++ (k, x) ∷ r) q) (ap (is_same k) (sym e) ∙ same_itself k))
      | inr s ↦ elim s [
        | inl e ↦ find_right l k r p y q e ∙ sym (cond_other (is_same k q) y (find (l ++ (k, x) ∷ r) q) (before_other k q e) ∙ find_right l k r p x q e)
        | inr e ↦ find_left l k r p y q e ∙ sym (cond_other (is_same k q) y (find (l ++ (k, x) ∷ r) q) (behind_other q k e) ∙ find_left l k r p x q e)
      ]
    ]

    -- another value in the middle
    pub middle_changes : Changes (l ++ (k, x) ∷ r) (l ++ (k, y) ∷ r) true k y
    middle_changes = record { is = λ i q. middle_at q i; sorted = whole l k y r p; among = λ P at all. all_both P l ((k, y) ∷ r) (all_front P l ((k, x) ∷ r) all) (at, (all_back P l ((k, x) ∷ r) all).1) }

  module _ (l : Entries X) (k : Place) (x : Option X) (r : Entries X) (p : Parts l k r) where
    gone_at : (q : Place) → find (l ++ r) q ≡ at_place (find (l ++ (k, x) ∷ r)) k None q
    gone_at q = elim (in_order k q) [
      | inl e ↦ find_append l r q ∙ ap (λ o. option_or o (find r q)) (none_left_here l k r p q e) ∙ none_right_here l k r p q e
          ∙ sym (cond_this (is_same k q) None (find (l ++ (k, x) ∷ r) q) (ap (is_same k) (sym e) ∙ same_itself k))
      | inr s ↦ elim s [
        | inl e ↦ find_append l r q ∙ ap (λ o. option_or o (find r q)) (none_left l k r p q e)
            ∙ sym (cond_other (is_same k q) None (find (l ++ (k, x) ∷ r) q) (before_other k q e) ∙ find_right l k r p x q e)
        | inr e ↦ find_append l r q ∙ ap (option_or (find l q)) (none_right l k r p q e) ∙ or_none (find l q)
            ∙ sym (cond_other (is_same k q) None (find (l ++ (k, x) ∷ r) q) (behind_other q k e) ∙ find_left l k r p x q e)
      ]
    ]

    -- the entry in the middle is gone
    pub middle_gone : Changes (l ++ (k, x) ∷ r) (l ++ r) true k None
    middle_gone = record { is = λ i q. gone_at q i; sorted = joined l k r p; among = λ P at all. all_both P l r (all_front P l ((k, x) ∷ r) all) (all_back P l ((k, x) ∷ r) all).1 }

  -- ---- the first from a place on

  first_or : (a b c : Option (Place × X)) → option_or (option_or a b) c ≡ option_or a (option_or b c)
  first_or None b c = refl
  first_or (Some x) b c = refl

  pub first_append : (l r : Entries X) (from : Place) → first_from (l ++ r) from ≡ option_or (first_from l from) (first_from r from)
  first_append [] r from = refl
  first_append (e ∷ l) r from =
      let here = cond (is_before e.0 from) None (option_map (λ x. (e.0, x)) e.1) in
      ap (option_or here) (first_append l r from) ∙ sym (first_or here (first_from l from) (first_from r from))

  passed : (b : Bool) (here rest : Option (Place × X)) → b ≡ true → option_or (cond b None here) rest ≡ rest
  passed true here rest is = refl
  passed false here rest is = absurd (cc is)

  reached : (b : Bool) (here rest : Option (Place × X)) → b ≡ false → option_or (cond b None here) rest ≡ option_or here rest
  reached true here rest is = absurd (cc is)
  reached false here rest is = refl

  all_passed : (es : Entries X) (from : Place) → AllPlaces (λ y. is_before y from) es → first_from es from ≡ None
  all_passed [] from a = refl
  all_passed (e ∷ es) from a = passed (is_before e.0 from) (option_map (λ x. (e.0, x)) e.1) (first_from es from) a.0 ∙ all_passed es from a.1

  module _ (l : Entries X) (k : Place) (x : Option X) (r : Entries X) (from : Place) where
    -- where the place in the middle is passed, so are those before
    pub first_right : Parts l k r → is_before k from ≡ true → first_from (l ++ (k, x) ∷ r) from ≡ first_from r from
    first_right p h =
        first_append l ((k, x) ∷ r) from ∙ ap (λ o. option_or o (first_from ((k, x) ∷ r) from)) (all_passed l from (all_map (λ y. is_before y k) (λ y. is_before y from) (λ y g. before_trans y k from g h) l p.below))
        ∙ passed (is_before k from) (option_map (λ y. (k, y)) x) (first_from r from) h

    pub first_not_passed : is_before k from ≡ false → first_from (l ++ (k, x) ∷ r) from ≡ option_or (first_from l from) (option_or (option_map (λ y. (k, y)) x) (first_from r from))
    first_not_passed h = first_append l ((k, x) ∷ r) from ∙ ap (option_or (first_from l from)) (reached (is_before k from) (option_map (λ y. (k, y)) x) (first_from r from) h)

  at_twice : (b : Bool) (o : Option X) → cond b None (cond b None o) ≡ cond b None o
  at_twice true o = refl
  at_twice false o = refl

  -- what was emptied twice was emptied
  pub changed_again : (a b c : Entries X) (key : Place) → Changes a b true key None → Changes b c true key None → Changes a c true key None
  changed_again a b c key first second = record {
    is = second.is ∙ (λ i q. (ap (λ f. cond (is_same key q) None (f q)) first.is ∙ at_twice (is_same key q) (find a q)) i);
    sorted = second.sorted;
    among = λ P at all. second.among P at (first.among P at all);
  }
