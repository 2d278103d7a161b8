-- What a crash leaves of a file after a write.
use Rattle.std.proofs.Common.{◌≡◌, inl, inr, true, ◌&&◌, nat_le, ℕ, ◌+◌, ◌≤◌, min, max, List, [], ◌∷◌, ◌++◌, length, take, drop, refl, sym, ◌∙◌, ap, arith, length-append, length-take, length-drop, append_assoc}
use Rattle.std.proofs.lemmas.Bool.{and_parts, leb-true, cases_lt}
use Rattle.std.proofs.lemmas.Slice.{drop-append-drop}
use Rattle.std.proofs.lemmas.List.{take-take, take_min, take_at, take_all, drop_all}
use Rattle.site_model.specs.History.{Change, wrote, synced, put, reads, Torn, Leaves, writes_inside}

-- a write may leave all as it was
pub torn_as_it_was : (at size : ℕ) (old : List ℕ) → Torn at size old old
torn_as_it_was at size old = record {
  before = take_min at old;
  behind = ap (λ (l : List ℕ). drop (at + size) l) (take_all (length old) old (omega arith));
  no_shorter = omega arith;
  no_longer = omega arith;
}

-- what stands before the range stays
pub torn_front : (n at size : ℕ) (old new : List ℕ) → n ≤ at → n ≤ length old → Torn at size old new → take n new ≡ take n old
torn_front n at size old new low within torn =
    sym (take-take n (min at (length old)) new (omega arith)) ∙ ap (λ (l : List ℕ). take n l) torn.before ∙ take-take n at old low

-- a file that the range lies within keeps its length and what stands behind the range
pub torn_within : (at size : ℕ) (old new : List ℕ) → at + size ≤ length old → Torn at size old new → (length new ≡ length old) × (drop (at + size) new ≡ drop (at + size) old)
torn_within at size old new within torn =
    let same : length new ≡ length old = omega (arith, torn.no_shorter, torn.no_longer) in
    (same, ap (λ (l : List ℕ). drop (at + size) l) (sym (take_all (length old) new (omega arith))) ∙ torn.behind)

pub length-put : (at : ℕ) (bytes old : List ℕ) → at ≤ length old → length (put at bytes old) ≡ max (length old) (at + length bytes)
length-put at bytes old within =
    omega (arith, length-append (take at old ++ bytes) (drop (at + length bytes) old), length-append (take at old) bytes, length-take at old, length-drop (at + length bytes) old)

front_put : (at : ℕ) (bytes old : List ℕ) → at ≤ length old → length (take at old ++ bytes) ≡ at + length bytes
front_put at bytes old within = omega (arith, length-append (take at old) bytes, length-take at old)

-- what stands before the bytes and behind them
pub take-put : (at : ℕ) (bytes old : List ℕ) → at ≤ length old → take at (put at bytes old) ≡ take at old
take-put at bytes old within =
    ap (λ (l : List ℕ). take at l) (append_assoc (take at old) bytes (drop (at + length bytes) old))
    ∙ take_at (take at old) (bytes ++ drop (at + length bytes) old) at (omega (arith, length-take at old))

pub drop-put : (n at : ℕ) (bytes old : List ℕ) → at ≤ length old → at + length bytes ≤ n → drop n (put at bytes old) ≡ drop n old
drop-put n at bytes old within past = drop-append-drop (at + length bytes) old (take at old ++ bytes) n past (front_put at bytes old within)

-- a write that stands as it was asked for is one of the ways in which it may be torn
pub torn_put : (at size : ℕ) (bytes old : List ℕ) → at ≤ length old → length bytes ≤ size → Torn at size old (put at bytes old)
torn_put at size bytes old within fits =
    let long = length-put at bytes old within in
    record {
      before = ap (λ (n : ℕ). take n (put at bytes old)) min_is ∙ take-put at bytes old within;
      behind = elim (cases_lt (at + size) (length old)) [
        | inl inside ↦
            ap (λ (l : List ℕ). drop (at + size) l) (take_all (length old) (put at bytes old) (omega (arith, long)))
            ∙ drop-put (at + size) at bytes old within (omega arith)
        | inr past ↦
            drop_all (at + size) (take (length old) (put at bytes old)) (omega (arith, length-take (length old) (put at bytes old)))
            ∙ sym (drop_all (at + size) old (omega arith))
      ];
      no_shorter = omega (arith, long);
      no_longer = omega (arith, long);
    }
  where
    min_is : min at (length old) ≡ at
    min_is = omega arith

-- what a read gives is one of the crash images
pub reads_is_image : (changes : List Change) → writes_inside changes ≡ true → Leaves changes (reads changes)
reads_is_image [] inside = refl
reads_is_image (synced ∷ changes) inside = refl
reads_is_image (wrote at size bytes ∷ changes) inside =
    let parts = and_parts (nat_le at (length (reads changes)) && nat_le (length bytes) size) (writes_inside changes) inside in
    let sizes = and_parts (nat_le at (length (reads changes))) (nat_le (length bytes) size) parts.0 in
    (reads changes, reads_is_image changes parts.1, torn_put at size bytes (reads changes) (leb-true _ _ sizes.0) (leb-true _ _ sizes.1))
