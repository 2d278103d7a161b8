-- What a pick leaves is one of the crash images, and how it is made.
use Rattle.std.proofs.Common.{◌≡◌, ◌≢◌, ◌⊎◌, ◌==◌, inl, inr, ℕ, ◌+◌, ◌-◌, ◌<◌, ◌≤◌, min, Option, Some, None, Bool, true, false, cond, List, [], ◌∷◌, ◌++◌, length, take, drop, get_or, replicate, refl, sym, ◌∙◌, ap, arith, length-append, length-take, length-drop, append_assoc}
use Rattle.std.proofs.lemmas.Bool.{cases_lt}
use Rattle.std.proofs.lemmas.Grind.{same_number_lists}
use Rattle.std.proofs.lemmas.List.{drop_all, drop_at, take_at, take_all, length-replicate, get_or-replicate, get_or_append_left, get_or-append_right, get_or-take, get_or-drop}
use Rattle.site_model.specs.History.{Step, Change, on, said, wrote, synced, changes_of, Torn, Leaves, writes_inside}
use Rattle.site_model.proofs.Paths.{own_change, other_change}
use Rattle.site_model.proofs.Images.{reads_is_image, torn_as_it_was}
use Rattle.site_memory.specs.declared.pick.Pick.{Pick}
use Rattle.site_memory.specs.declared.pick.Pick.TheVariants.{Stable, All, Torn as Filled}
use Rattle.site_memory.specs.Record.{grown}
use Rattle.site_memory.specs.Picked.{filled, after_write, torn, picked}

length-front : (byte at end : ℕ) (old : List ℕ) → at ≤ end → length (take at old ++ replicate (end - min at (length old)) byte) ≡ end
length-front byte at end old order =
    omega (arith, length-append (take at old) (replicate (end - min at (length old)) byte), length-take at old, length-replicate (end - min at (length old)) byte)

torn_filled : (byte at size : ℕ) (old : List ℕ) → Torn at size old (filled byte at (at + size) old)
torn_filled byte at size old = record {
  before =
      ap (λ (l : List ℕ). take (min at (length old)) l) (append_assoc (take at old) middle (drop (at + size) old))
      ∙ take_at (take at old) (middle ++ drop (at + size) old) (min at (length old)) (length-take at old);
  behind = elim (cases_lt (at + size) (length old)) [
    | inl shorter ↦
        ap (λ (l : List ℕ). drop (at + size) l) (take_all (length old) (filled byte at (at + size) old) (omega (arith, long)))
        ∙ drop_at (take at old ++ middle) (drop (at + size) old) (at + size) (length-front byte at (at + size) old (omega arith))
    | inr past ↦
        drop_all (at + size) (take (length old) (filled byte at (at + size) old)) (omega (arith, length-take (length old) (filled byte at (at + size) old)))
        ∙ sym (drop_all (at + size) old past)
  ];
  no_shorter = omega (arith, long);
  no_longer = omega (arith, long);
}
  where
    middle : List ℕ
    middle = replicate (at + size - min at (length old)) byte

    long : length (filled byte at (at + size) old) ≡ at + size + (length old - (at + size))
    long = omega (arith, length-append (take at old ++ middle) (drop (at + size) old), length-front byte at (at + size) old (omega arith), length-drop (at + size) old)

torn_write : (fill : Option ℕ) (at size : ℕ) (old : List ℕ) → Torn at size old (after_write fill at size old)
torn_write None at size old = torn_as_it_was at size old
torn_write (Some byte) at size old = torn_filled byte at size old

torn_leaves : (fill : Option ℕ) (changes : List Change) → Leaves changes (torn fill changes)
torn_leaves fill [] = refl
torn_leaves fill (synced ∷ changes) = refl
torn_leaves fill (wrote at size bytes ∷ changes) = (torn fill changes, torn_leaves fill changes, torn_write fill at size (torn fill changes))

-- what the pick leaves is one of the crash images
pub picked_leaves : (pick : Pick) (changes : List Change) → writes_inside changes ≡ true → Leaves changes (picked pick changes)
picked_leaves Stable changes inside = torn_leaves None changes
picked_leaves All changes inside = reads_is_image changes inside
picked_leaves (Filled byte) changes inside = torn_leaves (Some byte) changes

-- after one more step

pub torn_other : (fill : Option ℕ) (file other : ℕ) (change : Change) (steps : List Step) → other ≢ file
    → torn fill (changes_of file steps) ≡ torn fill (changes_of file (on other change ∷ steps))
torn_other fill file other change steps apart = ap (torn fill) (sym (other_change file other change steps (λ e. apart (sym e))))

pub torn_own : (fill : Option ℕ) (file other : ℕ) (change : Change) (steps : List Step) → other ≡ file
    → torn fill (change ∷ changes_of file steps) ≡ torn fill (changes_of file (on other change ∷ steps))
torn_own fill file other change steps same =
    ap (torn fill) (sym (own_change file change steps)) ∙ ap (λ (f : ℕ). torn fill (changes_of file (on f change ∷ steps))) (sym same)

pub torn_grown : (fill : Option ℕ) (file byte : ℕ) (steps : List Step) → torn fill (changes_of file steps) ≡ torn fill (changes_of file (grown byte steps))
torn_grown fill file byte [] = refl
torn_grown fill file byte (said other ∷ steps) = refl
torn_grown fill file byte (on other synced ∷ steps) = refl
torn_grown fill file byte (on other (wrote at size bytes) ∷ steps) =
    elim (file == other) as (λ (b : Bool).
    torn fill (cond b (wrote at size bytes ∷ changes_of file steps) (changes_of file steps))
    ≡ torn fill (cond b (wrote at size (bytes ++ byte ∷ []) ∷ changes_of file steps) (changes_of file steps))) [
      | true ↦ refl
      | false ↦ refl
    ]

-- a range filled in place, and then past the end
pub filled_is : (byte at end : ℕ) (old mid : List ℕ) → at ≤ end → length mid ≡ length old
    → ((k : ℕ) → at ≤ k → k < end → k < length old → get_or mid k 0 ≡ byte)
    → ((k : ℕ) → (k < at) ⊎ (end ≤ k) → get_or mid k 0 ≡ get_or old k 0)
    → mid ++ replicate (end - length mid) byte ≡ filled byte at end old
filled_is byte at end old mid order long inside outside =
    same_number_lists (mid ++ replicate (end - length mid) byte) (filled byte at end old) (omega (arith, left_long, right_long)) (λ k below.
    elim (cases_lt k (min at (length old))) [
      | inl low ↦ front k low
      | inr high ↦ elim (cases_lt k end) [
        | inl early ↦ middle k high early
        | inr late ↦ back k late (omega (arith, left_long))
      ]
    ])
  where
    left_long : length (mid ++ replicate (end - length mid) byte) ≡ length old + (end - length old)
    left_long = omega (arith, length-append mid (replicate (end - length mid) byte), length-replicate (end - length mid) byte)

    right_long : length (filled byte at end old) ≡ end + (length old - end)
    right_long = omega (arith, length-append (take at old ++ replicate (end - min at (length old)) byte) (drop end old), length-front byte at end old order, length-drop end old)

    front : (k : ℕ) → k < min at (length old) → get_or (mid ++ replicate (end - length mid) byte) k 0 ≡ get_or (filled byte at end old) k 0
    front k low =
        let lower : k < at = omega arith in
        get_or_append_left mid (replicate (end - length mid) byte) 0 k (omega arith)
        ∙ outside k (inl lower)
        ∙ sym (get_or-take at old k 0 lower)
        ∙ sym (get_or_append_left (take at old) (replicate (end - min at (length old)) byte) 0 k (omega (arith, length-take at old)))
        ∙ sym (get_or_append_left (take at old ++ replicate (end - min at (length old)) byte) (drop end old) 0 k (omega (arith, length-front byte at end old order)))

    left : (k : ℕ) → min at (length old) ≤ k → k < end → get_or (mid ++ replicate (end - length mid) byte) k 0 ≡ byte
    left k high early = elim (cases_lt k (length old)) [
      | inl here ↦
          get_or_append_left mid (replicate (end - length mid) byte) 0 k (omega arith) ∙ inside k (omega arith) early here
      | inr past ↦
          get_or-append_right mid (replicate (end - length mid) byte) (length old) k 0 long past
          ∙ get_or-replicate (end - length mid) (k - length old) byte 0 (omega arith)
    ]

    middle : (k : ℕ) → min at (length old) ≤ k → k < end → get_or (mid ++ replicate (end - length mid) byte) k 0 ≡ get_or (filled byte at end old) k 0
    middle k high early =
        left k high early
        ∙ sym (get_or-replicate (end - min at (length old)) (k - min at (length old)) byte 0 (omega arith))
        ∙ sym (get_or-append_right (take at old) (replicate (end - min at (length old)) byte) (min at (length old)) k 0 (length-take at old) high)
        ∙ sym (get_or_append_left (take at old ++ replicate (end - min at (length old)) byte) (drop end old) 0 k (omega (arith, length-front byte at end old order)))

    back : (k : ℕ) → end ≤ k → k < length old → get_or (mid ++ replicate (end - length mid) byte) k 0 ≡ get_or (filled byte at end old) k 0
    back k late here =
        let again : end + (k - end) ≡ k = omega arith in
        get_or_append_left mid (replicate (end - length mid) byte) 0 k (omega arith)
        ∙ outside k (inr late)
        ∙ ap (λ (n : ℕ). get_or old n 0) (sym again)
        ∙ sym (get_or-drop end old (k - end) 0)
        ∙ sym (get_or-append_right (take at old ++ replicate (end - min at (length old)) byte) (drop end old) end k 0 (length-front byte at end old order) late)
