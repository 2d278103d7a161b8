-- How a replay of one file goes on.
use Rattle.std.proofs.Common.{◌≡◌, ◌≢◌, ◌==◌, inl, inr, ℕ, ◌+◌, ◌≤◌, min, max, Option, Some, None, MatchOption, IfSome, Bool, true, false, cond, List, [], ◌∷◌, ◌++◌, length, take, drop, get_or, refl, sym, ◌∙◌, ap, subst, arith, add-zero}
use Rattle.std.proofs.lemmas.Bool.{cases_eq, eq-eqb, ne_eqb}
use Rattle.std.proofs.lemmas.List.{length_push, append-nil, take-append-drop}
use Rattle.site_model.specs.History.{Step, on, said, wrote, synced, changes_of, reads, content_of, put}
use Rattle.site_model.proofs.Images.{length-put}
use Rattle.site_memory.specs.declared.replay.Place.{Place}
use Rattle.site_memory.specs.Record.{grown}
use Rattle.site_memory.specs.Place.{cursor_of, IsPlace, Shows, IsShown}
use Rattle.site_memory.proofs.Put.{reach_le, put_more, get_or-put_here, get_or-put_other}

-- one byte more of the newest step, seen from a file
abbrev Grows : Option ℕ → ℕ → List ℕ → List ℕ → Option ℕ → Type 0
Grows None byte old new after = (new ≡ old) × (after ≡ None)
Grows (Some c) byte old new after = (c ≤ length old) × (new ≡ put c (byte ∷ []) old) × (after ≡ Some (c + 1))

grows : (file byte : ℕ) (steps : List Step) → Grows (cursor_of file steps) byte (content_of file steps) (content_of file (grown byte steps)) (cursor_of file (grown byte steps))
grows file byte [] = (refl, refl)
grows file byte (said other ∷ steps) = (refl, refl)
grows file byte (on other synced ∷ steps) = (refl, refl)
grows file byte (on other (wrote at size bytes) ∷ steps) =
    elim (file == other) as (λ (b : Bool). Grows
    (cond b (Some (min at (length (content_of file steps)) + length bytes)) None) byte
    (reads (cond b (wrote at size bytes ∷ changes_of file steps) (changes_of file steps)))
    (reads (cond b (wrote at size (bytes ++ byte ∷ []) ∷ changes_of file steps) (changes_of file steps)))
    (cond b (Some (min at (length (content_of file steps)) + length (bytes ++ byte ∷ []))) None)) [
      | true ↦ (reach_le at bytes (content_of file steps), put_more at byte bytes (content_of file steps), ap Some longer)
      | false ↦ (refl, refl)
    ]
  where
    longer : min at (length (content_of file steps)) + length (bytes ++ byte ∷ []) ≡ min at (length (content_of file steps)) + length bytes + 1
    longer = omega (arith, length_push bytes byte)

place_grows : (place : Place) (file byte : ℕ) (steps : List Step) → IsPlace place file steps
    → Grows place.cursor byte (content_of file steps) (content_of file (grown byte steps)) (cursor_of file (grown byte steps))
place_grows place file byte steps is =
    subst (λ (o : Option ℕ). Grows o byte (content_of file steps) (content_of file (grown byte steps)) (cursor_of file (grown byte steps)))
    (sym is.cursor_is) (grows file byte steps)

-- the cursor lies in the file
pub within : (place : Place) (file : ℕ) (steps : List Step) → IsPlace place file steps → IfSome place.cursor (λ c. c ≤ place.length)
within place file steps is = go place.cursor (place_grows place file 0 steps is)
  where
    go : (o : Option ℕ) → Grows o 0 (content_of file steps) (content_of file (grown 0 steps)) (cursor_of file (grown 0 steps)) → IfSome o (λ c. c ≤ place.length)
    go None g = tt
    go (Some c) g = omega (arith, g.0, is.length_is)

pub place_empty : (file : ℕ) → IsPlace (record { length = 0; cursor = None }) file []
place_empty file = record { length_is = refl; cursor_is = refl }

pub place_said : (place : Place) (file byte : ℕ) (steps : List Step) → IsPlace place file steps → IsPlace (record { length = place.length; cursor = None }) file (said byte ∷ steps)
place_said place file byte steps is = record { length_is = is.length_is; cursor_is = refl }

pub content_synced : (file other : ℕ) (steps : List Step) → content_of file (on other synced ∷ steps) ≡ content_of file steps
content_synced file other steps =
    elim (file == other) as (λ (b : Bool). reads (cond b (synced ∷ changes_of file steps) (changes_of file steps)) ≡ content_of file steps) [ true ↦ refl | false ↦ refl ]

pub content_begun : (file other at size : ℕ) (steps : List Step) → content_of file (on other (wrote at size []) ∷ steps) ≡ content_of file steps
content_begun file other at size steps =
    elim (file == other) as (λ (b : Bool). reads (cond b (wrote at size [] ∷ changes_of file steps) (changes_of file steps)) ≡ content_of file steps) [
      | true ↦ put_none at (content_of file steps)
      | false ↦ refl
    ]
  where
    put_none : (at : ℕ) (old : List ℕ) → put at [] old ≡ old
    put_none at old =
        ap (λ (l : List ℕ). l ++ drop (at + 0) old) (append-nil (take at old))
        ∙ ap (λ (n : ℕ). take at old ++ drop n old) (add-zero at)
        ∙ take-append-drop at old

pub place_synced : (place : Place) (file other : ℕ) (steps : List Step) → IsPlace place file steps → IsPlace (record { length = place.length; cursor = None }) file (on other synced ∷ steps)
place_synced place file other steps is = record { length_is = is.length_is ∙ ap length (sym (content_synced file other steps)); cursor_is = refl }

pub place_begun : (place : Place) (file other at size : ℕ) (steps : List Step) → other ≡ file → IsPlace place file steps
    → IsPlace (record { length = place.length; cursor = Some (min at place.length) }) file (on other (wrote at size []) ∷ steps)
place_begun place file other at size steps same is = record {
  length_is = is.length_is ∙ ap length (sym (content_begun file other at size steps));
  cursor_is =
      ap (λ (n : ℕ). Some (min at n)) is.length_is
      ∙ ap Some none
      ∙ sym (ap (λ (b : Bool). cond b (Some (min at (length (content_of file steps)) + 0)) None) (eq-eqb file other (sym same)));
}
  where
    none : min at (length (content_of file steps)) ≡ min at (length (content_of file steps)) + 0
    none = omega arith

pub place_elsewhere : (place : Place) (file other at size : ℕ) (steps : List Step) → other ≢ file → IsPlace place file steps
    → IsPlace (record { length = place.length; cursor = None }) file (on other (wrote at size []) ∷ steps)
place_elsewhere place file other at size steps apart is = record {
  length_is = is.length_is ∙ ap length (sym (content_begun file other at size steps));
  cursor_is = sym (ap (λ (b : Bool). cond b (Some (min at (length (content_of file steps)) + 0)) None) (ne_eqb file other (λ e. apart (sym e))));
}

pub place_byte : (place result : Place) (file byte : ℕ) (steps : List Step) → IsPlace place file steps
    → MatchOption place.cursor (result ≡ place) (λ c. (result.length ≡ max place.length (c + 1)) × (result.cursor ≡ Some (c + 1)))
    → IsPlace result file (grown byte steps)
place_byte place result file byte steps is = go place.cursor refl (place_grows place file byte steps is)
  where
    go : (o : Option ℕ) → place.cursor ≡ o → Grows o byte (content_of file steps) (content_of file (grown byte steps)) (cursor_of file (grown byte steps))
        → MatchOption o (result ≡ place) (λ c. (result.length ≡ max place.length (c + 1)) × (result.cursor ≡ Some (c + 1)))
        → IsPlace result file (grown byte steps)
    go None at g same = record {
      length_is = ap (λ (p : Place). p.length) same ∙ is.length_is ∙ ap length (sym g.0);
      cursor_is = ap (λ (p : Place). p.cursor) same ∙ at ∙ sym g.1;
    }
    go (Some c) at g next = record {
      length_is =
          next.0 ∙ ap (λ (n : ℕ). max n (c + 1)) is.length_is
          ∙ sym (length-put c (byte ∷ []) (content_of file steps) g.0)
          ∙ ap length (sym g.1);
      cursor_is = next.1 ∙ sym g.2;
    }

-- What the buffer shows once the byte is in it.
shows_more : (at c byte : ℕ) (content old new : List ℕ) → c ≤ length content → Shows content at old → IsShown at c byte old new → Shows (put c (byte ∷ []) content) at new
shows_more at c byte content old new inside shows shown k fits reached = elim (cases_eq (at + k) c) [
  | inl is ↦ shown.here k (omega (arith, shown.same_length)) is ∙ sym (get_or-put_here c byte content inside) ∙ ap (λ (n : ℕ). get_or (put c (byte ∷ []) content) n 0) (sym is)
  | inr apart ↦
      shown.others k apart
      ∙ shows k (omega (arith, shown.same_length)) (omega (arith, length-put c (byte ∷ []) content inside))
      ∙ sym (get_or-put_other c byte (at + k) content inside apart)
]

pub shows_byte : (place : Place) (file byte at : ℕ) (old new : List ℕ) (steps : List Step) → IsPlace place file steps
    → MatchOption place.cursor (new ≡ old) (λ c. IsShown at c byte old new)
    → Shows (content_of file steps) at old → Shows (content_of file (grown byte steps)) at new
shows_byte place file byte at old new steps is shown shows = go place.cursor (place_grows place file byte steps is) shown
  where
    go : (o : Option ℕ) → Grows o byte (content_of file steps) (content_of file (grown byte steps)) (cursor_of file (grown byte steps))
        → MatchOption o (new ≡ old) (λ c. IsShown at c byte old new) → Shows (content_of file (grown byte steps)) at new
    go None g same = subst (λ (l : List ℕ). Shows l at new) (sym g.0) (subst (λ (l : List ℕ). Shows (content_of file steps) at l) (sym same) shows)
    go (Some c) g next = subst (λ (l : List ℕ). Shows l at new) (sym g.1) (shows_more at c byte (content_of file steps) old new g.0 shows next)
