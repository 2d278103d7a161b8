-- Which logs ended.
use Rattle.std.proofs.Common.{◌≡◌, ◌∙◌, inl, inr, ℕ, ◌+◌, Bool, true, false, List, [], ◌∷◌, ◌++◌, length, get_or, Some, refl, sym, ap, subst, arith, length-append}
use Rattle.std.specs.List.{slice_get}
use Rattle.std.proofs.lemmas.Bool.{cases_eq}
use Rattle.std.proofs.lemmas.Option.{get_or_from_slice_get, slice_get_within}
use Rattle.recover_core.proofs.Pushed.{pushed, get_front, get_new}
use Rattle.recover_core.specs.Ended.{has_ended, EndsBelow, IsEndOf, AreEndsOf}
use Rattle.recover_core.specs.declared.course.Course.{Course}
use Rattle.recover_core.specs.declared.ending.Life.{Life}

-- what is said of the element at a place is said of the one that is found there
found_at : (courses : List Course) (place : ℕ) (d course : Course) (test : Bool) → has_ended (get_or courses place d).comes ≡ test → slice_get courses place ≡ Some course → has_ended course.comes ≡ test
found_at courses place d course test is at = ap (λ (c : Course). has_ended c.comes) (sym (get_or_from_slice_get courses place course d at)) ∙ is

pub ends_more : (courses : List Course) (place : ℕ) (d : Course) → EndsBelow place courses → has_ended (get_or courses place d).comes ≡ true → EndsBelow (place + 1) courses
ends_more courses place d lower here other course below at = elim (cases_eq other place) [
  | inl same ↦ found_at courses place d course true here (subst (λ (p : ℕ). slice_get courses p ≡ Some course) same at)
  | inr apart ↦ lower other course (omega (arith, below, apart)) at
]

pub is_left : (courses : List Course) (place : ℕ) (d : Course) → has_ended (get_or courses place d).comes ≡ false → (course : Course) → slice_get courses place ≡ Some course → has_ended course.comes ≡ false
is_left courses place d here course at = found_at courses place d course false here at

-- ---- what is kept of them

pub no_ends : (lives : List Life) → lives ≡ [] → AreEndsOf [] lives
no_ends lives none = record { many = ap length none; each = λ place course life at there. absurd (cc at) }

pub one_more_end : (courses : List Course) (lives : List Life) (course : Course) (life : Life) → AreEndsOf courses lives → IsEndOf course life → AreEndsOf (courses ++ course ∷ []) (lives ++ life ∷ [])
one_more_end courses lives course life ends here =
    let many = ends.many in record {
      many = length-append lives (life ∷ []) ∙ ap (λ (n : ℕ). n + 1) many ∙ sym (length-append courses (course ∷ []));
      each = λ place one other at there.
          let P : ℕ → Course → Type 0 = λ i c. (l : Life) → slice_get (lives ++ life ∷ []) i ≡ Some l → IsEndOf c l in
          let before : (i : ℕ) (c : Course) → slice_get courses i ≡ Some c → P i c = λ i c is l found.
          let inside = slice_get_within courses i c is in
          ends.each i c l is (get_front lives life l i (omega (arith, inside, many)) found) in
          let new : P (length courses) course = λ l found. subst (IsEndOf course) (sym (get_new lives life l (length courses) (sym many) found)) here in
          pushed P courses course before new place one at other there;
    }

-- the next of those that are left ended
pub next_ended : (all done rest : List Course) (course : Course) → EndsBelow (length all) all → done ++ course ∷ rest ≡ all → has_ended course.comes ≡ true
next_ended all done rest course ended is =
    let there : slice_get all (length done) ≡ Some course = subst (λ (l : List Course). slice_get l (length done) ≡ Some course) is (found_behind done course rest) in
    ended (length done) course (slice_get_within all (length done) course there) there
  where
    found_behind : (front : List Course) (one : Course) (more : List Course) → slice_get (front ++ one ∷ more) (length front) ≡ Some one
    found_behind [] one more = refl
    found_behind (c ∷ front) one more = found_behind front one more
