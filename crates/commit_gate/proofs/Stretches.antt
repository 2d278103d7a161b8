-- The incarnations of entries, stretch by stretch.
use Rattle.std.proofs.Common.{◌≡◌, ℕ, zero, suc, ◌+◌, ◌-◌, ◌<◌, ◌≤◌, List, [], ◌∷◌, ◌++◌, length, get_or, Some, None, refl, sym, ◌∙◌, ap, subst, arith, length-append, append_assoc, add-one}
use Rattle.std.specs.List.{slice_get}
use Rattle.std.proofs.Math.ListN.{replicate, set}
use Rattle.std.proofs.lemmas.List.{length-replicate, replicate-append-replicate, append-nil}
use Rattle.std.proofs.lemmas.Option.{slice_get_past}
use Rattle.commit_gate.specs.declared.past.Stretch.{Stretch}
use Rattle.commit_gate.specs.Past.{spread_from, spread, begins_from, begins, Rise}

within : (n x : ℕ) (ys : List ℕ) (i : ℕ) → i < n → slice_get (replicate n x ++ ys) i ≡ Some x
within zero x ys i low = absurd (omega (arith, low))
within (suc n) x ys zero low = refl
within (suc n) x ys (suc i) low = within n x ys i (omega (arith, low))

behind : (n x : ℕ) (ys : List ℕ) (i : ℕ) → n ≤ i → slice_get (replicate n x ++ ys) i ≡ slice_get ys (i - n)
behind zero x ys i low = let e : i ≡ i - 0 = omega arith in ap (slice_get ys) e
behind (suc n) x ys zero low = absurd (omega (arith, low))
behind (suc n) x ys (suc i) low = let e : i - n ≡ suc i - suc n = omega arith in behind n x ys i (omega (arith, low)) ∙ ap (slice_get ys) e

-- ---- where stretches begin

pub first : (begin : ℕ) (l : List Stretch) → begins_from begin l 0 ≡ begin
first begin [] = refl
first begin (s ∷ l) = refl

-- a stretch ends where the next begins
ends_at : (begin : ℕ) (l : List Stretch) (k : ℕ) (d : Stretch) → k < length l → begins_from begin l (suc k) ≡ (get_or l k d).end
ends_at begin [] k d low = absurd (let none : k < 0 = low in omega (arith, none))
ends_at begin (s ∷ l) zero d low = first s.end l
ends_at begin (s ∷ l) (suc k) d low = ends_at s.end l k d (let less : suc k < suc (length l) = low in omega (arith, less))

pub next_at : (l : List Stretch) (k : ℕ) (d : Stretch) → k < length l → begins l (k + 1) ≡ (get_or l k d).end
next_at l k d low = ap (begins l) (add-one k) ∙ ends_at 0 l k d low

-- each has an entry, as a recursion
abbrev pub RiseFrom : (begin : ℕ) → List Stretch → Type 0
RiseFrom begin [] = Unit {0}
RiseFrom begin (s ∷ l) = (begin < s.end) × RiseFrom s.end l

abbrev EachRises : (begin : ℕ) → List Stretch → Type 0
EachRises begin l = (k : ℕ) → k < length l → begins_from begin l k < begins_from begin l (suc k)

rise_from : (begin : ℕ) (l : List Stretch) → EachRises begin l → RiseFrom begin l
rise_from begin [] each = tt
rise_from begin (s ∷ l) each = (subst (λ (n : ℕ). begin < n) (first s.end l) (each 0 (let low : 0 < suc (length l) = omega arith in low)), rise_from s.end l (λ k low. each (suc k) (let less : suc k < suc (length l) = omega (arith, low) in less)))

rise_each : (begin : ℕ) (l : List Stretch) → RiseFrom begin l → EachRises begin l
rise_each begin [] rise k low = absurd (let none : k < 0 = low in omega (arith, none))
rise_each begin (s ∷ l) rise zero low = subst (λ (n : ℕ). begin < n) (sym (first s.end l)) rise.0
rise_each begin (s ∷ l) rise (suc k) low = rise_each s.end l rise.1 k (let less : suc k < suc (length l) = low in omega (arith, less))

above : (begin : ℕ) (l : List Stretch) (k : ℕ) → RiseFrom begin l → begin ≤ begins_from begin l k
above begin [] k rise = let same : begin ≤ begin = omega arith in same
above begin (s ∷ l) zero rise = let same : begin ≤ begin = omega arith in same
above begin (s ∷ l) (suc k) rise = let low = above s.end l k rise.1 in omega (arith, low, rise.0)

-- ---- how many entries they have

long : (begin : ℕ) (l : List Stretch) → RiseFrom begin l → length (spread_from begin l) + begin ≡ begins_from begin l (length l)
long begin [] rise = let same : 0 + begin ≡ begin = omega arith in same
long begin (s ∷ l) rise =
    let rest : length (spread_from s.end l) + s.end ≡ begins_from s.end l (length l) = long s.end l rise.1 in
    let here : length (replicate (s.end - begin) s.incarnation ++ spread_from s.end l) ≡ (s.end - begin) + length (spread_from s.end l) =
    length-append (replicate (s.end - begin) s.incarnation) (spread_from s.end l) ∙ ap (λ (n : ℕ). n + length (spread_from s.end l)) (length-replicate (s.end - begin) s.incarnation) in
    let sum : length (replicate (s.end - begin) s.incarnation ++ spread_from s.end l) + begin ≡ length (spread_from s.end l) + s.end = omega (arith, here, rise.0) in
    sum ∙ rest

pub all_entries : (l : List Stretch) → Rise l → length (spread l) ≡ begins l (length l)
all_entries l rise = let all = long 0 l (rise_from 0 l rise) in omega (arith, all)

-- the last one ends where they do
pub last_ends : (l : List Stretch) (k : ℕ) (d : Stretch) → Rise l → suc k ≡ length l → (get_or l k d).end ≡ length (spread l)
last_ends l k d rise is = sym (all_entries l rise ∙ ap (begins l) (sym is) ∙ ends_at 0 l k d (omega (arith, is)))

-- ---- an entry by its position

found_from : (begin : ℕ) (l : List Stretch) (k : ℕ) (d : Stretch) (position : ℕ) → RiseFrom begin l → k < length l → begins_from begin l k ≤ position → position < begins_from begin l (suc k) → slice_get (spread_from begin l) (position - begin) ≡ Some (get_or l k d).incarnation
found_from begin [] k d position rise low begun more = absurd (let none : k < 0 = low in omega (arith, none))
found_from begin (s ∷ l) zero d position rise low begun more =
    let since : begin ≤ position = begun in
    let until : position < s.end = subst (λ (n : ℕ). position < n) (first s.end l) more in
    within (s.end - begin) s.incarnation (spread_from s.end l) (position - begin) (omega (arith, since, until))
found_from begin (s ∷ l) (suc k) d position rise low begun more =
    let later = above s.end l k rise.1 in
    let since : begins_from s.end l k ≤ position = begun in
    let less : suc k < suc (length l) = low in
    let e : position - begin - (s.end - begin) ≡ position - s.end = omega (arith, rise.0, later, since) in
    behind (s.end - begin) s.incarnation (spread_from s.end l) (position - begin) (omega (arith, later, since)) ∙ ap (slice_get (spread_from s.end l)) e
    ∙ found_from s.end l k d position rise.1 (omega (arith, less)) since more

pub found : (l : List Stretch) (k : ℕ) (d : Stretch) (position : ℕ) → Rise l → k < length l → begins l k ≤ position → position < begins l (k + 1) → Some (get_or l k d).incarnation ≡ slice_get (spread l) position
found l k d position rise low begun more = let e : position - 0 ≡ position = omega arith in sym (ap (slice_get (spread l)) (sym e) ∙ found_from 0 l k d position (rise_from 0 l rise) low begun (subst (λ (n : ℕ). position < begins l n) (add-one k) more))

pub behind_all : (l : List Stretch) (k position : ℕ) → Rise l → k ≡ length l → begins l k ≤ position → None ≡ slice_get (spread l) position
behind_all l k position rise is begun = sym (slice_get_past (spread l) position (let ends = all_entries l rise in let low : begins l (length l) ≤ position = subst (λ (n : ℕ). begins l n ≤ position) is begun in omega (arith, ends, low)))

-- ---- one more entry

one_more : (n x : ℕ) → replicate (n + 1) x ≡ replicate n x ++ x ∷ []
one_more n x = sym (replicate-append-replicate n 1 x)

-- in a stretch of its own
spread_more : (begin : ℕ) (l : List Stretch) (s : Stretch) → spread_from begin (l ++ s ∷ []) ≡ spread_from begin l ++ replicate (s.end - begins_from begin l (length l)) s.incarnation
spread_more begin [] s = append-nil (replicate (s.end - begin) s.incarnation)
spread_more begin (t ∷ l) s =
    let front = replicate (t.end - begin) t.incarnation in
    let here = replicate (s.end - begins_from t.end l (length l)) s.incarnation in
    ap (λ (r : List ℕ). front ++ r) (spread_more t.end l s) ∙ sym (append_assoc front (spread_from t.end l) here)

rise_more : (begin : ℕ) (l : List Stretch) (s : Stretch) → RiseFrom begin l → begins_from begin l (length l) < s.end → RiseFrom begin (l ++ s ∷ [])
rise_more begin [] s rise low = (low, tt)
rise_more begin (t ∷ l) s rise low = (rise.0, rise_more t.end l s rise.1 low)

pub added : (l : List Stretch) (s : Stretch) → Rise l → s.end ≡ length (spread l) + 1 → spread (l ++ s ∷ []) ≡ spread l ++ s.incarnation ∷ []
added l s rise is =
    let ends = all_entries l rise in
    let e : s.end - begins l (length l) ≡ 1 = omega (arith, ends, is) in
    spread_more 0 l s ∙ ap (λ (n : ℕ). spread l ++ replicate n s.incarnation) e

pub added_rise : (l : List Stretch) (s : Stretch) → Rise l → s.end ≡ length (spread l) + 1 → Rise (l ++ s ∷ [])
added_rise l s rise is = let ends = all_entries l rise in rise_each 0 (l ++ s ∷ []) (rise_more 0 l s (rise_from 0 l rise) (omega (arith, ends, is)))

-- in the last stretch
spread_grown : (begin : ℕ) (l : List Stretch) (k : ℕ) (s d : Stretch) → RiseFrom begin l → suc k ≡ length l → s.incarnation ≡ (get_or l k d).incarnation → s.end ≡ (get_or l k d).end + 1 → spread_from begin (set l k s) ≡ spread_from begin l ++ s.incarnation ∷ []
spread_grown begin [] k s d rise is same longer = absurd (let none : suc k ≡ 0 = is in omega (arith, none))
spread_grown begin (t ∷ []) zero s d rise is same longer =
    let here : s.incarnation ≡ t.incarnation = same in
    let e : s.end - begin ≡ (t.end - begin) + 1 = (let more : s.end ≡ t.end + 1 = longer in omega (arith, more, rise.0)) in
    append-nil (replicate (s.end - begin) s.incarnation) ∙ ap (λ (n : ℕ). replicate n s.incarnation) e ∙ one_more (t.end - begin) s.incarnation
    ∙ ap (λ (x : ℕ). replicate (t.end - begin) x ++ s.incarnation ∷ []) here ∙ ap (λ (r : List ℕ). r ++ s.incarnation ∷ []) (sym (append-nil (replicate (t.end - begin) t.incarnation)))
spread_grown begin (t ∷ []) (suc k) s d rise is same longer = absurd (let none : suc (suc k) ≡ 1 = is in omega (arith, none))
spread_grown begin (t ∷ (u ∷ l)) zero s d rise is same longer = absurd (let none : 1 ≡ suc (suc (length l)) = is in omega (arith, none))
spread_grown begin (t ∷ (u ∷ l)) (suc k) s d rise is same longer =
    let front = replicate (t.end - begin) t.incarnation in
    let rest = spread_grown t.end (u ∷ l) k s d rise.1 (let e : suc (suc k) ≡ suc (suc (length l)) = is in let f : suc k ≡ suc (length l) = omega (arith, e) in f) same longer in
    ap (λ (r : List ℕ). front ++ r) rest ∙ sym (append_assoc front (spread_from t.end (u ∷ l)) (s.incarnation ∷ []))

rise_grown : (begin : ℕ) (l : List Stretch) (k : ℕ) (s d : Stretch) → RiseFrom begin l → suc k ≡ length l → s.end ≡ (get_or l k d).end + 1 → RiseFrom begin (set l k s)
rise_grown begin [] k s d rise is longer = absurd (let none : suc k ≡ 0 = is in omega (arith, none))
rise_grown begin (t ∷ []) zero s d rise is longer = ((let more : s.end ≡ t.end + 1 = longer in omega (arith, more, rise.0)), tt)
rise_grown begin (t ∷ []) (suc k) s d rise is longer = absurd (let none : suc (suc k) ≡ 1 = is in omega (arith, none))
rise_grown begin (t ∷ (u ∷ l)) zero s d rise is longer = absurd (let none : 1 ≡ suc (suc (length l)) = is in omega (arith, none))
rise_grown begin (t ∷ (u ∷ l)) (suc k) s d rise is longer =
    (rise.0, rise_grown t.end (u ∷ l) k s d rise.1 (let e : suc (suc k) ≡ suc (suc (length l)) = is in let f : suc k ≡ suc (length l) = omega (arith, e) in f) longer)

pub grown : (l : List Stretch) (k : ℕ) (s d : Stretch) → Rise l → suc k ≡ length l → s.incarnation ≡ (get_or l k d).incarnation → s.end ≡ (get_or l k d).end + 1 → spread (set l k s) ≡ spread l ++ s.incarnation ∷ []
grown l k s d rise is same longer = spread_grown 0 l k s d (rise_from 0 l rise) is same longer

pub grown_rise : (l : List Stretch) (k : ℕ) (s d : Stretch) → Rise l → suc k ≡ length l → s.end ≡ (get_or l k d).end + 1 → Rise (set l k s)
grown_rise l k s d rise is longer = rise_each 0 (set l k s) (rise_grown 0 l k s d (rise_from 0 l rise) is longer)
