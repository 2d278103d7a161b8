-- Reading one entry behind the other, each where the log goes on.
use Rattle.std.proofs.Common.{◌≡◌, ℕ, zero, suc, ◌+◌, ◌-◌, ◌≤◌, ◌<◌, List, [], ◌∷◌, length, take, drop, Bool, true, false, ◌&&◌, nat_lt, nat_le, if◌then◌else◌, Option, Some, None, Result, Ok, Err, IfOk, OnErr, refl, sym, subst, add-one, eqb-true, leb-true, arith}
use Rattle.std.proofs.lemmas.Bool.Decides.{nat_tests}
use Rattle.std.proofs.lemmas.List.{take_all, length-drop}
use Rattle.std.specs.Int.{w16, w64}
use Rattle.dura_value.specs.declared.faults.ReadError.{ReadError}
use Rattle.dura_value.specs.declared.faults.ReadError.TheVariants as places
use Rattle.dura_value.specs.Items.{Entry}
use Rattle.dura_value.specs.Limits.{number_limit}
use Rattle.dura_value.specs.Reading.{◌>>=◌, ReadFails}
use Rattle.dura_codec.specs.declared.fields.FieldError.{FieldError}
use Rattle.dura_codec.specs.declared.fields.FieldError.TheVariants.{Bad, Memory}
use Rattle.dura_codec.specs.Fields.{Read, Stops, number_at, count_at, fault_in}
use Rattle.log_items.specs.Plain.{entry_of}
use Rattle.part_items.specs.Coming.{Coming, TakesFrom, to_come, IsNext, IsFirst, ReadsNext}
use Rattle.log_items.specs.declared.frames.Entry as read
use Rattle.part_items.specs.Grammar.{members_at, entry_items_at, alone, whole}
use Rattle.part_items.specs.Numbered.{Next, behind, position_at, incarnation_at, next_entry_at, next_entries_at, next_frame_at, next_frame_in}
use Rattle.part_items.specs.Tags.{most_members}
use Rattle.dura_value.proofs.Basics.{both_ok}
use Rattle.part_items.proofs.Steps.{ok_is}

-- ---- what is to come

in_front : (bytes : List ℕ) (entry : Entry) (read : Read (List Entry))
    → whole bytes ((read >>= λ more. Ok (entry ∷ more.0, more.1)) >>= λ entries. alone entries) ≡ (whole bytes (read >>= λ entries. alone entries) >>= λ more. Ok (entry ∷ more))
in_front bytes entry (Ok (entries, [])) = refl
in_front bytes entry (Ok (entries, byte ∷ more)) = refl
in_front bytes entry (Err left) = refl

-- the next entry is the first of those to come
first_of : (next : Next) (left : ℕ) (bytes rest after : List ℕ) (entry : Entry) → next_entry_at next rest ≡ Ok (entry, after)
    → to_come next (suc left) bytes rest ≡ (to_come (behind entry) left bytes after >>= λ more. Ok (entry ∷ more))
unfolding next_entries_at
first_of next left bytes rest after entry h = rw h (in_front bytes entry (next_entries_at (behind entry) left after))

-- where it can't be read there is a fault
first_stops : (next : Next) (left : ℕ) (bytes rest : List ℕ) (e : FieldError) → 0 < left → Stops e (next_entry_at next rest) → ReadFails (fault_in bytes e) (to_come next left bytes rest)
unfolding next_entries_at
first_stops next zero bytes rest e some h = absurd (omega (arith, some))
first_stops next (suc left) bytes rest Memory some h = tt
first_stops next (suc left) bytes rest (Bad place) some h = rw h refl

-- behind the last the bytes have to end
pub none_left : (next : Next) (bytes rest : List ℕ) → rest ≡ [] → to_come next 0 bytes rest ≡ Ok []
unfolding next_entries_at
none_left next bytes [] end = refl
none_left next bytes (byte ∷ more) end = absurd (cc end)

pub some_left : (next : Next) (bytes rest : List ℕ) → 0 < length rest → to_come next 0 bytes rest ≡ Err (length bytes - length rest)
unfolding next_entries_at
some_left next bytes [] some = absurd (omega (arith, some))
some_left next bytes (byte ∷ more) some = refl

-- all of a frame is to come
pub begun : (next : Next) (bytes : List ℕ) (count : ℕ) (rest : List ℕ) → members_at bytes ≡ Ok (count, rest) → to_come next count bytes rest ≡ next_frame_in next bytes
unfolding next_frame_at
begun next bytes count rest h = rw h refl

not_begun : (next : Next) (bytes : List ℕ) (e : FieldError) → Stops e (members_at bytes) → ReadFails (fault_in bytes e) (next_frame_in next bytes)
unfolding next_frame_at
not_begun next bytes Memory h = tt
not_begun next bytes (Bad place) h = rw h refl

-- the same by what was answered of a place
pub place_stops : (next : Next) (left : ℕ) (bytes : List ℕ) (at : ℕ) (error : ReadError) → 0 < left → TakesFrom entry_of (next_entry_at next) bytes at (Err error) → ReadFails error (to_come next left bytes (drop at bytes))
place_stops next left bytes at places.Memory some stops = tt
place_stops next left bytes at (places.Bad offset) some stops =
    subst (λ (n : ℕ). to_come next left bytes (drop at bytes) ≡ Err n) (sym stops.2) (first_stops next left bytes (drop at bytes) (Bad stops.0) some stops.1)

pub place_not_begun : (next : Next) (bytes : List ℕ) (error : ReadError) → TakesFrom (λ (n : ℕ). n) members_at bytes 0 (Err error) → ReadFails error (next_frame_in next bytes)
place_not_begun next bytes places.Memory stops = tt
place_not_begun next bytes (places.Bad offset) stops = subst (λ (n : ℕ). next_frame_in next bytes ≡ Err n) (sym stops.2) (not_begun next bytes (Bad stops.0) stops.1)

-- ---- numbers

-- a test that led to something was passed
passed : {A : Type 0} (test : Bool) (a : A) (e : ℕ) (b : A) → (if test then Ok a else Err e) ≡ Ok b → (test ≡ true) × (a ≡ b)
passed true a e b h = (refl, ok_is a b h)
passed false a e b h = absurd (cc h)

count_below : (bytes : List ℕ) (read : ℕ × List ℕ) → count_at bytes ≡ Ok read → read.0 < number_limit
unfolding count_at
count_below bytes read h =
    let s = both_ok (number_at w64 bytes) _ read h in
    let p = passed (nat_lt s.0.0 number_limit) s.0 _ read s.2 in
    let below : s.0.0 < number_limit = grind (arith, nat_tests, p.0) in
    subst (λ (r : ℕ × List ℕ). r.0 < number_limit) p.1 below

position_is : (next : Next) (bytes : List ℕ) (read : ℕ × List ℕ) → position_at next bytes ≡ Ok read → (read.0 ≡ next.position) × (read.0 < number_limit)
unfolding position_at
position_is next bytes read h =
    let s = both_ok (count_at bytes) _ read h in
    let p = passed _ s.0 _ read s.2 in
    subst (λ (r : ℕ × List ℕ). (r.0 ≡ next.position) × (r.0 < number_limit)) p.1 (eqb-true s.0.0 next.position p.0, count_below bytes s.0 s.1)

incarnation_is : (next : Next) (bytes : List ℕ) (read : ℕ × List ℕ) → incarnation_at next bytes ≡ Ok read → (next.incarnation ≤ read.0) × (read.0 < number_limit)
unfolding incarnation_at
incarnation_is next bytes read h =
    let s = both_ok (count_at bytes) _ read h in
    let p = passed _ s.0 _ read s.2 in
    subst (λ (r : ℕ × List ℕ). (next.incarnation ≤ r.0) × (r.0 < number_limit)) p.1 (leb-true next.incarnation s.0.0 p.0, count_below bytes s.0 s.1)

pub is_next : (next : Next) (bytes : List ℕ) (entry : Entry) (after : List ℕ) → next_entry_at next bytes ≡ Ok (entry, after) → IsNext next entry
unfolding next_entry_at
is_next next bytes entry after h =
    let place = both_ok (position_at next bytes) _ (entry, after) h in
    let incarnation = both_ok (incarnation_at next place.0.1) _ (entry, after) place.2 in
    let items = both_ok (entry_items_at incarnation.0.1) _ (entry, after) incarnation.2 in
    let at = position_is next bytes place.0 place.1 in
    let of = incarnation_is next place.0.1 incarnation.0 incarnation.1 in
    let same : (record { position = place.0.0; incarnation = incarnation.0.0; items = items.0.0 }, items.0.1) ≡ (entry, after) = ok_is _ (entry, after) items.2 in
    subst (λ (r : Entry × List ℕ). IsNext next r.0) same (at.0, of.0, at.1, of.1)

second_true : (x y : Bool) → x && y ≡ true → y ≡ true
second_true true y is = is
second_true false y is = absurd (cc is)

pub few : (bytes : List ℕ) (read : ℕ × List ℕ) → members_at bytes ≡ Ok read → read.0 ≤ most_members
unfolding members_at
few bytes read h =
    let s = both_ok (number_at w16 bytes) _ read h in
    let p = passed (nat_lt 0 s.0.0 && nat_le s.0.0 most_members) s.0 _ read s.2 in
    let within : s.0.0 ≤ most_members = leb-true s.0.0 most_members (second_true (nat_lt 0 s.0.0) (nat_le s.0.0 most_members) p.0) in
    subst (λ (r : ℕ × List ℕ). r.0 ≤ most_members) p.1 within

-- ---- an entry

-- what is to come of these bytes
abbrev coming_of : Next → ℕ → (bytes rest : List ℕ) → Coming
coming_of next left bytes rest = record { next = next; left = left; entries = to_come next left bytes rest }

pub taken : (next : Next) (left more : ℕ) (bytes rest after : List ℕ) (entry : Entry) → left ≡ more + 1 → next_entry_at next rest ≡ Ok (entry, after)
    → IsFirst (coming_of next left bytes rest) entry (coming_of (behind entry) more bytes after)
taken next left more bytes rest after entry one h = record {
  is_next = is_next next rest entry after h;
  behind = refl;
  left = one;
  entries = rw (one, add-one) (first_of next more bytes rest after entry h);
}

at_end : (next : Next) (left : ℕ) (bytes rest : List ℕ) (result : Result (Option read.Entry) ReadError) → left ≡ 0
    → IfOk result (λ entry. (entry ≡ None) × (rest ≡ [])) → OnErr result ((0 < length rest) × (result ≡ Err (fault_in bytes (Bad (length rest)))))
    → ReadsNext (coming_of next left bytes rest) (coming_of next left bytes rest) result
at_end next zero bytes rest (Ok None) none ok err = (none_left next bytes rest ok.1, refl)
at_end next zero bytes rest (Ok (Some entry)) none ok err = absurd (cc ok.0)
at_end next zero bytes rest (Err error) none ok err =
    let is : error ≡ fault_in bytes (Bad (length rest)) = cc err.1 in
    (subst (λ (e : ReadError). ReadFails e (to_come next 0 bytes rest)) (sym is) (some_left next bytes rest err.0), refl)
at_end next (suc left) bytes rest result none ok err = absurd (cc none)

-- the same by what was answered of a place
pub at_end_there : (next : Next) (left : ℕ) (payload bytes : List ℕ) (at : ℕ) (result : Result (Option read.Entry) ReadError) → bytes ≡ payload → left ≡ 0
    → IfOk result (λ entry. (entry ≡ None) × (take (length bytes - at) (drop at bytes) ≡ []))
    → OnErr result ((0 < length (take (length bytes - at) (drop at bytes))) × (result ≡ Err (fault_in bytes (Bad (length (take (length bytes - at) (drop at bytes)))))))
    → ReadsNext (coming_of next left payload (drop at payload)) (coming_of next left payload (drop at payload)) result
at_end_there next left payload bytes at result same last none fault =
    let rest : take (length bytes - at) (drop at bytes) ≡ drop at bytes = take_all (length bytes - at) (drop at bytes) (omega (arith, length-drop at bytes)) in
    let none_there = subst (λ (l : List ℕ). IfOk result (λ entry. (entry ≡ None) × (l ≡ []))) rest none in
    let fault_there = subst (λ (l : List ℕ). OnErr result ((0 < length l) × (result ≡ Err (fault_in bytes (Bad (length l)))))) rest fault in
    subst (λ (l : List ℕ). ReadsNext (coming_of next left l (drop at l)) (coming_of next left l (drop at l)) result) same (at_end next left bytes (drop at bytes) result last none_there fault_there)
