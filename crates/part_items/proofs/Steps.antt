-- What was read is spelled by the bytes that it was read from.
use Rattle.std.proofs.Common.{◌≡◌, ℕ, suc, ◌<◌, ◌≤◌, List, [], ◌∷◌, ◌++◌, length, take, drop, get_or, Bool, true, false, ◌==◌, nat_lt, if◌then◌else◌, Result, Ok, Err, refl, sym, ap, ◌∙◌, subst, ◌⊎◌, inl, inr, eqb-true, take-append-drop, length-take-le, arith, zero, zero-lt-suc, append_assoc, ◌^◌}
use Rattle.std.specs.List.{flat_map}
use Rattle.std.specs.Int.{w16, w32, w64, to_be_bytes, from_be_bytes}
use Rattle.std.proofs.lemmas.Nat.{be_bytes_2, be_bytes_4, be_bytes_8}
use Rattle.std.proofs.lemmas.List.Elements.{All-drop, All-take}
use Rattle.std.proofs.lemmas.Bool.Decides.{nat_tests}
use Rattle.std.proofs.Math.Seq.{drop-append_seam}
use Rattle.part_items.specs.Fits.{AreBytes}
use Rattle.dura_codec.specs.Fields.{Read, byte_at, number_at, count_at, request_number_at, run_at, several_at}
use Rattle.dura_value.proofs.Basics.{both_ok, passed_ok}

ok_or : {A : Type 0} → A → Result A ℕ → A
ok_or other (Ok a) = a
ok_or other (Err e) = other

pub ok_is : {A : Type 0} (a b : A) → Path (Result A ℕ) (Ok a) (Ok b) → a ≡ b
unfolding ok_or
ok_is a b h = ap (ok_or a) h

pub no_err : {A : Type 0} {C : Type 0} (e : ℕ) (b : A) → Path (Result A ℕ) (Err e) (Ok b) → C
no_err e b h = absurd (cc h)

pub failed : {A : Type 0} (test : Bool) (a : Result A ℕ) (e : ℕ) (b : A) → (if test then Err e else a) ≡ Ok b → (test ≡ false) × (a ≡ Ok b)
failed true a e b h = absurd (cc h)
failed false a e b h = (refl, h)

pub either : {A : Type 0} (test : Bool) (x y : Result A ℕ) (b : A) → (if test then x else y) ≡ Ok b → ((test ≡ true) × (x ≡ Ok b)) ⊎ ((test ≡ false) × (y ≡ Ok b))
either true x y b h = inl (refl, h)
either false x y b h = inr (refl, h)

-- what lies behind bytes are bytes
pub rest_are : (bytes front rest : List ℕ) → bytes ≡ front ++ rest → AreBytes bytes → AreBytes rest
rest_are bytes front rest is all = subst AreBytes (drop-append_seam front rest) (All-drop (λ byte. byte < 256) (length front) (front ++ rest) (subst AreBytes is all))

pub byte_only : (bytes : List ℕ) (read : ℕ × List ℕ) → byte_at bytes ≡ Ok read → bytes ≡ read.0 ∷ read.1
byte_only [] read h = absurd (cc h)
byte_only (byte ∷ rest) read h = ap (λ (p : ℕ × List ℕ). p.0 ∷ p.1) (ok_is (byte, rest) read h)

each_byte : (bytes : List ℕ) → AreBytes bytes → (i : ℕ) → get_or bytes i 0 < 256
each_byte [] all i = zero-lt-suc 255
each_byte (byte ∷ bytes) all zero = all 0 0 (omega arith)
each_byte (byte ∷ bytes) all (suc i) = each_byte bytes (λ k d lt. all (suc k) d (omega arith)) i

pub number_only_4 : (bytes : List ℕ) (read : ℕ × List ℕ) → AreBytes bytes → number_at w32 bytes ≡ Ok read → bytes ≡ to_be_bytes w32 read.0 ++ read.1
number_only_4 bytes read all h =
    let p = failed (nat_lt (length bytes) 4) _ _ read h in
    let enough : 4 ≤ length bytes = grind (arith, nat_tests, p.0) in
    let e : (from_be_bytes w32 (take 4 bytes), drop 4 bytes) ≡ read = ok_is _ read p.1 in
    let spelled : to_be_bytes w32 (from_be_bytes w32 (take 4 bytes)) ≡ take 4 bytes = be_bytes_4 (take 4 bytes) _ (length-take-le 4 bytes enough) (each_byte (take 4 bytes) (All-take (λ byte. byte < 256) 4 bytes all)) refl in
    let whole : bytes ≡ to_be_bytes w32 (from_be_bytes w32 (take 4 bytes)) ++ drop 4 bytes = sym (ap (λ (front : List ℕ). front ++ drop 4 bytes) spelled ∙ take-append-drop 4 bytes) in
    whole ∙ ap (λ (q : ℕ × List ℕ). to_be_bytes w32 q.0 ++ q.1) e

pub number_only_2 : (bytes : List ℕ) (read : ℕ × List ℕ) → AreBytes bytes → number_at w16 bytes ≡ Ok read → bytes ≡ to_be_bytes w16 read.0 ++ read.1
number_only_2 bytes read all h =
    let p = failed (nat_lt (length bytes) 2) _ _ read h in
    let enough : 2 ≤ length bytes = grind (arith, nat_tests, p.0) in
    let e : (from_be_bytes w16 (take 2 bytes), drop 2 bytes) ≡ read = ok_is _ read p.1 in
    let spelled : to_be_bytes w16 (from_be_bytes w16 (take 2 bytes)) ≡ take 2 bytes = be_bytes_2 (take 2 bytes) _ (length-take-le 2 bytes enough) (each_byte (take 2 bytes) (All-take (λ byte. byte < 256) 2 bytes all)) refl in
    let whole : bytes ≡ to_be_bytes w16 (from_be_bytes w16 (take 2 bytes)) ++ drop 2 bytes = sym (ap (λ (front : List ℕ). front ++ drop 2 bytes) spelled ∙ take-append-drop 2 bytes) in
    whole ∙ ap (λ (q : ℕ × List ℕ). to_be_bytes w16 q.0 ++ q.1) e

pub number_only_8 : (bytes : List ℕ) (read : ℕ × List ℕ) → AreBytes bytes → number_at w64 bytes ≡ Ok read → bytes ≡ to_be_bytes w64 read.0 ++ read.1
number_only_8 bytes read all h =
    let p = failed (nat_lt (length bytes) 8) _ _ read h in
    let enough : 8 ≤ length bytes = grind (arith, nat_tests, p.0) in
    let e : (from_be_bytes w64 (take 8 bytes), drop 8 bytes) ≡ read = ok_is _ read p.1 in
    let spelled : to_be_bytes w64 (from_be_bytes w64 (take 8 bytes)) ≡ take 8 bytes = be_bytes_8 (take 8 bytes) _ (length-take-le 8 bytes enough) (each_byte (take 8 bytes) (All-take (λ byte. byte < 256) 8 bytes all)) refl in
    let whole : bytes ≡ to_be_bytes w64 (from_be_bytes w64 (take 8 bytes)) ++ drop 8 bytes = sym (ap (λ (front : List ℕ). front ++ drop 8 bytes) spelled ∙ take-append-drop 8 bytes) in
    whole ∙ ap (λ (q : ℕ × List ℕ). to_be_bytes w64 q.0 ++ q.1) e

pub count_only : (bytes : List ℕ) (read : ℕ × List ℕ) → AreBytes bytes → count_at bytes ≡ Ok read → bytes ≡ to_be_bytes w64 read.0 ++ read.1
unfolding count_at
count_only bytes read all h =
    let s = both_ok (number_at w64 bytes) _ read h in
    let p = passed_ok _ (Ok s.0) _ read s.2 in
    number_only_8 bytes s.0 all s.1 ∙ ap (λ (q : ℕ × List ℕ). to_be_bytes w64 q.0 ++ q.1) (ok_is s.0 read p.1)

pub request_only : (bytes : List ℕ) (read : ℕ × List ℕ) → AreBytes bytes → request_number_at bytes ≡ Ok read → bytes ≡ to_be_bytes w32 read.0 ++ read.1
unfolding request_number_at
request_only bytes read all h =
    let s = both_ok (number_at w32 bytes) _ read h in
    let p = passed_ok _ (Ok s.0) _ read s.2 in
    number_only_4 bytes s.0 all s.1 ∙ ap (λ (q : ℕ × List ℕ). to_be_bytes w32 q.0 ++ q.1) (ok_is s.0 read p.1)

pub run_only : (test : List ℕ → Bool) (size : ℕ) (bytes : List ℕ) (read : List ℕ × List ℕ) → run_at test size bytes ≡ Ok read → (bytes ≡ read.0 ++ read.1) × (length read.0 ≡ size)
unfolding run_at
run_only test size bytes read h =
    let p = failed (nat_lt (length bytes) size) _ _ read h in
    let enough : size ≤ length bytes = grind (arith, nat_tests, p.0) in
    let q = passed_ok _ _ _ read p.1 in
    let e : (take size bytes, drop size bytes) ≡ read = ok_is _ read q.1 in
    (sym (take-append-drop size bytes) ∙ ap (λ (r : List ℕ × List ℕ). r.0 ++ r.1) e, sym (ap (λ (r : List ℕ × List ℕ). length r.0) e) ∙ length-take-le size bytes enough)

-- numbers of eight bytes
pub bound_8 : (bytes : List ℕ) → ((i : ℕ) → get_or bytes i 0 < 256) → from_be_bytes w64 bytes < 2 ^ 64
bound_8 bytes each = omega (arith, each 0, each 1, each 2, each 3, each 4, each 5, each 6, each 7)

pub number_bound_8 : (bytes : List ℕ) (read : ℕ × List ℕ) → AreBytes bytes → number_at w64 bytes ≡ Ok read → read.0 < 2 ^ 64
number_bound_8 bytes read all h =
    let p = failed (nat_lt (length bytes) 8) _ _ read h in
    let e : from_be_bytes w64 (take 8 bytes) ≡ read.0 = ap (λ (q : ℕ × List ℕ). q.0) (ok_is _ read p.1) in
    subst (λ (n : ℕ). n < 2 ^ 64) e (bound_8 (take 8 bytes) (each_byte (take 8 bytes) (All-take (λ byte. byte < 256) 8 bytes all)))

-- things that are each spelled by what they were read from, one behind the other
pub several_only : {X : Type 0} (read : List ℕ → Read X) (spell : X → List ℕ) → ((bytes : List ℕ) (r : X × List ℕ) → AreBytes bytes → read bytes ≡ Ok r → bytes ≡ spell r.0 ++ r.1)
    → (count : ℕ) (bytes : List ℕ) (r : List X × List ℕ) → AreBytes bytes → several_at read count bytes ≡ Ok r → (bytes ≡ flat_map spell r.0 ++ r.1) × (length r.0 ≡ count)
unfolding several_at
several_only {X} read spell only zero bytes r all h =
    let e : ([], bytes) ≡ r = ok_is _ r h in
    (ap (λ (q : List X × List ℕ). flat_map spell q.0 ++ q.1) e, sym (ap (λ (q : List X × List ℕ). length q.0) e))
several_only {X} read spell only (suc count) bytes r all h =
    let s = both_ok (read bytes) _ r h in
    let t = both_ok (several_at read count s.0.1) _ r s.2 in
    let first : bytes ≡ spell s.0.0 ++ s.0.1 = only bytes s.0 all s.1 in
    let more = several_only read spell only count s.0.1 t.0 (rest_are bytes (spell s.0.0) s.0.1 first all) t.1 in
    let e : (s.0.0 ∷ t.0.0, t.0.1) ≡ r = ok_is _ r t.2 in
    let joined : bytes ≡ (spell s.0.0 ++ flat_map spell t.0.0) ++ t.0.1 = first ∙ (ap (λ (rest : List ℕ). spell s.0.0 ++ rest) more.0 ∙ sym (append_assoc (spell s.0.0) (flat_map spell t.0.0) t.0.1)) in
    let size : length (s.0.0 ∷ t.0.0) ≡ suc count = ap suc more.1 in
    (joined ∙ ap (λ (q : List X × List ℕ). flat_map spell q.0 ++ q.1) e, sym (ap (λ (q : List X × List ℕ). length q.0) e) ∙ size)

-- parts behind a tag
pub tagged : (bytes rest : List ℕ) (tag known : ℕ) → bytes ≡ tag ∷ rest → (tag == known) ≡ true → bytes ≡ known ∷ rest
tagged bytes rest tag known is same = is ∙ ap (λ (t : ℕ). t ∷ rest) (eqb-true tag known same)

pub join_1 : (tag : ℕ) (bytes a x : List ℕ) → bytes ≡ a ++ x → tag ∷ bytes ≡ (tag ∷ a) ++ x
join_1 tag bytes a x is = ap (λ (rest : List ℕ). tag ∷ rest) is

pub join_2 : (tag : ℕ) (bytes a x b y : List ℕ) → bytes ≡ a ++ x → x ≡ b ++ y → tag ∷ bytes ≡ ((tag ∷ a) ++ b) ++ y
join_2 tag bytes a x b y is next = join_1 tag bytes a x is ∙ (ap (λ (rest : List ℕ). (tag ∷ a) ++ rest) next ∙ sym (append_assoc (tag ∷ a) b y))

pub join_3 : (tag : ℕ) (bytes a x b y c z : List ℕ) → bytes ≡ a ++ x → x ≡ b ++ y → y ≡ c ++ z → tag ∷ bytes ≡ (((tag ∷ a) ++ b) ++ c) ++ z
join_3 tag bytes a x b y c z is next last = join_2 tag bytes a x b y is next ∙ (ap (λ (rest : List ℕ). ((tag ∷ a) ++ b) ++ rest) last ∙ sym (append_assoc ((tag ∷ a) ++ b) c z))

pub join_4 : (tag : ℕ) (bytes a x b y c z d w : List ℕ) → bytes ≡ a ++ x → x ≡ b ++ y → y ≡ c ++ z → z ≡ d ++ w → tag ∷ bytes ≡ ((((tag ∷ a) ++ b) ++ c) ++ d) ++ w
join_4 tag bytes a x b y c z d w is next third last = join_3 tag bytes a x b y c z is next third ∙ (ap (λ (rest : List ℕ). (((tag ∷ a) ++ b) ++ c) ++ rest) last ∙ sym (append_assoc (((tag ∷ a) ++ b) ++ c) d w))
