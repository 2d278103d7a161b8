-- What was written piece by piece is what the pieces make.
use Rattle.std.proofs.Common.{◌≡◌, ℕ, ◌+◌, ◌<◌, List, [], ◌∷◌, ◌++◌, length, get_or, map, take, Result, Ok, Err, refl, ◌∙◌, add-one, append-nil, append_assoc}
use Rattle.std.specs.Prelude.{OnOk}
use Rattle.std.specs.List.{flat_map}
use Rattle.std.proofs.Math.Seq.{take-suc}
use Rattle.std.proofs.lemmas.List.{map-append}
use Rattle.std.proofs.lemmas.List.Concat.{flat_map-append, flat_map-cons}

pub two_written : {T E : Type 0} (r : Result T E) (old one new a b : List ℕ) → one ≡ old ++ a → OnOk r (new ≡ one ++ b) → OnOk r (new ≡ old ++ (a ++ b))
two_written (Ok t) old one new a b first second = second ∙ rw (first, append_assoc) refl
two_written (Err e) old one new a b first second = tt

pub three_written : {T E : Type 0} (r : Result T E) (old one two new a b c : List ℕ) → one ≡ old ++ a → two ≡ one ++ b → OnOk r (new ≡ two ++ c) → OnOk r (new ≡ old ++ (a ++ (b ++ c)))
three_written r old one two new a b c first second third = two_written r old one new a (b ++ c) first (two_written r one two new b c second third)

pub four_written : {T E : Type 0} (r : Result T E) (old one two three new a b c d : List ℕ) → one ≡ old ++ a → two ≡ one ++ b → three ≡ two ++ c → OnOk r (new ≡ three ++ d) → OnOk r (new ≡ old ++ (a ++ (b ++ c ++ d)))
four_written r old one two three new a b c d first second third fourth =
    let both : three ≡ one ++ (b ++ c) = third ∙ rw (second, append_assoc) refl in
    two_written r old one new a (b ++ c ++ d) first (two_written r one three new (b ++ c) d both fourth)

-- one member more, seen by a view, is spelled behind those before it
one_more : {X Y : Type 0} (view : X → Y) (spell : Y → List ℕ) (xs : List X) (i : ℕ) (x : X) → i < length xs → x ≡ get_or xs i x → flat_map spell (map view (take (i + 1) xs)) ≡ flat_map spell (map view (take i xs)) ++ spell (view x)
one_more view spell xs i x lt is = rw (add-one, take-suc xs i x lt, ← is, map-append view (take i xs) (x ∷ []), flat_map-append spell (map view (take i xs)) (view x ∷ []), flat_map-cons spell (view x) [], append-nil) refl

pub one_written : {X Y : Type 0} (view : X → Y) (spell : Y → List ℕ) (xs : List X) (i : ℕ) (x : X) (old one new : List ℕ) → i < length xs → x ≡ get_or xs i x → one ≡ old ++ flat_map spell (map view (take i xs)) → new ≡ one ++ spell (view x) → new ≡ old ++ flat_map spell (map view (take (i + 1) xs))
one_written view spell xs i x old one new lt is before now = now ∙ rw (before, one_more view spell xs i x lt is, append_assoc) refl
