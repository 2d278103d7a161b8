-- What was read as a word, a text or a value is spelled by the bytes that it was read from.
use Rattle.std.proofs.Common.{◌≡◌, ℕ, ◌+◌, ◌-◌, ◌<◌, List, [], ◌∷◌, ◌++◌, length, take, drop, Bool, ◌==◌, nat_le, Ok, Err, refl, sym, ap, ◌∙◌, inl, inr, length-append, take-append-drop, append_assoc, arith}
use Rattle.std.proofs.lemmas.List.Elements.{All-take}
use Rattle.std.specs.Int.{w16, w64, to_be_bytes, cast_unsigned, cast_signed}
use Rattle.std.specs.List.{flat_map}
use Rattle.std.specs.Str.{is_utf8}
use Rattle.std.proofs.lemmas.Int.{of_z-to_z}
use Rattle.std.proofs.Math.Seq.{drop-append_seam}
use Rattle.dura_value.specs.declared.data.Scalar.{Scalar}
use Rattle.dura_value.specs.declared.data.Scalar.TheVariants as scalars
use Rattle.dura_value.specs.declared.data.Value.{Value}
use Rattle.dura_value.specs.Names.{is_name, is_key}
use Rattle.dura_value.specs.Reading.{◌>>=◌}
use Rattle.dura_codec.specs.Fields.{Read, byte_at, number_at, run_at, several_at}
use Rattle.dura_value.specs.Values.{value_of}
use Rattle.dura_codec.specs.Grammar.{word_size_at, name_at, key_at, text_at, scalar_at, scalars_at, value_front, of_front, value_at}
use Rattle.dura_codec.specs.Spelling.{spell_word, spell_text, spell_scalar, spell_value}
use Rattle.part_items.specs.Fits.{AreBytes}
use Rattle.part_items.proofs.Steps.{ok_is, either, rest_are, byte_only, number_only_2, number_only_8, number_bound_8, run_only, several_only, tagged, join_1, join_2}
use Rattle.dura_value.proofs.Basics.{both_ok, passed_ok}

size_only : (bytes : List ℕ) (read : ℕ × List ℕ) → word_size_at bytes ≡ Ok read → bytes ≡ read.0 ∷ read.1
unfolding word_size_at
size_only bytes read h =
    let s = both_ok (byte_at bytes) _ read h in
    let p = passed_ok _ (Ok s.0) _ read s.2 in
    byte_only bytes s.0 s.1 ∙ ap (λ (q : ℕ × List ℕ). q.0 ∷ q.1) (ok_is s.0 read p.1)

word_only : (test : List ℕ → Bool) (bytes : List ℕ) (size : ℕ × List ℕ) (read : List ℕ × List ℕ) → bytes ≡ size.0 ∷ size.1 → run_at test size.0 size.1 ≡ Ok read → bytes ≡ spell_word read.0 ++ read.1
word_only test bytes size read is h =
    let r = run_only test size.0 size.1 read h in
    is ∙ (ap (λ (rest : List ℕ). size.0 ∷ rest) r.0 ∙ ap (λ (n : ℕ). n ∷ (read.0 ++ read.1)) (sym r.1))

pub name_only : (bytes : List ℕ) (read : List ℕ × List ℕ) → name_at bytes ≡ Ok read → bytes ≡ spell_word read.0 ++ read.1
unfolding name_at
name_only bytes read h =
    let s = both_ok (word_size_at bytes) _ read h in
    word_only is_name bytes s.0 read (size_only bytes s.0 s.1) s.2

pub key_only : (bytes : List ℕ) (read : List ℕ × List ℕ) → key_at bytes ≡ Ok read → bytes ≡ spell_word read.0 ++ read.1
unfolding key_at
key_only bytes read h =
    let s = both_ok (word_size_at bytes) _ read h in
    word_only is_key bytes s.0 read (size_only bytes s.0 s.1) s.2

pub text_only : (bytes : List ℕ) (read : List ℕ × List ℕ) → AreBytes bytes → text_at bytes ≡ Ok read → bytes ≡ spell_text read.0 ++ read.1
unfolding text_at
text_only bytes read all h =
    let s = both_ok (number_at w16 bytes) _ read h in
    let p = passed_ok _ _ _ read s.2 in
    let r = run_only is_utf8 s.0.0 s.0.1 read p.1 in
    number_only_2 bytes s.0 all s.1 ∙ (ap (λ (rest : List ℕ). to_be_bytes w16 s.0.0 ++ rest) r.0 ∙ ap (λ (n : ℕ). to_be_bytes w16 n ++ (read.0 ++ read.1)) (sym r.1))

abbrev Scalars : Type 0
Scalars = Scalar × List ℕ

int_only : (rest : List ℕ) (read : Scalars) → AreBytes rest → (number_at w64 rest >>= λ n. Ok (scalars.Int (cast_signed w64 n.0), n.1)) ≡ Ok read → 3 ∷ rest ≡ spell_scalar read.0 ++ read.1
int_only rest read all h =
    let t = both_ok (number_at w64 rest) _ read h in
    let back : cast_unsigned w64 (cast_signed w64 t.0.0) ≡ t.0.0 = of_z-to_z w64 t.0.0 (number_bound_8 rest t.0 all t.1) in
    let spelled : 3 ∷ rest ≡ spell_scalar (scalars.Int (cast_signed w64 t.0.0)) ++ t.0.1 =
    join_1 3 rest (to_be_bytes w64 t.0.0) t.0.1 (number_only_8 rest t.0 all t.1) ∙ ap (λ (n : ℕ). (3 ∷ to_be_bytes w64 n) ++ t.0.1) (sym back) in
    spelled ∙ ap (λ (q : Scalars). spell_scalar q.0 ++ q.1) (ok_is _ read t.2)

text_scalar_only : (rest : List ℕ) (read : Scalars) → AreBytes rest → (text_at rest >>= λ text. Ok (scalars.Text text.0, text.1)) ≡ Ok read → 4 ∷ rest ≡ spell_scalar read.0 ++ read.1
text_scalar_only rest read all h =
    let t = both_ok (text_at rest) _ read h in
    join_1 4 rest (spell_text t.0.0) t.0.1 (text_only rest t.0 all t.1) ∙ ap (λ (q : Scalars). spell_scalar q.0 ++ q.1) (ok_is _ read t.2)

pub scalar_only : (bytes : List ℕ) (read : Scalars) → AreBytes bytes → scalar_at bytes ≡ Ok read → bytes ≡ spell_scalar read.0 ++ read.1
unfolding scalar_at
scalar_only bytes read all h =
    let s = both_ok (byte_at bytes) _ read h in
    let is : bytes ≡ s.0.0 ∷ s.0.1 = byte_only bytes s.0 s.1 in
    let rest : AreBytes s.0.1 = rest_are bytes (s.0.0 ∷ []) s.0.1 is all in
    elim (either (s.0.0 == 0) _ _ read s.2) [
      | inl p ↦ tagged bytes s.0.1 s.0.0 0 is p.0 ∙ ap (λ (q : Scalars). spell_scalar q.0 ++ q.1) (ok_is _ read p.1)
      | inr p ↦ elim (either (s.0.0 == 1) _ _ read p.1) [
        | inl q ↦ tagged bytes s.0.1 s.0.0 1 is q.0 ∙ ap (λ (q : Scalars). spell_scalar q.0 ++ q.1) (ok_is _ read q.1)
        | inr q ↦ elim (either (s.0.0 == 2) _ _ read q.1) [
          | inl r ↦ tagged bytes s.0.1 s.0.0 2 is r.0 ∙ ap (λ (q : Scalars). spell_scalar q.0 ++ q.1) (ok_is _ read r.1)
          | inr r ↦ elim (either (s.0.0 == 3) _ _ read r.1) [
            | inl t ↦ tagged bytes s.0.1 s.0.0 3 is t.0 ∙ int_only s.0.1 read rest t.1
            | inr t ↦
                let u = passed_ok (s.0.0 == 4) _ _ read t.1 in
                tagged bytes s.0.1 s.0.0 4 is u.0 ∙ text_scalar_only s.0.1 read rest u.1
          ]
        ]
      ]
    ]

front_ok : {X : Type 0} (bytes front : List ℕ) (r : Read X) (read : X × List ℕ) → of_front bytes front r ≡ Ok read
    → (x : X × List ℕ) × (r ≡ Ok x) × (Path (X × List ℕ) (x.0, drop (length front - length x.1) bytes) read)
front_ok bytes front (Ok x) read h = (x, refl, ok_is _ read h)
front_ok bytes front (Err left) read h = absurd (cc h)

-- what was read of a front is spelled there
front_only : (most : ℕ) (bytes : List ℕ) (count : ℕ) (read : List Scalar × List ℕ) → AreBytes (take most bytes)
    → of_front bytes (take most bytes) (several_at scalar_at count (take most bytes)) ≡ Ok read → (bytes ≡ flat_map spell_scalar read.0 ++ read.1) × (length read.0 ≡ count)
front_only most bytes count read all h =
    let f = front_ok bytes (take most bytes) (several_at scalar_at count (take most bytes)) read h in
    let r = several_only scalar_at spell_scalar scalar_only count (take most bytes) f.0 all f.1 in
    let whole : bytes ≡ flat_map spell_scalar f.0.0 ++ (f.0.1 ++ drop most bytes) =
    sym (take-append-drop most bytes) ∙ (ap (λ (front : List ℕ). front ++ drop most bytes) r.0 ∙ append_assoc (flat_map spell_scalar f.0.0) f.0.1 (drop most bytes)) in
    let sizes : length (take most bytes) ≡ length (flat_map spell_scalar f.0.0) + length f.0.1 = ap (λ (front : List ℕ). length front) r.0 ∙ length-append (flat_map spell_scalar f.0.0) f.0.1 in
    let used : length (take most bytes) - length f.0.1 ≡ length (flat_map spell_scalar f.0.0) = omega (arith, sizes) in
    let behind : drop (length (take most bytes) - length f.0.1) bytes ≡ f.0.1 ++ drop most bytes =
    ap (λ (n : ℕ). drop n bytes) used ∙ (ap (λ (bs : List ℕ). drop (length (flat_map spell_scalar f.0.0)) bs) whole ∙ drop-append_seam (flat_map spell_scalar f.0.0) (f.0.1 ++ drop most bytes)) in
    (whole ∙ (ap (λ (rest : List ℕ). flat_map spell_scalar f.0.0 ++ rest) (sym behind) ∙ ap (λ (q : List Scalar × List ℕ). flat_map spell_scalar q.0 ++ q.1) f.2), sym (ap (λ (q : List Scalar × List ℕ). length q.0) f.2) ∙ r.1)

scalars_only : (bytes : List ℕ) (read : List Scalar × List ℕ) → AreBytes bytes → scalars_at bytes ≡ Ok read → bytes ≡ to_be_bytes w16 (length read.0) ++ (flat_map spell_scalar read.0 ++ read.1)
unfolding scalars_at value_front
scalars_only bytes read all h =
    let s = both_ok (number_at w16 bytes) _ read h in
    let is : bytes ≡ to_be_bytes w16 s.0.0 ++ s.0.1 = number_only_2 bytes s.0 all s.1 in
    let rest : AreBytes s.0.1 = rest_are bytes (to_be_bytes w16 s.0.0) s.0.1 is all in
    let p = passed_ok (nat_le s.0.0 1024) _ _ read s.2 in
    let f = front_only 65533 s.0.1 s.0.0 read (All-take (λ byte. byte < 256) 65533 s.0.1 rest) p.1 in
    is ∙ (ap (λ (n : ℕ). to_be_bytes w16 n ++ s.0.1) (sym f.1) ∙ ap (λ (bs : List ℕ). to_be_bytes w16 (length read.0) ++ bs) f.0)

-- a scalar is spelled as the value
same_spelling : (scalar : Scalar) → spell_value (value_of scalar) ≡ spell_scalar scalar
same_spelling scalars.Null = refl
same_spelling scalars.False = refl
same_spelling scalars.True = refl
same_spelling (scalars.Int n) = refl
same_spelling (scalars.Text text) = refl

pub value_only : (bytes : List ℕ) (read : Value × List ℕ) → AreBytes bytes → value_at bytes ≡ Ok read → bytes ≡ spell_value read.0 ++ read.1
unfolding value_at
value_only bytes read all h =
    let s = both_ok (byte_at bytes) _ read h in
    let is : bytes ≡ s.0.0 ∷ s.0.1 = byte_only bytes s.0 s.1 in
    let rest : AreBytes s.0.1 = rest_are bytes (s.0.0 ∷ []) s.0.1 is all in
    elim (either (s.0.0 == 5) _ _ read s.2) [
      | inl p ↦
          let t = both_ok (scalars_at s.0.1) _ read p.1 in
          tagged bytes s.0.1 s.0.0 5 is p.0
          ∙ (join_2 5 s.0.1 (to_be_bytes w16 (length t.0.0)) (flat_map spell_scalar t.0.0 ++ t.0.1) (flat_map spell_scalar t.0.0) t.0.1 (scalars_only s.0.1 t.0 rest t.1) refl
          ∙ ap (λ (q : Value × List ℕ). spell_value q.0 ++ q.1) (ok_is _ read t.2))
      | inr p ↦
          let t = both_ok (scalar_at bytes) _ read p.1 in
          scalar_only bytes t.0 all t.1 ∙ (ap (λ (front : List ℕ). front ++ t.0.1) (sym (same_spelling t.0.0)) ∙ ap (λ (q : Value × List ℕ). spell_value q.0 ++ q.1) (ok_is _ read t.2))
    ]
