-- What was read as an item, an entry or a frame is spelled by the bytes that it was read from.
use Rattle.std.proofs.Common.{◌≡◌, ℕ, List, [], ◌∷◌, ◌++◌, length, ◌==◌, Ok, Err, refl, sym, ap, ◌∙◌, inl, inr, append_assoc, append-nil}
use Rattle.std.specs.Int.{w16, w32, w64, to_be_bytes}
use Rattle.std.specs.List.{flat_map}
use Rattle.dura_value.specs.Items.{Item, took, got, ran, ended, fired, trim, Entry}
use Rattle.dura_codec.specs.Fields.{Read, byte_at, number_at, count_at, several_at, placed}
use Rattle.dura_codec.specs.Grammar.{id_at, message_at, outcome_at}
use Rattle.dura_codec.specs.Spelling.{spell_id, spell_outcome, spell_message}
use Rattle.part_items.specs.Grammar.{took_at, got_at, ran_at, done_at, fired_at, trim_at, item_at, members_at, entry_items_at, entry_at, alone, frame_at, frame_in}
use Rattle.part_items.specs.Spelling.{spell_three, spell_item, spell_heading, spell_entry, spell_frame}
use Rattle.part_items.specs.Fits.{AreBytes}
use Rattle.part_items.proofs.Steps.{ok_is, either, rest_are, byte_only, number_only_2, number_only_4, count_only, several_only, tagged, join_1, join_2, join_3}
use Rattle.part_items.proofs.OnlyMessages.{id_only, outcome_only, message_only, chain_2}
use Rattle.dura_value.proofs.Basics.{both_ok, passed_ok}

spelled_item : {bytes : List ℕ} (one read : Item × List ℕ) → bytes ≡ spell_item one.0 ++ one.1 → one ≡ read → bytes ≡ spell_item read.0 ++ read.1
spelled_item one read is e = is ∙ ap (λ (q : Item × List ℕ). spell_item q.0 ++ q.1) e

-- three numbers, one behind the other
record Three (bytes : List ℕ) (a b c : ℕ × List ℕ) : Type 0 where
  is : bytes ≡ spell_three a.0 b.0 c.0 ++ c.1
  are : AreBytes c.1

three_only : (bytes : List ℕ) (a b c : ℕ × List ℕ) → AreBytes bytes → count_at bytes ≡ Ok a → count_at a.1 ≡ Ok b → count_at b.1 ≡ Ok c → Three bytes a b c
unfolding spell_three
three_only bytes a b c all is_a is_b is_c =
    let first : bytes ≡ to_be_bytes w64 a.0 ++ a.1 = count_only bytes a all is_a in
    let after : AreBytes a.1 = rest_are bytes (to_be_bytes w64 a.0) a.1 first all in
    let second : a.1 ≡ to_be_bytes w64 b.0 ++ b.1 = count_only a.1 b after is_b in
    let behind : AreBytes b.1 = rest_are a.1 (to_be_bytes w64 b.0) b.1 second after in
    let third : b.1 ≡ to_be_bytes w64 c.0 ++ c.1 = count_only b.1 c behind is_c in
    record {
      is = chain_2 bytes (to_be_bytes w64 a.0 ++ to_be_bytes w64 b.0) b.1 (to_be_bytes w64 c.0) c.1 (chain_2 bytes (to_be_bytes w64 a.0) a.1 (to_be_bytes w64 b.0) b.1 first second) third;
      are = rest_are b.1 (to_be_bytes w64 c.0) c.1 third behind;
    }

took_only : (rest : List ℕ) (read : Item × List ℕ) → AreBytes rest → took_at rest ≡ Ok read → 0x20 ∷ rest ≡ spell_item read.0 ++ read.1
unfolding took_at
took_only rest read all h =
    let s = both_ok (message_at rest) _ read h in
    spelled_item (took s.0.0, s.0.1) read (join_1 0x20 rest (spell_message s.0.0) s.0.1 (message_only rest s.0 all s.1)) (ok_is _ read s.2)

got_only : (rest : List ℕ) (read : Item × List ℕ) → AreBytes rest → got_at rest ≡ Ok read → 0x21 ∷ rest ≡ spell_item read.0 ++ read.1
unfolding got_at
got_only rest read all h =
    let s = both_ok (number_at w32 rest) _ read h in
    let first : rest ≡ to_be_bytes w32 s.0.0 ++ s.0.1 = number_only_4 rest s.0 all s.1 in
    let a = both_ok (count_at s.0.1) _ read s.2 in
    let b = both_ok (count_at a.0.1) _ read a.2 in
    let c = both_ok (count_at b.0.1) _ read b.2 in
    let numbers : Three s.0.1 a.0 b.0 c.0 = three_only s.0.1 a.0 b.0 c.0 (rest_are rest (to_be_bytes w32 s.0.0) s.0.1 first all) a.1 b.1 c.1 in
    let t = both_ok (message_at c.0.1) _ read c.2 in
    spelled_item (got (record { partition = s.0.0; incarnation = a.0.0; position = b.0.0 }) c.0.0 t.0.0, t.0.1) read
    (join_3 0x21 rest (to_be_bytes w32 s.0.0) s.0.1 (spell_three a.0.0 b.0.0 c.0.0) c.0.1 (spell_message t.0.0) t.0.1 first numbers.is (message_only c.0.1 t.0 numbers.are t.1))
    (ok_is (got (record { partition = s.0.0; incarnation = a.0.0; position = b.0.0 }) c.0.0 t.0.0, t.0.1) read t.2)

ran_only : (rest : List ℕ) (read : Item × List ℕ) → AreBytes rest → ran_at rest ≡ Ok read → 0x22 ∷ rest ≡ spell_item read.0 ++ read.1
unfolding ran_at
ran_only rest read all h =
    let s = both_ok (id_at rest) _ read h in
    let first : rest ≡ spell_id s.0.0 ++ s.0.1 = id_only rest s.0 all s.1 in
    let after : AreBytes s.0.1 = rest_are rest (spell_id s.0.0) s.0.1 first all in
    let t = both_ok (id_at s.0.1) _ read s.2 in
    let second : s.0.1 ≡ spell_id t.0.0 ++ t.0.1 = id_only s.0.1 t.0 after t.1 in
    let u = both_ok (count_at t.0.1) _ read t.2 in
    spelled_item (ran s.0.0 t.0.0 u.0.0, u.0.1) read
    (join_3 0x22 rest (spell_id s.0.0) s.0.1 (spell_id t.0.0) t.0.1 (to_be_bytes w64 u.0.0) u.0.1 first second (count_only t.0.1 u.0 (rest_are s.0.1 (spell_id t.0.0) t.0.1 second after) u.1))
    (ok_is (ran s.0.0 t.0.0 u.0.0, u.0.1) read u.2)

done_only : (rest : List ℕ) (read : Item × List ℕ) → AreBytes rest → done_at rest ≡ Ok read → 0x23 ∷ rest ≡ spell_item read.0 ++ read.1
unfolding done_at
done_only rest read all h =
    let s = both_ok (id_at rest) _ read h in
    let first : rest ≡ spell_id s.0.0 ++ s.0.1 = id_only rest s.0 all s.1 in
    let after : AreBytes s.0.1 = rest_are rest (spell_id s.0.0) s.0.1 first all in
    let t = both_ok (number_at w32 s.0.1) _ read s.2 in
    let second : s.0.1 ≡ to_be_bytes w32 t.0.0 ++ t.0.1 = number_only_4 s.0.1 t.0 after t.1 in
    let u = both_ok (outcome_at t.0.1) _ read t.2 in
    spelled_item (ended s.0.0 t.0.0 u.0.0, u.0.1) read
    (join_3 0x23 rest (spell_id s.0.0) s.0.1 (to_be_bytes w32 t.0.0) t.0.1 (spell_outcome u.0.0) u.0.1 first second (outcome_only t.0.1 u.0 (rest_are s.0.1 (to_be_bytes w32 t.0.0) t.0.1 second after) u.1))
    (ok_is (ended s.0.0 t.0.0 u.0.0, u.0.1) read u.2)

fired_only : (rest : List ℕ) (read : Item × List ℕ) → AreBytes rest → fired_at rest ≡ Ok read → 0x24 ∷ rest ≡ spell_item read.0 ++ read.1
unfolding fired_at
fired_only rest read all h =
    let s = both_ok (id_at rest) _ read h in
    let first : rest ≡ spell_id s.0.0 ++ s.0.1 = id_only rest s.0 all s.1 in
    let after : AreBytes s.0.1 = rest_are rest (spell_id s.0.0) s.0.1 first all in
    let t = both_ok (number_at w32 s.0.1) _ read s.2 in
    let second : s.0.1 ≡ to_be_bytes w32 t.0.0 ++ t.0.1 = number_only_4 s.0.1 t.0 after t.1 in
    let u = both_ok (count_at t.0.1) _ read t.2 in
    spelled_item (fired s.0.0 t.0.0 u.0.0, u.0.1) read
    (join_3 0x24 rest (spell_id s.0.0) s.0.1 (to_be_bytes w32 t.0.0) t.0.1 (to_be_bytes w64 u.0.0) u.0.1 first second (count_only t.0.1 u.0 (rest_are s.0.1 (to_be_bytes w32 t.0.0) t.0.1 second after) u.1))
    (ok_is (fired s.0.0 t.0.0 u.0.0, u.0.1) read u.2)

trim_only : (rest : List ℕ) (read : Item × List ℕ) → AreBytes rest → trim_at rest ≡ Ok read → 0x25 ∷ rest ≡ spell_item read.0 ++ read.1
unfolding trim_at
trim_only rest read all h =
    let s = both_ok (number_at w32 rest) _ read h in
    let first : rest ≡ to_be_bytes w32 s.0.0 ++ s.0.1 = number_only_4 rest s.0 all s.1 in
    let a = both_ok (count_at s.0.1) _ read s.2 in
    let b = both_ok (count_at a.0.1) _ read a.2 in
    let c = both_ok (count_at b.0.1) _ read b.2 in
    let numbers : Three s.0.1 a.0 b.0 c.0 = three_only s.0.1 a.0 b.0 c.0 (rest_are rest (to_be_bytes w32 s.0.0) s.0.1 first all) a.1 b.1 c.1 in
    spelled_item (trim (record { partition = s.0.0; incarnation = b.0.0; position = c.0.0 }) a.0.0, c.0.1) read
    (join_2 0x25 rest (to_be_bytes w32 s.0.0) s.0.1 (spell_three a.0.0 b.0.0 c.0.0) c.0.1 first numbers.is)
    (ok_is (trim (record { partition = s.0.0; incarnation = b.0.0; position = c.0.0 }) a.0.0, c.0.1) read c.2)

pub item_only : (bytes : List ℕ) (read : Item × List ℕ) → AreBytes bytes → item_at bytes ≡ Ok read → bytes ≡ spell_item read.0 ++ read.1
unfolding item_at
item_only bytes read all h =
    let s = both_ok (byte_at bytes) _ read h in
    let is : bytes ≡ s.0.0 ∷ s.0.1 = byte_only bytes s.0 s.1 in
    let rest : AreBytes s.0.1 = rest_are bytes (s.0.0 ∷ []) s.0.1 is all in
    elim (either (s.0.0 == 0x20) _ _ read s.2) [
      | inl p ↦ tagged bytes s.0.1 s.0.0 0x20 is p.0 ∙ took_only s.0.1 read rest p.1
      | inr p ↦ elim (either (s.0.0 == 0x21) _ _ read p.1) [
        | inl p ↦ tagged bytes s.0.1 s.0.0 0x21 is p.0 ∙ got_only s.0.1 read rest p.1
        | inr p ↦ elim (either (s.0.0 == 0x22) _ _ read p.1) [
          | inl p ↦ tagged bytes s.0.1 s.0.0 0x22 is p.0 ∙ ran_only s.0.1 read rest p.1
          | inr p ↦ elim (either (s.0.0 == 0x23) _ _ read p.1) [
            | inl p ↦ tagged bytes s.0.1 s.0.0 0x23 is p.0 ∙ done_only s.0.1 read rest p.1
            | inr p ↦ elim (either (s.0.0 == 0x24) _ _ read p.1) [
              | inl p ↦ tagged bytes s.0.1 s.0.0 0x24 is p.0 ∙ fired_only s.0.1 read rest p.1
              | inr p ↦
                  let q = passed_ok (s.0.0 == 0x25) _ _ read p.1 in
                  tagged bytes s.0.1 s.0.0 0x25 is q.0 ∙ trim_only s.0.1 read rest q.1
            ]
          ]
        ]
      ]
    ]

pub members_only : (bytes : List ℕ) (read : ℕ × List ℕ) → AreBytes bytes → members_at bytes ≡ Ok read → bytes ≡ to_be_bytes w16 read.0 ++ read.1
unfolding members_at
members_only bytes read all h =
    let s = both_ok (number_at w16 bytes) _ read h in
    let p = passed_ok _ (Ok s.0) _ read s.2 in
    number_only_2 bytes s.0 all s.1 ∙ ap (λ (q : ℕ × List ℕ). to_be_bytes w16 q.0 ++ q.1) (ok_is s.0 read p.1)

entry_items_only : (bytes : List ℕ) (read : List Item × List ℕ) → AreBytes bytes → entry_items_at bytes ≡ Ok read → bytes ≡ to_be_bytes w16 (length read.0) ++ (flat_map spell_item read.0 ++ read.1)
unfolding entry_items_at
entry_items_only bytes read all h =
    let s = both_ok (members_at bytes) _ read h in
    let count : bytes ≡ to_be_bytes w16 s.0.0 ++ s.0.1 = members_only bytes s.0 all s.1 in
    let items = several_only item_at spell_item item_only s.0.0 s.0.1 read (rest_are bytes (to_be_bytes w16 s.0.0) s.0.1 count all) s.2 in
    count ∙ (ap (λ (n : ℕ). to_be_bytes w16 n ++ s.0.1) (sym items.1) ∙ ap (λ (rest : List ℕ). to_be_bytes w16 (length read.0) ++ rest) items.0)

pub entry_only : (bytes : List ℕ) (read : Entry × List ℕ) → AreBytes bytes → entry_at bytes ≡ Ok read → bytes ≡ spell_entry read.0 ++ read.1
unfolding entry_at spell_entry spell_heading
entry_only bytes read all h =
    let s = both_ok (count_at bytes) _ read h in
    let first : bytes ≡ to_be_bytes w64 s.0.0 ++ s.0.1 = count_only bytes s.0 all s.1 in
    let after : AreBytes s.0.1 = rest_are bytes (to_be_bytes w64 s.0.0) s.0.1 first all in
    let t = both_ok (count_at s.0.1) _ read s.2 in
    let second : s.0.1 ≡ to_be_bytes w64 t.0.0 ++ t.0.1 = count_only s.0.1 t.0 after t.1 in
    let behind : AreBytes t.0.1 = rest_are s.0.1 (to_be_bytes w64 t.0.0) t.0.1 second after in
    let u = both_ok (entry_items_at t.0.1) _ read t.2 in
    let items : t.0.1 ≡ to_be_bytes w16 (length u.0.0) ++ (flat_map spell_item u.0.0 ++ u.0.1) = entry_items_only t.0.1 u.0 behind u.1 in
    let heading : bytes ≡ ((to_be_bytes w64 s.0.0 ++ to_be_bytes w64 t.0.0) ++ to_be_bytes w16 (length u.0.0)) ++ (flat_map spell_item u.0.0 ++ u.0.1) =
    chain_2 bytes (to_be_bytes w64 s.0.0 ++ to_be_bytes w64 t.0.0) t.0.1 (to_be_bytes w16 (length u.0.0)) (flat_map spell_item u.0.0 ++ u.0.1) (chain_2 bytes (to_be_bytes w64 s.0.0) s.0.1 (to_be_bytes w64 t.0.0) t.0.1 first second) items in
    heading
    ∙ (sym (append_assoc ((to_be_bytes w64 s.0.0 ++ to_be_bytes w64 t.0.0) ++ to_be_bytes w16 (length u.0.0)) (flat_map spell_item u.0.0) u.0.1)
    ∙ ap (λ (q : Entry × List ℕ). spell_entry q.0 ++ q.1) (ok_is (record { position = s.0.0; incarnation = t.0.0; items = u.0.0 }, u.0.1) read u.2))

placed_ok : {X : Type 0} (bytes : List ℕ) (r : Read X) (x : X × List ℕ) → placed bytes r ≡ Ok x → r ≡ Ok x
placed_ok bytes (Ok y) x h = h
placed_ok bytes (Err left) x h = absurd (cc h)

pub alone_ok : {X : Type 0} (e r : X × List ℕ) → alone e ≡ Ok r → (e.1 ≡ []) × (e.0 ≡ r.0)
alone_ok (x, []) r h = (refl, ap (λ (q : _ × List ℕ). q.0) (ok_is _ r h))
alone_ok (x, byte ∷ bytes) r h = absurd (cc h)

pub frame_only : (bytes : List ℕ) (entries : List Entry) → AreBytes bytes → frame_in bytes ≡ Ok entries → bytes ≡ spell_frame entries
unfolding frame_at
frame_only bytes entries all h =
    let f = both_ok (placed bytes (frame_at bytes)) _ entries h in
    let s = both_ok (members_at bytes) _ f.0 (placed_ok bytes (frame_at bytes) f.0 f.1) in
    let count : bytes ≡ to_be_bytes w16 s.0.0 ++ s.0.1 = members_only bytes s.0 all s.1 in
    let t = both_ok (several_at entry_at s.0.0 s.0.1) _ f.0 s.2 in
    let items = several_only entry_at spell_entry entry_only s.0.0 s.0.1 t.0 (rest_are bytes (to_be_bytes w16 s.0.0) s.0.1 count all) t.1 in
    let end = alone_ok t.0 f.0 t.2 in
    let same : t.0.0 ≡ entries = end.1 ∙ ok_is f.0.0 entries f.2 in
    let rest : s.0.1 ≡ flat_map spell_entry t.0.0 = items.0 ∙ (ap (λ (r : List ℕ). flat_map spell_entry t.0.0 ++ r) end.0 ∙ append-nil (flat_map spell_entry t.0.0)) in
    count ∙ (ap (λ (n : ℕ). to_be_bytes w16 n ++ s.0.1) (sym items.1) ∙ (ap (λ (r : List ℕ). to_be_bytes w16 (length t.0.0) ++ r) rest ∙ ap spell_frame same))
