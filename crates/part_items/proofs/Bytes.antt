-- What a log's bytes are read as: a header, and frames behind it.
use Rattle.std.proofs.Common.{◌≡◌, ◌<◌, ◌+◌, ◌==◌, ◌&&◌, ◌^◌, ℕ, Bool, true, false, cond, List, [], ◌∷◌, length, take, drop, Result, Ok, Err, refl, sym, ap, subst, ◌∙◌, eq-eqb, eqb-true, arith}
use Rattle.std.specs.Prelude.{nat_lt}
use Rattle.std.specs.Int.{Width, w32, w64, byte_len, from_be_bytes}
use Rattle.std.proofs.lemmas.Bool.{ltb-true, and_parts}
use Rattle.std.proofs.lemmas.List.{length-take, drop-drop}
use Rattle.commit_log.specs.declared.header.Header.{Header}
use Rattle.commit_log.specs.Segment.{◌>>=◌, open_gate, signature, constant_at, number_at, header_at, frame_at, segment_at, told, fresh, reading_of}
use Rattle.commit_log.specs.Frames.{header_for, opening_from, opening_of}
use Rattle.commit_log.specs.Frames as logs
use Rattle.dura_value.proofs.Basics.{both_ok}

abbrev pub good : {X : Type 0} → X → Result X ℕ
good x = Ok x

pub same_ok : {X : Type 0} (x y : X) → good x ≡ good y → x ≡ y
same_ok x y is = cc

ok_then : {X : Type 0} (test : Bool) (at : ℕ) (r : Result X ℕ) (y : X) → cond test r (Err at) ≡ Ok y → (test ≡ true) × (r ≡ Ok y)
ok_then true at r y is = (refl, is)
ok_then false at r y is = absurd (cc is)

ok_else : {X : Type 0} (test : Bool) (at : ℕ) (r : Result X ℕ) (y : X) → cond test (Err at) r ≡ Ok y → r ≡ Ok y
ok_else true at r y is = absurd (cc is)
ok_else false at r y is = is

-- ---- what is left behind each part

constant_rest : (wanted : List ℕ) (at : ℕ) (bytes rest : List ℕ) → constant_at wanted at bytes ≡ Ok rest → rest ≡ drop (length wanted) bytes
constant_rest [] at bytes rest is = sym (same_ok bytes rest is)
constant_rest (byte ∷ wanted) at [] rest is = absurd (cc is)
constant_rest (byte ∷ wanted) at (first ∷ bytes) rest is = constant_rest wanted (at + 1) bytes rest (ok_then (first == byte) at (constant_at wanted (at + 1) bytes) rest is).1

number_rest : (w : Width) (at : ℕ) (bytes : List ℕ) (x : ℕ × List ℕ) → number_at w at bytes ≡ Ok x → x.1 ≡ drop (byte_len w) bytes
number_rest w at bytes x is =
    let here = ok_else (nat_lt (length bytes) (byte_len w)) at (Ok (from_be_bytes w (take (byte_len w) bytes), drop (byte_len w) bytes)) x is in
    sym (ap (λ (p : ℕ × List ℕ). p.1) (same_ok (from_be_bytes w (take (byte_len w) bytes), drop (byte_len w) bytes) x here))

pub frame_rest : (at : ℕ) (bytes : List ℕ) (x : List ℕ × List ℕ) → frame_at at bytes ≡ Ok x → x.1 ≡ drop (4 + length x.0) bytes
unfolding frame_at
frame_rest at bytes x is =
    let size = both_ok (number_at w32 at bytes) (λ n. cond (nat_lt n.0 (length n.1) && nat_lt (at + 5 + n.0) (2 ^ 31)) (Ok (take n.0 n.1, drop n.0 n.1)) (Err at)) x is in
    let n = size.0.0 in
    let rest = size.0.1 in
    let end = ok_then (nat_lt n (length rest) && nat_lt (at + 5 + n) (2 ^ 31)) at (Ok (take n rest, drop n rest)) x size.2 in
    let inside : n < length rest = ltb-true _ _ (and_parts (nat_lt n (length rest)) (nat_lt (at + 5 + n) (2 ^ 31)) end.0).0 in
    let long : length (take n rest) ≡ n = omega (arith, length-take n rest) in
    subst (λ (p : List ℕ × List ℕ). p.1 ≡ drop (4 + length p.0) bytes) (same_ok (take n rest, drop n rest) x end.1)
    (ap (drop n) (number_rest w32 at bytes size.0 size.1) ∙ drop-drop n 4 bytes ∙ ap (λ (k : ℕ). drop (4 + k) bytes) (sym long))

-- ---- the header

abbrev header_of : (a b c d : ℕ) → Header
header_of a b c d = record { partition = a; partitions = b; digest = c; base = d }

abbrev with_base : (a b c : ℕ) → ℕ × List ℕ → Result (Header × List ℕ) ℕ
with_base a b c base = cond (nat_lt base.0 (2 ^ 63)) (Ok (header_of a b c base.0, base.1)) (Err 25)

-- its fields one by one
record HasHeader (bytes : List ℕ) (h : Header) (rest : List ℕ) : Type 0 where
  behind_signature : List ℕ
  signed : constant_at signature 1 bytes ≡ Ok behind_signature
  behind_partition : List ℕ
  partition : number_at w32 9 behind_signature ≡ Ok (h.partition, behind_partition)
  behind : rest ≡ drop 32 bytes

five_parts : (bytes s a b c d : List ℕ) → s ≡ drop 8 bytes → a ≡ drop 4 s → b ≡ drop 4 a → c ≡ drop 8 b → d ≡ drop 8 c → d ≡ drop 32 bytes
five_parts bytes s a b c d first second third fourth fifth =
    let to_a : a ≡ drop 12 bytes = second ∙ ap (drop 4) first ∙ drop-drop 4 8 bytes in
    let to_b : b ≡ drop 16 bytes = third ∙ ap (drop 4) to_a ∙ drop-drop 4 12 bytes in
    let to_c : c ≡ drop 24 bytes = fourth ∙ ap (drop 8) to_b ∙ drop-drop 8 16 bytes in
    fifth ∙ ap (drop 8) to_c ∙ drop-drop 8 24 bytes

header_same : (bytes : List ℕ) (h : Header) (rest : List ℕ) (x : Header × List ℕ) → (h, rest) ≡ x → HasHeader bytes h rest → HasHeader bytes x.0 x.1
header_same bytes h rest x is has = subst (λ (p : Header × List ℕ). HasHeader bytes p.0 p.1) is has

header_parts : (bytes : List ℕ) (x : Header × List ℕ) → header_at bytes ≡ Ok x → HasHeader bytes x.0 x.1
unfolding header_at
header_parts bytes x is =
    let s = both_ok (constant_at signature 1 bytes) (λ rest. number_at w32 9 rest >>= λ a. number_at w32 13 a.1 >>= λ b. number_at w64 17 b.1 >>= λ c. number_at w64 25 c.1 >>= λ d. with_base a.0 b.0 c.0 d) x is in
    let a = both_ok (number_at w32 9 s.0) (λ a. number_at w32 13 a.1 >>= λ b. number_at w64 17 b.1 >>= λ c. number_at w64 25 c.1 >>= λ d. with_base a.0 b.0 c.0 d) x s.2 in
    let b = both_ok (number_at w32 13 a.0.1) (λ b. number_at w64 17 b.1 >>= λ c. number_at w64 25 c.1 >>= λ d. with_base a.0.0 b.0 c.0 d) x a.2 in
    let c = both_ok (number_at w64 17 b.0.1) (λ c. number_at w64 25 c.1 >>= λ d. with_base a.0.0 b.0.0 c.0 d) x b.2 in
    let d = both_ok (number_at w64 25 c.0.1) (λ d. with_base a.0.0 b.0.0 c.0.0 d) x c.2 in
    let end = same_ok (header_of a.0.0 b.0.0 c.0.0 d.0.0, d.0.1) x (ok_then (nat_lt d.0.0 (2 ^ 63)) 25 (Ok (header_of a.0.0 b.0.0 c.0.0 d.0.0, d.0.1)) x d.2).1 in
    header_same bytes (header_of a.0.0 b.0.0 c.0.0 d.0.0) d.0.1 x end
    (record {
      behind_signature = s.0;
      signed = s.1;
      behind_partition = a.0.1;
      partition = a.1;
      behind = five_parts bytes s.0 a.0.1 b.0.1 c.0.1 d.0.1 (constant_rest signature 1 bytes s.0 s.1) (number_rest w32 9 s.0 a.0 a.1) (number_rest w32 13 a.0.1 b.0 b.1) (number_rest w64 17 b.0.1 c.0 c.1) (number_rest w64 25 c.0.1 d.0 d.1);
    })

pub header_rest : (bytes : List ℕ) (x : Header × List ℕ) → header_at bytes ≡ Ok x → x.1 ≡ drop 32 bytes
header_rest bytes x is = (header_parts bytes x is).behind

-- the header is this partition's
pub header_here : (partition : ℕ) (bytes : List ℕ) (x : Header × List ℕ) → header_at bytes ≡ Ok x → x.0.partition ≡ partition → header_for partition bytes ≡ Ok x
header_here partition bytes x is here =
    let has = header_parts bytes x is in
    ap (λ (r : Result (List ℕ) ℕ). r >>= λ rest. number_at w32 9 rest >>= λ found. cond (found.0 == partition) (header_at bytes) (Err 9)) has.signed
    ∙ ap (λ (r : Result (ℕ × List ℕ) ℕ). r >>= λ found. cond (found.0 == partition) (header_at bytes) (Err 9)) has.partition
    ∙ ap (λ (test : Bool). cond test (header_at bytes) (Err 9)) (eq-eqb x.0.partition partition here)
    ∙ is

pub header_only : (partition : ℕ) (bytes : List ℕ) (x : Header × List ℕ) → header_for partition bytes ≡ Ok x → (header_at bytes ≡ Ok x) × (x.0.partition ≡ partition)
header_only partition bytes x is =
    let s = both_ok (constant_at signature 1 bytes) (λ rest. number_at w32 9 rest >>= λ found. cond (found.0 == partition) (header_at bytes) (Err 9)) x is in
    let a = both_ok (number_at w32 9 s.0) (λ found. cond (found.0 == partition) (header_at bytes) (Err 9)) x s.2 in
    let end = ok_then (a.0.0 == partition) 9 (header_at bytes) x a.2 in
    let has = header_parts bytes x end.1 in
    let same_rest : has.behind_signature ≡ s.0 = same_ok has.behind_signature s.0 (sym has.signed ∙ s.1) in
    let same : (x.0.partition, has.behind_partition) ≡ a.0 = same_ok (x.0.partition, has.behind_partition) a.0 (sym has.partition ∙ ap (number_at w32 9) same_rest ∙ a.1) in
    (end.1, ap (λ (p : ℕ × List ℕ). p.0) same ∙ eqb-true a.0.0 partition end.0)

-- ---- the whole

-- whether a log begins: its first gate is open, and a byte follows
abbrev pub begins : List ℕ → Bool
begins [] = false
begins (gate ∷ []) = false
begins (gate ∷ byte ∷ bytes) = gate == open_gate

pub reading_is : (content : List ℕ) → reading_of content ≡ cond (begins content) (told (segment_at (drop 1 content))) fresh
reading_is [] = refl
reading_is (gate ∷ []) = refl
reading_is (gate ∷ byte ∷ bytes) = refl

pub opening_is : (partition : ℕ) (content : List ℕ) → opening_of partition content ≡ cond (begins content) (opening_from (header_for partition (drop 1 content))) logs.fresh
opening_is partition [] = refl
opening_is partition (gate ∷ []) = refl
opening_is partition (gate ∷ byte ∷ bytes) = refl
