-- The header of a file is told by its first 33 bytes.
use Rattle.std.proofs.Common.{◌≡◌, ℕ, suc, ◌+◌, ◌^◌, Bool, true, false, cond, ltb, eqb, inl, inr, List, [], ◌∷◌, length, take, Result, Ok, Err, refl, ap, sym, ◌∙◌, zero-add, arith}
use Rattle.std.proofs.lemmas.Bool.{cases_lt, lt-ltb, le-ltb}
use Rattle.std.proofs.lemmas.List.{take-take, take_all, drop-take, length-take}
use Rattle.std.specs.Int.{Width, w32, w64, byte_len}
use Rattle.commit_log.specs.declared.header.Header.{Header}
use Rattle.commit_log.specs.Segment.{◌>>=◌, signature, constant_at, number_at, header_at, open_gate}
use Rattle.commit_log.specs.declared.reader.OpenError.{OpenError}
use Rattle.commit_log.specs.declared.reader.OpenError.TheVariants as unopened
use Rattle.commit_log.specs.Frames.{Opening, fresh, header_for, opening_from, opening_of}
use Rattle.commit_log.specs.Fronts.{SaysHeader}

-- what was read, with so many of the bytes behind it
abbrev cut : {A : Type 0} → ℕ → Result (A × List ℕ) ℕ → Result (A × List ℕ) ℕ
cut n (Ok x) = Ok (x.0, take n x.1)
cut n (Err offset) = Err offset

abbrev cut_rest : ℕ → Result (List ℕ) ℕ → Result (List ℕ) ℕ
cut_rest n (Ok rest) = Ok (take n rest)
cut_rest n (Err offset) = Err offset

constant_cut : (wanted : List ℕ) (at n : ℕ) (bytes : List ℕ) → constant_at wanted at (take (length wanted + n) bytes) ≡ cut_rest n (constant_at wanted at bytes)
constant_cut [] at n bytes = ap (λ (k : ℕ). Ok (take k bytes)) (zero-add n)
constant_cut (byte ∷ wanted) at n [] =
    let more : suc (length wanted) + n ≡ suc (length wanted + n) = omega arith in
    ap (λ (k : ℕ). constant_at (byte ∷ wanted) at (take k [])) more
constant_cut (byte ∷ wanted) at n (first ∷ bytes) =
    let more : suc (length wanted) + n ≡ suc (length wanted + n) = omega arith in
    ap (λ (k : ℕ). constant_at (byte ∷ wanted) at (take k (first ∷ bytes))) more ∙ by_test (constant_at wanted (at + 1) bytes) (eqb first byte) (constant_cut wanted (at + 1) n bytes)
  where
    by_test : {x : Result (List ℕ) ℕ} (y : Result (List ℕ) ℕ) (b : Bool) → x ≡ cut_rest n y → cond b x (Err at) ≡ cut_rest n (cond b y (Err at))
    by_test y true same = same
    by_test y false same = refl

number_cut : (w : Width) (at n : ℕ) (bytes : List ℕ) → number_at w at (take (byte_len w + n) bytes) ≡ cut n (number_at w at bytes)
number_cut w at n bytes = elim (cases_lt (length bytes) (byte_len w)) [
  | inl short ↦
      let all : take (byte_len w + n) bytes ≡ bytes = take_all (byte_len w + n) bytes (omega arith) in
      let less : ltb (length bytes) (byte_len w) ≡ true = lt-ltb _ _ short in
      rw (all, less) refl
  | inr long ↦
      let enough : ltb (length bytes) (byte_len w) ≡ false = le-ltb _ _ long in
      let enough_too : ltb (length (take (byte_len w + n) bytes)) (byte_len w) ≡ false = le-ltb _ _ (omega (arith, length-take (byte_len w + n) bytes)) in
      rw (enough, enough_too, take-take (byte_len w) (byte_len w + n) bytes (omega arith), drop-take (byte_len w) n bytes) refl
]

-- a step after another
then_cut : {A B : Type 0} (n : ℕ) (r : Result (A × List ℕ) ℕ) (f g : A × List ℕ → Result (B × List ℕ) ℕ) → ((x : A × List ℕ) → g (x.0, take n x.1) ≡ cut 0 (f x)) → (cut n r >>= g) ≡ cut 0 (r >>= f)
then_cut n (Ok x) f g same = same x
then_cut n (Err offset) f g same = refl

number_then : {B : Type 0} (w : Width) (at n : ℕ) (bytes : List ℕ) (f g : ℕ × List ℕ → Result (B × List ℕ) ℕ) → ((x : ℕ × List ℕ) → g (x.0, take n x.1) ≡ cut 0 (f x))
    → (number_at w at (take (byte_len w + n) bytes) >>= g) ≡ cut 0 (number_at w at bytes >>= f)
number_then w at n bytes f g same = ap (λ (r : Result (ℕ × List ℕ) ℕ). r >>= g) (number_cut w at n bytes) ∙ then_cut n (number_at w at bytes) f g same

signature_then : {B : Type 0} (n : ℕ) (bytes : List ℕ) (f g : List ℕ → Result (B × List ℕ) ℕ) → ((rest : List ℕ) → g (take n rest) ≡ cut 0 (f rest))
    → (constant_at signature 1 (take (8 + n) bytes) >>= g) ≡ cut 0 (constant_at signature 1 bytes >>= f)
signature_then n bytes f g same = ap (λ (r : Result (List ℕ) ℕ). r >>= g) (constant_cut signature 1 n bytes) ∙ by_result (constant_at signature 1 bytes)
  where
    by_result : (r : Result (List ℕ) ℕ) → (cut_rest n r >>= g) ≡ cut 0 (r >>= f)
    by_result (Ok rest) = same rest
    by_result (Err offset) = refl

test_cut : {A : Type 0} (b : Bool) (x : A) (rest : List ℕ) → cond b (Ok (x, [])) (Err 25) ≡ cut 0 (cond b (Ok (x, rest)) (Err 25))
test_cut true x rest = refl
test_cut false x rest = refl

header_cut : (bytes : List ℕ) → header_at (take 32 bytes) ≡ cut 0 (header_at bytes)
unfolding header_at
header_cut bytes =
    signature_then 24 bytes _ _ (λ rest.
    number_then w32 9 20 rest _ _ (λ p.
    number_then w32 13 16 p.1 _ _ (λ q.
    number_then w64 17 8 q.1 _ _ (λ d.
    number_then w64 25 0 d.1 _ _ (λ b. test_cut (ltb b.0 (2 ^ 63)) _ b.1)))))

header_for_cut : (partition : ℕ) (bytes : List ℕ) → header_for partition (take 32 bytes) ≡ cut 0 (header_for partition bytes)
header_for_cut partition bytes =
    signature_then 24 bytes _ _ (λ rest.
    number_then w32 9 20 rest _ _ (λ found. by_test (eqb found.0 partition)))
  where
    by_test : (b : Bool) → cond b (header_at (take 32 bytes)) (Err 9) ≡ cut 0 (cond b (header_at bytes) (Err 9))
    by_test true = header_cut bytes
    by_test false = refl

opening_cut : (found : Result (Header × List ℕ) ℕ) → opening_from (cut 0 found) ≡ opening_from found
opening_cut (Ok x) = refl
opening_cut (Err offset) = refl

opening_front : (partition : ℕ) (content : List ℕ) → opening_of partition (take 33 content) ≡ opening_of partition content
opening_front partition [] = refl
opening_front partition (gate ∷ []) = refl
opening_front partition (gate ∷ byte ∷ bytes) =
    ap (λ (o : Opening). cond (eqb gate open_gate) o fresh) (ap opening_from (header_for_cut partition (byte ∷ bytes)) ∙ opening_cut (header_for partition (byte ∷ bytes)))

-- the front says it of the whole file
pub header_front : (partition : ℕ) (content front : List ℕ) (result : Result Header OpenError) → front ≡ take 33 content → SaysHeader partition front result → SaysHeader partition content result
header_front partition content front (Ok header) is says =
    let whole : opening_of partition content ≡ opening_of partition front = sym (ap (opening_of partition) is ∙ opening_front partition content) in (
      whole ∙ says.0,
      record {
        fits = says.1.fits;
        front = sym (ap (take 33) is ∙ take-take 33 33 content (omega arith)) ∙ says.1.front;
        inside = omega (arith, says.1.inside, ap length is, length-take 33 content);
      },
    )
header_front partition content front (Err unopened.Fresh) is says = sym (ap (opening_of partition) is ∙ opening_front partition content) ∙ says
header_front partition content front (Err (unopened.Damaged offset)) is says = sym (ap (opening_of partition) is ∙ opening_front partition content) ∙ says
header_front partition content front (Err unopened.SiteFault) is says = tt
