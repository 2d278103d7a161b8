-- One byte more behind the bytes that were put.
use Rattle.std.proofs.Common.{◌≡◌, ◌≢◌, inl, inr, ℕ, ◌+◌, ◌-◌, ◌≤◌, min, List, [], ◌∷◌, ◌++◌, length, take, drop, get_or, sym, ◌∙◌, ap, arith, length-append, length-take, append_assoc}
use Rattle.std.proofs.lemmas.Bool.{cases_lt}
use Rattle.std.proofs.lemmas.List.{take_at, drop_at, drop-drop, get_or_at, get_or-append_right, get_or_append_left, get_or-take, get_or-drop, length_push}
use Rattle.site_model.specs.History.{put}

-- how far the bytes reach
pub reach : (at : ℕ) (bytes old : List ℕ) → length (take at old ++ bytes) ≡ min at (length old) + length bytes
reach at bytes old = omega (arith, length-append (take at old) bytes, length-take at old)

pub reach_le : (at : ℕ) (bytes old : List ℕ) → min at (length old) + length bytes ≤ length (put at bytes old)
reach_le at bytes old = omega (arith, length-append (take at old ++ bytes) (drop (at + length bytes) old), reach at bytes old)

pub put_more : (at byte : ℕ) (bytes old : List ℕ) → put at (bytes ++ byte ∷ []) old ≡ put (min at (length old) + length bytes) (byte ∷ []) (put at bytes old)
put_more at byte bytes old =
    ap (λ (n : ℕ). (take at old ++ (bytes ++ byte ∷ [])) ++ drop n old) longer
    ∙ ap (λ (l : List ℕ). l ++ drop (at + length bytes + 1) old) (sym (append_assoc (take at old) bytes (byte ∷ [])))
    ∙ ap (λ (l : List ℕ). (l ++ byte ∷ []) ++ drop (at + length bytes + 1) old) (sym (take_at front tail c (reach at bytes old)))
    ∙ ap (λ (l : List ℕ). (take c (front ++ tail) ++ byte ∷ []) ++ l) behind
  where
    front : List ℕ
    front = take at old ++ bytes

    tail : List ℕ
    tail = drop (at + length bytes) old

    c : ℕ
    c = min at (length old) + length bytes

    longer : at + length (bytes ++ byte ∷ []) ≡ at + length bytes + 1
    longer = omega (arith, length_push bytes byte)

    behind : drop (at + length bytes + 1) old ≡ drop (c + 1) (front ++ tail)
    behind = sym (drop-drop 1 (at + length bytes) old) ∙ ap (λ (l : List ℕ). drop 1 l) (sym (drop_at front tail c (reach at bytes old))) ∙ drop-drop 1 c (front ++ tail)

-- reading one byte put at a place
pub get_or-put_here : (c byte : ℕ) (old : List ℕ) → c ≤ length old → get_or (put c (byte ∷ []) old) c 0 ≡ byte
get_or-put_here c byte old within =
    ap (λ (l : List ℕ). get_or l c 0) (append_assoc (take c old) (byte ∷ []) (drop (c + 1) old))
    ∙ get_or_at (take c old) byte (drop (c + 1) old) 0 c (omega (arith, length-take c old))

pub get_or-put_other : (c byte k : ℕ) (old : List ℕ) → c ≤ length old → k ≢ c → get_or (put c (byte ∷ []) old) k 0 ≡ get_or old k 0
get_or-put_other c byte k old within apart = elim (cases_lt k c) [
  | inl below ↦
      get_or_append_left (take c old ++ byte ∷ []) (drop (c + 1) old) 0 k (omega (arith, long))
      ∙ get_or_append_left (take c old) (byte ∷ []) 0 k (omega (arith, length-take c old))
      ∙ get_or-take c old k 0 below
  | inr above ↦
      get_or-append_right (take c old ++ byte ∷ []) (drop (c + 1) old) (c + 1) k 0 long (omega arith)
      ∙ get_or-drop (c + 1) old (k - (c + 1)) 0
      ∙ ap (λ (n : ℕ). get_or old n 0) (back above)
]
  where
    long : length (take c old ++ byte ∷ []) ≡ c + 1
    long = omega (arith, length_push (take c old) byte, length-take c old)

    back : c ≤ k → c + 1 + (k - (c + 1)) ≡ k
    back above = omega arith
