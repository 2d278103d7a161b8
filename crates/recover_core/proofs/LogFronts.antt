-- Entries that a log begins with, where it is seen twice.
use Rattle.std.proofs.Common.{◌≡◌, ◌∙◌, ◌<◌, ◌+◌, ℕ, List, [], ◌∷◌, ◌++◌, length, Option, Some, None, Result, Ok, Err, refl, sym, ap, subst, append_assoc, arith, length-append}
use Rattle.dura_value.specs.Items.{Entry}
use Rattle.dura_value.specs.Reading.{◌>>=◌}
use Rattle.flow_syntax.specs.Syntax.{Flows}
use Rattle.dura_model.specs.Partition.{Partition}
use Rattle.dura_model.specs.Entries.{entry_accepted, or_place, placed}
use Rattle.dura_model.proofs.Appending.{both_placed, placed_both}
use Rattle.log_files.specs.Entries.{with_front}

-- ---- fronts of one list

same_first : (x y : Entry) (a b : List Entry) → x ∷ a ≡ y ∷ b → x ≡ y
same_first x y a b is = cc is

same_rest : (x y : Entry) (a b : List Entry) → x ∷ a ≡ y ∷ b → a ≡ b
same_rest x y a b is = cc is

same_front : (a b c d : List Entry) → a ++ c ≡ b ++ d → length a ≡ length b → a ≡ b
same_front [] [] c d is long = refl
same_front [] (y ∷ b) c d is long = absurd (omega (arith, long))
same_front (x ∷ a) [] c d is long = absurd (omega (arith, long))
same_front (x ∷ a) (y ∷ b) c d is long =
    ap (λ (e : Entry). e ∷ a) (same_first x y (a ++ c) (b ++ d) is) ∙ ap (λ (l : List Entry). y ∷ l) (same_front a b c d (same_rest x y (a ++ c) (b ++ d) is) (omega (arith, long)))

-- what the longer one has behind the shorter one
record GoesOn (a b c : List Entry) : Type 0 where
  next : Entry
  more : List Entry
  longer : b ≡ a ++ next ∷ more
  rest : List Entry
  behind : c ≡ next ∷ rest

longer_front : (a b c d : List Entry) → a ++ c ≡ b ++ d → length a < length b → GoesOn a b c
longer_front [] [] c d is long = absurd (omega (arith, long))
longer_front [] (y ∷ b) c d is long = record { next = y; more = b; longer = refl; rest = b ++ d; behind = is }
longer_front (x ∷ a) [] c d is long = absurd (omega (arith, long))
longer_front (x ∷ a) (y ∷ b) c d is long =
    let on = longer_front a b c d (same_rest x y (a ++ c) (b ++ d) is) (omega (arith, long)) in
    record {
      next = on.next;
      more = on.more;
      longer = ap (λ (e : Entry). e ∷ b) (sym (same_first x y (a ++ c) (b ++ d) is)) ∙ ap (λ (l : List Entry). x ∷ l) on.longer;
      rest = on.rest;
      behind = on.behind;
    }

-- ---- fronts of a log

same_read : (a b : List Entry) (m n : ℕ) → ◌≡◌ {A = Result (List Entry × ℕ) ℕ} (Ok (a, m)) (Ok (b, n)) → a ≡ b
same_read a b m n is = let both : ◌≡◌ {A = List Entry × ℕ} (a, m) (b, n) = cc is in ap (λ (p : List Entry × ℕ). p.0) both

-- what is left behind one front where another one has something left
both_left : (es done : List Entry) (rest : Result (List Entry × ℕ) ℕ) (left : List Entry × ℕ) → with_front es rest ≡ with_front done (Ok left) → (more : List Entry) × (es ++ more ≡ done ++ left.0)
both_left es done (Ok more) left is = (more.0, same_read (es ++ more.0) (done ++ left.0) more.1 left.1 is)
both_left es done (Err offset) left is = absurd (cc is)

pub fronts_same : (es done : List Entry) (rest : Result (List Entry × ℕ) ℕ) (left : List Entry × ℕ) → with_front es rest ≡ with_front done (Ok left) → length es ≡ length done → es ≡ done
fronts_same es done rest left is long = let both = both_left es done rest left is in same_front es done both.0 left.0 both.1 long

pub ends_before : (es done : List Entry) (gate : ℕ) (left : List Entry × ℕ) → ◌≡◌ {A = Result (List Entry × ℕ) ℕ} (Ok (es, gate)) (with_front done (Ok left)) → length es < length done → ⊥
ends_before es done gate left is short =
    let same : es ≡ done ++ left.0 = same_read es (done ++ left.0) gate left.1 is in
    let long : length es ≡ length done + length left.0 = ap (λ (l : List Entry). length l) same ∙ length-append done left.0 in
    omega (arith, short, long)

not_both : (o : Option Partition) (p : Partition) → o ≡ None → o ≡ Some p → ⊥
not_both o p none some = let wrong : None ≡ Some p = sym none ∙ some in cc wrong

module _ (flows : Flows) (count : ℕ) (first p made : Partition) (es done : List Entry) (entry : Entry) where
  -- what entries make behind those that made a state
  behind_made : (next : Entry) (more : List Entry) → placed flows count first (es ++ next ∷ more) ≡ Ok made → placed flows count first es ≡ Ok p → placed flows count p (next ∷ more) ≡ Ok made
  behind_made next more whole chain =
      ap (λ (m : Result Partition ℕ). m >>= λ q. placed flows count q (next ∷ more)) (sym chain) ∙ sym (placed_both flows count first es (next ∷ more)) ∙ whole

  -- an entry behind those that were read stands among those that made a state, so it is accepted
  pub stands_among : (rest : Result (List Entry × ℕ) ℕ) (left : List Entry × ℕ) → with_front (es ++ entry ∷ []) rest ≡ with_front done (Ok left) → length es < length done
      → placed flows count first es ≡ Ok p → placed flows count first done ≡ Ok made → entry_accepted flows count p entry ≡ None → ⊥
  stands_among rest left is short chain whole refused =
      let both = both_left (es ++ entry ∷ []) done rest left is in
      let on = longer_front es done (entry ∷ both.0) left.0 (sym (append_assoc es (entry ∷ []) both.0) ∙ both.1) short in
      let same : entry ≡ on.next = same_first entry on.next both.0 on.rest on.behind in
      let all = behind_made on.next on.more (ap (placed flows count first) (sym on.longer) ∙ whole) chain in
      let taken = both_placed on.next.position (entry_accepted flows count p on.next) (λ next. placed flows count next on.more) made all in
      not_both (entry_accepted flows count p on.next) taken.0 (subst (λ (e : Entry). entry_accepted flows count p e ≡ None) same refused) taken.1

-- one more entry was placed
pub one_more_placed : (flows : Flows) (count : ℕ) (first p next : Partition) (es : List Entry) (entry : Entry) → placed flows count first es ≡ Ok p → entry_accepted flows count p entry ≡ Some next
    → placed flows count first (es ++ entry ∷ []) ≡ Ok next
one_more_placed flows count first p next es entry chain is =
    placed_both flows count first es (entry ∷ [])
    ∙ ap (λ (m : Result Partition ℕ). m >>= λ q. placed flows count q (entry ∷ [])) chain
    ∙ ap (λ (o : Option Partition). or_place entry.position o >>= λ q. Ok q) is
