-- A list round one of its items.
use Rattle.std.proofs.Common.{◌≡◌, ◌∙◌, ◌<◌, ◌-◌, ℕ, suc, List, [], ◌∷◌, ◌++◌, length, Some, refl, ap, arith}
use Rattle.std.specs.List.{slice_get, remove}
use Rattle.std.proofs.lemmas.List.Edits.{remove-append_right}

module _ {X : Type 0} where
  get_next : (l : List X) (x : X) (r : List X) → slice_get (l ++ x ∷ r) (length l) ≡ Some x
  get_next [] x r = refl
  get_next (y ∷ l) x r = get_next l x r

  pub get_middle : (l : List X) (x : X) (r : List X) (i : ℕ) → i ≡ length l → slice_get (l ++ x ∷ r) i ≡ Some x
  get_middle l x r i is = ap (slice_get (l ++ x ∷ r)) is ∙ get_next l x r

  pub remove_middle : (l : List X) (x : X) (r : List X) (i : ℕ) → i ≡ length l → remove (l ++ x ∷ r) i ≡ l ++ r
  remove_middle l x r i is =
      let none : i - length l ≡ 0 = omega (arith, is) in
      remove-append_right l (x ∷ r) (length l) i refl (omega (arith, is)) ∙ ap (λ (k : ℕ). l ++ remove (x ∷ r) k) none

  pub remove_behind : (l : List X) (x : X) (r : List X) (i : ℕ) → length l < i → remove (l ++ x ∷ r) i ≡ l ++ x ∷ remove r (i - length l - 1)
  remove_behind l x r i past =
      let more : i - length l ≡ suc (i - length l - 1) = omega (arith, past) in
      remove-append_right l (x ∷ r) (length l) i refl (omega (arith, past)) ∙ ap (λ (k : ℕ). l ++ remove (x ∷ r) k) more
