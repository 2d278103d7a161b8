-- What goes to one partition after another.
use Rattle.std.proofs.Common.{◌≡◌, ◌∙◌, ℕ, ◌+◌, List, [], ◌∷◌, ◌++◌, ap, sym, arith, append-nil}
use Rattle.std.specs.List.{flat_map, range_with_len}
use Rattle.std.proofs.lemmas.List.{map-id}
use Rattle.std.proofs.lemmas.List.Concat.{flat_map-cons}
use Rattle.std.proofs.lemmas.List.FromFn.{map-range_with_len_more}
use Rattle.std.proofs.lemmas.Grind.{flat_map-append}

range_more : (count : ℕ) → range_with_len 0 (count + 1) ≡ range_with_len 0 count ++ count ∷ []
range_more count =
    sym (map-id (range_with_len 0 (count + 1))) ∙ map-range_with_len_more (λ (n : ℕ). n) 0 count count (omega arith)
    ∙ ap (λ (l : List ℕ). l ++ count ∷ []) (map-id (range_with_len 0 count))

-- what goes to one more
pub one_more : {X : Type 0} (f : ℕ → List X) (count : ℕ) → flat_map f (range_with_len 0 (count + 1)) ≡ flat_map f (range_with_len 0 count) ++ f count
one_more {X} f count =
    ap (flat_map f) (range_more count) ∙ flat_map-append f (range_with_len 0 count) (count ∷ [])
    ∙ ap (λ (l : List X). flat_map f (range_with_len 0 count) ++ l) (flat_map-cons f count [] ∙ append-nil (f count))

-- what came so far, and what goes to the next
pub next_joins : {X : Type 0} (f : ℕ → List X) (count from : ℕ) (g : ℕ → List X) (old new : List X) → f count ≡ g from → new ≡ old ++ g from → old ≡ flat_map f (range_with_len 0 count)
    → new ≡ flat_map f (range_with_len 0 (count + 1))
next_joins {X} f count from g old new same joins so_far =
    joins ∙ ap (λ (l : List X). l ++ g from) so_far ∙ ap (λ (l : List X). flat_map f (range_with_len 0 count) ++ l) (sym same) ∙ sym (one_more f count)
