-- Which arrays have just so many parts.
use Rattle.std.proofs.Common.{◌≡◌, List, [], ◌∷◌, length, get_or, Some, None, refl, arith}
use Rattle.json_tree.specs.View.{view, items_view}
use Rattle.json_tree.specs.declared.tree.Tree.{Tree}
use Rattle.flow_reader.specs.Statements.{one_part, two_parts, three_parts, four_parts, five_parts}

pub one_there : (vs : List Tree) (a : Tree) → length vs ≡ 1 → a ≡ get_or vs 0 a → Some (view a) ≡ one_part (items_view vs)
one_there [] a count at0 = absurd (omega (arith, count))
one_there (x0 ∷ []) a count at0 = rw at0 refl
one_there (x0 ∷ x1 ∷ vs) a count at0 = absurd (omega (arith, count))

pub one_not_there : (vs : List Tree) → ¬ length vs ≡ 1 → None ≡ one_part (items_view vs)
one_not_there [] other = refl
one_not_there (x0 ∷ []) other = absurd (other refl)
one_not_there (x0 ∷ x1 ∷ vs) other = refl

pub two_there : (vs : List Tree) (a b : Tree) → length vs ≡ 2 → a ≡ get_or vs 0 a → b ≡ get_or vs 1 b → Some (view a, view b) ≡ two_parts (items_view vs)
two_there [] a b count at0 at1 = absurd (omega (arith, count))
two_there (x0 ∷ []) a b count at0 at1 = absurd (omega (arith, count))
two_there (x0 ∷ x1 ∷ []) a b count at0 at1 = rw (at0, at1) refl
two_there (x0 ∷ x1 ∷ x2 ∷ vs) a b count at0 at1 = absurd (omega (arith, count))

pub two_not_there : (vs : List Tree) → ¬ length vs ≡ 2 → None ≡ two_parts (items_view vs)
two_not_there [] other = refl
two_not_there (x0 ∷ []) other = refl
two_not_there (x0 ∷ x1 ∷ []) other = absurd (other refl)
two_not_there (x0 ∷ x1 ∷ x2 ∷ vs) other = refl

pub three_there : (vs : List Tree) (a b c : Tree) → length vs ≡ 3 → a ≡ get_or vs 0 a → b ≡ get_or vs 1 b → c ≡ get_or vs 2 c → Some (view a, view b, view c) ≡ three_parts (items_view vs)
three_there [] a b c count at0 at1 at2 = absurd (omega (arith, count))
three_there (x0 ∷ []) a b c count at0 at1 at2 = absurd (omega (arith, count))
three_there (x0 ∷ x1 ∷ []) a b c count at0 at1 at2 = absurd (omega (arith, count))
three_there (x0 ∷ x1 ∷ x2 ∷ []) a b c count at0 at1 at2 = rw (at0, at1, at2) refl
three_there (x0 ∷ x1 ∷ x2 ∷ x3 ∷ vs) a b c count at0 at1 at2 = absurd (omega (arith, count))

pub three_not_there : (vs : List Tree) → ¬ length vs ≡ 3 → None ≡ three_parts (items_view vs)
three_not_there [] other = refl
three_not_there (x0 ∷ []) other = refl
three_not_there (x0 ∷ x1 ∷ []) other = refl
three_not_there (x0 ∷ x1 ∷ x2 ∷ []) other = absurd (other refl)
three_not_there (x0 ∷ x1 ∷ x2 ∷ x3 ∷ vs) other = refl

pub four_there : (vs : List Tree) (a b c d : Tree) → length vs ≡ 4 → a ≡ get_or vs 0 a → b ≡ get_or vs 1 b → c ≡ get_or vs 2 c → d ≡ get_or vs 3 d → Some (view a, view b, view c, view d) ≡ four_parts (items_view vs)
four_there [] a b c d count at0 at1 at2 at3 = absurd (omega (arith, count))
four_there (x0 ∷ []) a b c d count at0 at1 at2 at3 = absurd (omega (arith, count))
four_there (x0 ∷ x1 ∷ []) a b c d count at0 at1 at2 at3 = absurd (omega (arith, count))
four_there (x0 ∷ x1 ∷ x2 ∷ []) a b c d count at0 at1 at2 at3 = absurd (omega (arith, count))
four_there (x0 ∷ x1 ∷ x2 ∷ x3 ∷ []) a b c d count at0 at1 at2 at3 = rw (at0, at1, at2, at3) refl
four_there (x0 ∷ x1 ∷ x2 ∷ x3 ∷ x4 ∷ vs) a b c d count at0 at1 at2 at3 = absurd (omega (arith, count))

pub four_not_there : (vs : List Tree) → ¬ length vs ≡ 4 → None ≡ four_parts (items_view vs)
four_not_there [] other = refl
four_not_there (x0 ∷ []) other = refl
four_not_there (x0 ∷ x1 ∷ []) other = refl
four_not_there (x0 ∷ x1 ∷ x2 ∷ []) other = refl
four_not_there (x0 ∷ x1 ∷ x2 ∷ x3 ∷ []) other = absurd (other refl)
four_not_there (x0 ∷ x1 ∷ x2 ∷ x3 ∷ x4 ∷ vs) other = refl

pub five_there : (vs : List Tree) (a b c d e : Tree) → length vs ≡ 5 → a ≡ get_or vs 0 a → b ≡ get_or vs 1 b → c ≡ get_or vs 2 c → d ≡ get_or vs 3 d → e ≡ get_or vs 4 e → Some (view a, view b, view c, view d, view e) ≡ five_parts (items_view vs)
five_there [] a b c d e count at0 at1 at2 at3 at4 = absurd (omega (arith, count))
five_there (x0 ∷ []) a b c d e count at0 at1 at2 at3 at4 = absurd (omega (arith, count))
five_there (x0 ∷ x1 ∷ []) a b c d e count at0 at1 at2 at3 at4 = absurd (omega (arith, count))
five_there (x0 ∷ x1 ∷ x2 ∷ []) a b c d e count at0 at1 at2 at3 at4 = absurd (omega (arith, count))
five_there (x0 ∷ x1 ∷ x2 ∷ x3 ∷ []) a b c d e count at0 at1 at2 at3 at4 = absurd (omega (arith, count))
five_there (x0 ∷ x1 ∷ x2 ∷ x3 ∷ x4 ∷ []) a b c d e count at0 at1 at2 at3 at4 = rw (at0, at1, at2, at3, at4) refl
five_there (x0 ∷ x1 ∷ x2 ∷ x3 ∷ x4 ∷ x5 ∷ vs) a b c d e count at0 at1 at2 at3 at4 = absurd (omega (arith, count))

pub five_not_there : (vs : List Tree) → ¬ length vs ≡ 5 → None ≡ five_parts (items_view vs)
five_not_there [] other = refl
five_not_there (x0 ∷ []) other = refl
five_not_there (x0 ∷ x1 ∷ []) other = refl
five_not_there (x0 ∷ x1 ∷ x2 ∷ []) other = refl
five_not_there (x0 ∷ x1 ∷ x2 ∷ x3 ∷ []) other = refl
five_not_there (x0 ∷ x1 ∷ x2 ∷ x3 ∷ x4 ∷ []) other = absurd (other refl)
five_not_there (x0 ∷ x1 ∷ x2 ∷ x3 ∷ x4 ∷ x5 ∷ vs) other = refl
