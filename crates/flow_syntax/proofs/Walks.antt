-- How far a walk comes over several lists of statements.
use Rattle.std.proofs.Common.{◌≡◌, ◌+◌, ◌<◌, ◌≤◌, ◌&&◌, length, get_or, drop, ◌∙◌, ℕ, suc, List, [], ◌∷◌, ◌++◌, min, Bool, true, false, if◌then◌else◌, Option, Some, None, option_map, Ok, Err, map, refl, ap, sym, arith}
use Rattle.std.proofs.lemmas.List.{drop_more}
use Rattle.std.specs.List.{list_all}
use Rattle.std.specs.Map.{values_of}
use Rattle.std.specs.BTreeMap.{BTreeMap, values}
use Rattle.std.specs.Result.{result_err}
use Rattle.std.specs.declared.vec.Vec.{Vec}
use Rattle.std.specs.declared.alloc.Global.{Global}
use Rattle.flow_syntax.specs.declared.syntax.Stmt.{Stmt}
use Rattle.flow_syntax.specs.declared.flows.Class.{Class}
use Rattle.flow_syntax.specs.Check.{Placed, first_not, one_further, statements, within, in_blocks, in_classes, all_statements, has_shape, has_names, verdict_on, bad_shape, unknown_name, well_formed, check}
use Rattle.flow_syntax.specs.Views.{Bodies, statement_of, block_of, body_in, bodies_of, class_of, named_by}
use Rattle.flow_syntax.specs.Syntax.{Flows}
use Rattle.flow_syntax.specs.declared.check.Rule.TheVariants.{Shape, Names}
use Rattle.flow_syntax.specs.Walk.{greatest, next_of, walked, keeps, in_bodies, in_operations, in_64_bits}

pub list_all_of_map : {X Y : Type 0} (p : Y → Bool) (f : X → Y) (xs : List X) → list_all p (map f xs) ≡ list_all (λ x. p (f x)) xs
list_all_of_map p f [] = refl
list_all_of_map p f (x ∷ xs) = ap (λ b. p (f x) && b) (list_all_of_map p f xs)

-- the walk goes on behind the first list
pub behind : {X : Type 0} (good : X → Bool) (n m : ℕ) (xs ys : List X) → Ok m ≡ walked good n xs → walked good n (xs ++ ys) ≡ walked good m ys
behind good n m [] ys is = let same : n ≡ m = cc in ap (λ k. walked good k ys) same
behind good n m (x ∷ xs) ys is =
    (elim (good x) as (λ b. Ok m ≡ (if b then walked good (next_of n) xs else Err n) → (if b then walked good (next_of n) (xs ++ ys) else Err n) ≡ walked good m ys) [
      | true ↦ λ h. behind good (next_of n) m xs ys h
      | false ↦ λ h. absurd (cc h)
    ]) is

-- or it ends there
pub broken : {X : Type 0} (good : X → Bool) (n m : ℕ) (xs ys : List X) → Err m ≡ walked good n xs → walked good n (xs ++ ys) ≡ Err m
broken good n m [] ys is = absurd (cc is)
broken good n m (x ∷ xs) ys is =
    (elim (good x) as (λ b. Err m ≡ (if b then walked good (next_of n) xs else Err n) → (if b then walked good (next_of n) (xs ++ ys) else Err n) ≡ Err m) [
      | true ↦ λ h. broken good (next_of n) m xs ys h
      | false ↦ λ h. sym h
    ]) is

-- ---- one turn of a loop over a block

abbrev placed : Bool → Stmt → Placed
placed inside statement = record { statement = statement_of statement; in_operation = inside }

turn : (inside : Bool) (block : List Stmt) (i : ℕ) (s : Stmt) → i < length block → s ≡ get_or block i s
    → statements inside (block_of (drop i block)) ≡ placed inside s ∷ (within inside (statement_of s) ++ statements inside (block_of (drop (i + 1) block)))
turn inside block i s here is = ap (λ (l : List Stmt). statements inside (block_of l)) (drop_more block i s here ∙ ap (λ (h : Stmt). h ∷ drop (i + 1) block) (sym is))

pub turn_behind : (good : Placed → Bool) (n m : ℕ) (inside : Bool) (block : List Stmt) (i : ℕ) (s : Stmt) → i < length block → s ≡ get_or block i s
    → true ≡ good (placed inside s) → Ok m ≡ walked good (next_of n) (within inside (statement_of s))
    → walked good n (statements inside (block_of (drop i block))) ≡ walked good m (statements inside (block_of (drop (i + 1) block)))
turn_behind good n m inside block i s here is kept walk =
    rw (turn inside block i s here is, ← kept) (behind good (next_of n) m (within inside (statement_of s)) (statements inside (block_of (drop (i + 1) block))) walk)

pub turn_broken : (good : Placed → Bool) (n m : ℕ) (inside : Bool) (block : List Stmt) (i : ℕ) (s : Stmt) → i < length block → s ≡ get_or block i s
    → true ≡ good (placed inside s) → Err m ≡ walked good (next_of n) (within inside (statement_of s))
    → walked good n (statements inside (block_of (drop i block))) ≡ Err m
turn_broken good n m inside block i s here is kept walk =
    rw (turn inside block i s here is, ← kept) (broken good (next_of n) m (within inside (statement_of s)) (statements inside (block_of (drop (i + 1) block))) walk)

-- ---- maps by their values

pub in_bodies_of_values : (inside : Bool) (bodies : Bodies) → in_bodies inside (values bodies) ≡ in_blocks inside (bodies_of bodies)
in_bodies_of_values inside bodies = along bodies.entries where
  along : (es : List (List ℕ × Vec Stmt Global)) → in_bodies inside (values_of es) ≡ in_blocks inside (named_by body_in es)
  along [] = refl
  along (e ∷ es) = ap (λ (l : List Placed). statements inside (body_in e.1) ++ l) (along es)

pub in_operations_of_values : (classes : BTreeMap (List ℕ) Class) → in_operations (values classes) ≡ in_classes (named_by class_of classes.entries)
in_operations_of_values classes = along classes.entries where
  along : (es : List (List ℕ × Class)) → in_operations (values_of es) ≡ in_classes (named_by class_of es)
  along [] = refl
  along (e ∷ es) = ap (λ (l : List Placed). in_blocks true (bodies_of e.1.operations) ++ l) (along es)

-- ---- the verdict

further : (n : ℕ) (o : Option ℕ) → option_map (λ k. min (next_of n + k) greatest) o ≡ option_map (λ k. min (n + k) greatest) (one_further o)
further n None = refl
further n (Some k) = let same : min (next_of n + k) greatest ≡ min (n + suc k) greatest = omega arith in ap Some same

-- where a walk breaks off is the first one that breaks the rule
pub broken_is_first : {X : Type 0} (good : X → Bool) (n : ℕ) (xs : List X) → n ≤ greatest → result_err (walked good n xs) ≡ option_map (λ k. min (n + k) greatest) (first_not good xs)
broken_is_first good n [] fits = refl
broken_is_first good n (x ∷ xs) fits =
    elim (good x) as (λ b. result_err (if b then walked good (next_of n) xs else Err n) ≡ option_map (λ k. min (n + k) greatest) (if b then one_further (first_not good xs) else Some 0)) [
      | true ↦ broken_is_first good (next_of n) xs (omega arith) ∙ further n (first_not good xs)
      | false ↦ let same : n ≡ min (n + 0) greatest = omega arith in ap Some same
    ]

bad_at : (shapes names : Option ℕ) (place : ℕ) → Some place ≡ option_map (λ k. min (0 + k) greatest) shapes → bad_shape place ≡ in_64_bits (verdict_on shapes names)
bad_at None names place is = absurd (cc is)
bad_at (Some k) names place is = let same : place ≡ min (0 + k) greatest = cc is in let here : place ≡ min k greatest = omega (arith, same) in ap bad_shape here

unknown_at : (shapes names : Option ℕ) (place : ℕ) → None ≡ option_map (λ k. min (0 + k) greatest) shapes → Some place ≡ option_map (λ k. min (0 + k) greatest) names → unknown_name place ≡ in_64_bits (verdict_on shapes names)
unknown_at (Some k) names place none is = absurd (cc none)
unknown_at None None place none is = absurd (cc is)
unknown_at None (Some k) place none is = let same : place ≡ min (0 + k) greatest = cc is in let here : place ≡ min k greatest = omega (arith, same) in ap unknown_name here

good_at : (shapes names : Option ℕ) → None ≡ option_map (λ k. min (0 + k) greatest) shapes → None ≡ option_map (λ k. min (0 + k) greatest) names → well_formed ≡ in_64_bits (verdict_on shapes names)
good_at (Some k) names none is = absurd (cc none)
good_at None (Some k) none is = absurd (cc is)
good_at None None none is = refl

pub shape_breaks : (file : Flows) (place : ℕ) → Err place ≡ walked (keeps file Shape) 0 (all_statements file) → bad_shape place ≡ in_64_bits (check file)
shape_breaks file place is = bad_at (first_not has_shape (all_statements file)) (first_not (has_names file) (all_statements file)) place (ap result_err is ∙ broken_is_first has_shape 0 (all_statements file) (omega arith))

pub name_breaks : (file : Flows) (behind place : ℕ) → Ok behind ≡ walked (keeps file Shape) 0 (all_statements file) → Err place ≡ walked (keeps file Names) 0 (all_statements file) → unknown_name place ≡ in_64_bits (check file)
name_breaks file behind place shapes is =
    unknown_at (first_not has_shape (all_statements file)) (first_not (has_names file) (all_statements file)) place
    (ap result_err shapes ∙ broken_is_first has_shape 0 (all_statements file) (omega arith))
    (ap result_err is ∙ broken_is_first (has_names file) 0 (all_statements file) (omega arith))

pub nothing_breaks : (file : Flows) (behind end : ℕ) → Ok behind ≡ walked (keeps file Shape) 0 (all_statements file) → Ok end ≡ walked (keeps file Names) 0 (all_statements file) → well_formed ≡ in_64_bits (check file)
nothing_breaks file behind end shapes names =
    good_at (first_not has_shape (all_statements file)) (first_not (has_names file) (all_statements file))
    (ap result_err shapes ∙ broken_is_first has_shape 0 (all_statements file) (omega arith))
    (ap result_err names ∙ broken_is_first (has_names file) 0 (all_statements file) (omega arith))
