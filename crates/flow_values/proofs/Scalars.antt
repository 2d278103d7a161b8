-- Reading the parts of a list one after another, and how many bytes they take.
use Rattle.std.proofs.Common.{◌≡◌, ℕ, ◌+◌, ◌<◌, ◌≤◌, List, [], ◌∷◌, ◌++◌, length, drop, get_or, Result, Ok, Err, refl, sym, ◌∙◌, ap, arith, append_assoc}
use Rattle.std.proofs.lemmas.List.{append-nil, drop_all}
use Rattle.serde_json.specs.Data.{Items}
use Rattle.json_tree.specs.View.{view, items_view}
use Rattle.json_tree.specs.declared.tree.Tree.{Tree}
use Rattle.dura_value.specs.declared.data.Scalar.{Scalar}
use Rattle.flow_values.specs.Answers.{PartFails, IsUnder}
use Rattle.flow_values.specs.Faults.{Path, to_part, ◌>>=◌}
use Rattle.flow_values.specs.Values.{count, scalar_in, scalars_from}
use Rattle.flow_values.specs.declared.faults.PartError.{PartError}
use Rattle.flow_values.specs.declared.faults.PartError.TheVariants.{Misshapen, Memory}
use Rattle.flow_values.proofs.Parts.{items_from}

pub count_of_items : (vs : List Tree) → count (items_view vs) ≡ length vs
count_of_items [] = refl
count_of_items (x ∷ vs) = omega (arith, count_of_items vs)

-- the parts that are still to be read, from this place on, behind those that were
abbrev pub with_rest : List Scalar → ℕ → Items → Result (List Scalar) Path
with_rest done i ds = scalars_from i ds >>= λ ss. Ok (done ++ ss)

with_first : (done : List Scalar) (s : Scalar) (rest : Result (List Scalar) Path) → (rest >>= (λ ss. Ok (s ∷ ss)) >>= λ ss. Ok (done ++ ss)) ≡ (rest >>= λ ss. Ok ((done ++ s ∷ []) ++ ss))
with_first done s (Err path) = refl
with_first done s (Ok ss) = rw append_assoc refl

-- nothing was read yet
pub begins : (vs : List Tree) → with_rest [] 0 (items_view (drop 0 vs)) ≡ scalars_from 0 (items_view vs)
begins vs = same (scalars_from 0 (items_view vs)) where
  same : (read : Result (List Scalar) Path) → (read >>= λ ss. Ok ([] ++ ss)) ≡ read
  same (Ok ss) = refl
  same (Err path) = refl

-- all parts were read
pub all : (vs : List Tree) (done : List Scalar) (i : ℕ) → length vs ≤ i → with_rest done i (items_view (drop i vs)) ≡ scalars_from 0 (items_view vs) → scalars_from 0 (items_view vs) ≡ Ok done
all vs done i past is = sym is ∙ rw (drop_all i vs past) (ap Ok (append-nil done))

-- a part was read
pub goes_on : (whole : Result (List Scalar) Path) (done : List Scalar) (vs : List Tree) (i : ℕ) (v : Tree) (s : Scalar) → i < length vs → v ≡ get_or vs i v → with_rest done i (items_view (drop i vs)) ≡ whole → scalar_in (view v) ≡ Ok s → with_rest (done ++ s ∷ []) (i + 1) (items_view (drop (i + 1) vs)) ≡ whole
goes_on whole done vs i v s lt here before is = sym (with_first done s (scalars_from (i + 1) (items_view (drop (i + 1) vs)))) ∙ sym (rw (items_from vs i v lt here, is) refl) ∙ before

-- a part is no scalar
pub ends : (whole : Result (List Scalar) Path) (done : List Scalar) (vs : List Tree) (i : ℕ) (v : Tree) (error further : PartError) → i < length vs → v ≡ get_or vs i v → with_rest done i (items_view (drop i vs)) ≡ whole → PartFails error (scalar_in (view v)) → IsUnder (to_part i) error further → PartFails further whole
ends whole done vs i v (Misshapen path) (Misshapen outer) lt here before is under = sym before ∙ rw (items_from vs i v lt here, is, under) refl
ends whole done vs i v Memory (Misshapen outer) lt here before is under = absurd under
ends whole done vs i v (Misshapen path) Memory lt here before is under = tt
ends whole done vs i v Memory Memory lt here before is under = tt
