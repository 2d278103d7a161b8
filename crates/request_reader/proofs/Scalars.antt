-- Reading the parts of a list one after another, and how many bytes they take.
use Rattle.std.proofs.Common.{◌≡◌, ℕ, ◌+◌, ◌<◌, ◌≤◌, List, [], ◌∷◌, ◌++◌, length, drop, get_or, Option, Some, None, Err, refl, sym, ◌∙◌, ap, append_assoc, add-one}
use Rattle.std.proofs.Math.Seq.{drop-cons}
use Rattle.std.proofs.lemmas.List.{append-nil, drop_all}
use Rattle.std.specs.Prelude.{option_map}
use Rattle.serde_json.specs.Data.{Items, item}
use Rattle.serde_json.specs.View.{view, items_view}
use Rattle.serde_json.specs.declared.value.Value.{Value as Json}
use Rattle.dura_value.specs.declared.data.Scalar.{Scalar}
use Rattle.request_reader.specs.Reading.{LineGives}
use Rattle.dura_value.specs.Optional.{◌>>=◌}
use Rattle.request_reader.specs.declared.error.ReadError.{ReadError}
use Rattle.request_reader.specs.declared.error.ReadError.TheVariants.{Refused, Memory}
use Rattle.request_reader.specs.Values.{scalar_in, scalars_in}

-- the parts that are still to be read, behind those that were
abbrev pub with_rest : List Scalar → Items → Option (List Scalar)
with_rest done ds = scalars_in ds >>= λ ss. Some (done ++ ss)

with_first : (done : List Scalar) (s : Scalar) (rest : Option (List Scalar)) → (rest >>= (λ ss. Some (s ∷ ss)) >>= λ ss. Some (done ++ ss)) ≡ (rest >>= λ ss. Some ((done ++ s ∷ []) ++ ss))
with_first done s None = refl
with_first done s (Some ss) = rw append_assoc refl

items_from : (vs : List Json) (i : ℕ) (v : Json) → i < length vs → v ≡ get_or vs i v → items_view (drop i vs) ≡ item (view v) (items_view (drop (i + 1) vs))
items_from vs i v lt at = rw (add-one, drop-cons vs i v lt, ← at) refl

part_read : (whole : Option (List Scalar)) (done : List Scalar) (vs : List Json) (i : ℕ) (v : Json) (s : Scalar) → i < length vs → v ≡ get_or vs i v → with_rest done (items_view (drop i vs)) ≡ whole → scalar_in (view v) ≡ Some s → with_rest (done ++ s ∷ []) (items_view (drop (i + 1) vs)) ≡ whole
part_read whole done vs i v s lt at before is = sym (with_first done s (scalars_in (items_view (drop (i + 1) vs)))) ∙ sym (rw (items_from vs i v lt at, is) refl) ∙ before

added : (done after : List Scalar) (o : Option Scalar) → option_map (λ s. done ++ s ∷ []) o ≡ Some after → (s : Scalar) × (o ≡ Some s) × (after ≡ done ++ s ∷ [])
added done after (Some s) is = (s, refl, cc)
added done after None is = absurd (cc is)

-- a part was read
pub goes_on : (whole : Option (List Scalar)) (done after : List Scalar) (vs : List Json) (i : ℕ) (v : Json) → i < length vs → v ≡ get_or vs i v → with_rest done (items_view (drop i vs)) ≡ whole → option_map (λ s. done ++ s ∷ []) (scalar_in (view v)) ≡ Some after → with_rest after (items_view (drop (i + 1) vs)) ≡ whole
goes_on whole done after vs i v lt at before is =
    let one = added done after (scalar_in (view v)) is in
    rw one.2 (part_read whole done vs i v one.0 lt at before one.1)

-- nothing was read yet
pub begins : (vs : List Json) → with_rest [] (items_view (drop 0 vs)) ≡ scalars_in (items_view vs)
begins vs = same (scalars_in (items_view vs)) where
  same : (read : Option (List Scalar)) → (read >>= λ ss. Some ([] ++ ss)) ≡ read
  same (Some ss) = refl
  same None = refl

-- all parts were read
pub all : (vs : List Json) (done : List Scalar) (i : ℕ) → length vs ≤ i → with_rest done (items_view (drop i vs)) ≡ scalars_in (items_view vs) → scalars_in (items_view vs) ≡ Some done
all vs done i past is = sym is ∙ rw (drop_all i vs past) (ap Some (append-nil done))

nothing_added : (done : List Scalar) (o : Option Scalar) → option_map (λ s. done ++ s ∷ []) o ≡ None → o ≡ None
nothing_added done (Some s) is = absurd (cc is)
nothing_added done None is = refl

-- a part is no scalar
pub ends : (whole : Option (List Scalar)) (done : List Scalar) (vs : List Json) (i : ℕ) (v : Json) → i < length vs → v ≡ get_or vs i v → with_rest done (items_view (drop i vs)) ≡ whole → option_map (λ s. done ++ s ∷ []) (scalar_in (view v)) ≡ None → whole ≡ None
ends whole done vs i v lt at before none = let is = nothing_added done (scalar_in (view v)) none in sym before ∙ rw (items_from vs i v lt at, is) refl

-- the reading ends there
pub ends_by : (whole : Option (List Scalar)) (done : List Scalar) (vs : List Json) (i : ℕ) (v : Json) (error : ReadError) → i < length vs → v ≡ get_or vs i v → with_rest done (items_view (drop i vs)) ≡ whole → LineGives {X = List Scalar} (λ ss. ss) (Err error) (option_map (λ s. done ++ s ∷ []) (scalar_in (view v))) → LineGives {X = List Scalar} (λ ss. ss) (Err error) whole
ends_by whole done vs i v Refused lt at before none = ends whole done vs i v lt at before none
ends_by whole done vs i v Memory lt at before none = tt
