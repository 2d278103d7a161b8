-- The parts of a list are written one after another.
use Rattle.std.proofs.Common.{◌≡◌, ℕ, ◌+◌, ◌<◌, ◌≤◌, arith, List, [], ◌∷◌, ◌++◌, length, get_or, take, refl, ap, sym, ◌∙◌, add-one}
use Rattle.std.specs.Prelude.{map}
use Rattle.std.proofs.Math.Seq.{take-suc, take-length}
use Rattle.std.proofs.lemmas.List.{map_push}
use Rattle.serde_json.specs.Data.{item}
use Rattle.serde_json.specs.View.{view, items_of, items_view}
use Rattle.serde_json.specs.declared.value.Value.{Value as Json}
use Rattle.dura_value.specs.declared.data.Scalar.{Scalar}
use Rattle.client_port.specs.Lines.{scalar_data, items_data}

pub with_part : (js : List Json) (ss : List Scalar) (i : ℕ) (j : Json) (s : Scalar) → i < length ss → s ≡ get_or ss i s → map view js ≡ map scalar_data (take i ss) → view j ≡ scalar_data s → map view (js ++ j ∷ []) ≡ map scalar_data (take (i + 1) ss)
with_part js ss i j s lt at is same =
    let longer : take (i + 1) ss ≡ take i ss ++ s ∷ [] = rw (add-one, take-suc ss i s lt, ← at) refl in
    map_push view js j ∙ rw (longer, is, same) (sym (map_push scalar_data (take i ss) s))

items_by_map : (ss : List Scalar) → items_data ss ≡ items_of (map scalar_data ss)
items_by_map [] = refl
items_by_map (s ∷ ss) = ap (item (scalar_data s)) (items_by_map ss)

pub whole : (js : List Json) (ss : List Scalar) (i : ℕ) → i ≤ length ss → length ss ≤ i → map view js ≡ map scalar_data (take i ss) → items_view js ≡ items_data ss
whole js ss i low high is =
    let end : i ≡ length ss = omega arith in
    let all : map view js ≡ map scalar_data ss = rw (end, take-length ss) at is in
    ap items_of all ∙ sym (items_by_map ss)
