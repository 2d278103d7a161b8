-- Reading bytes as JSON, and counting members and parts.
use Rattle.std.proofs.Common.{◌≡◌, List, [], ◌∷◌, length, true, false, Bool, Some, None, refl, Option, arith, ℕ}
use Rattle.std.specs.Prelude.{String}
use Rattle.std.specs.Str.{IsUtf8, is_utf8}
use Rattle.std.specs.declared.alloc.Global.{Global}
use Rattle.std.proofs.lemmas.Str.{IsUtf8-from_is_utf8, is_utf8-from_IsUtf8}
use Rattle.serde_json.specs.Data.{Data}
use Rattle.serde_json.specs.Read.{read}
use Rattle.serde_json.specs.View.{members_view, items_view}
use Rattle.serde_json.specs.declared.value.Value.{Value}
use Rattle.dura_value.specs.Optional.{guard}
use Rattle.request_reader.specs.Json.{data_of, count, count_items}

guarded : {X : Type 0} (b : Bool) (o : Option X) → (b ≡ true → o ≡ None) → guard b o ≡ None
guarded true o h = h refl
guarded false o h = refl

pub data_some : (bs : List ℕ) (d : Data) → IsUtf8 bs → read bs ≡ Some d → data_of bs ≡ Some d
data_some bs d u e = rw (is_utf8-from_IsUtf8 bs u) e

pub data_none : (bs : List ℕ) → (IsUtf8 bs → read bs ≡ None) → data_of bs ≡ None
data_none bs h = guarded (is_utf8 bs) (read bs) (λ e. h (IsUtf8-from_is_utf8 bs e))

pub count_members : (es : List (String Global × Value)) → count (members_view es) ≡ length es
count_members [] = refl
count_members (x ∷ es) = omega (arith, count_members es)

pub count_of_items : (vs : List Value) → count_items (items_view vs) ≡ length vs
count_of_items [] = refl
count_of_items (x ∷ vs) = omega (arith, count_of_items vs)
