-- Bytes as JSON.
use Rattle.std.proofs.Common.{◌≡◌, ℕ, List, true, false, Bool, Option, Some, None, Err, if◌then◌else◌, refl, ap}
use Rattle.std.specs.Str.{IsUtf8, is_utf8}
use Rattle.std.proofs.lemmas.Str.{IsUtf8-from_is_utf8, is_utf8-from_IsUtf8}
use Rattle.serde_json.specs.Data.{Data}
use Rattle.serde_json.specs.Read.{read}
use Rattle.flow_reader.specs.Faults.{not_json}
use Rattle.flow_reader.specs.Files.{file_in, flows_in, json_checked, shape_checked}

pub some_data : (bs : List ℕ) (d : Data) → IsUtf8 bs → read bs ≡ Some d → flows_in bs ≡ shape_checked (file_in d)
some_data bs d utf8 is = rw (is_utf8-from_IsUtf8 bs utf8, is) refl

nothing : {X : Type 0} (b : Bool) (o : Option X) → (b ≡ true → o ≡ None) → (if b then o else None) ≡ None
nothing true o h = h refl
nothing false o h = refl

pub no_data : (bs : List ℕ) → (IsUtf8 bs → read bs ≡ None) → flows_in bs ≡ Err not_json
no_data bs h = ap json_checked (nothing (is_utf8 bs) (read bs) (λ e. h (IsUtf8-from_is_utf8 bs e)))
