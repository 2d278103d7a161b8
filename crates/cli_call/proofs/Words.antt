-- Words that are no texts.
use Rattle.std.proofs.Common.{◌≡◌, ◌<◌, ℕ, List, [], true, length, map, get_or, string_bytes, sym, ◌∙◌, ap, subst, arith}
use Rattle.std.specs.List.{All}
use Rattle.std.specs.declared.string.String.{String}
use Rattle.std.specs.Str.{IsUtf8, IsValidUpTo, is_utf8}
use Rattle.std.proofs.lemmas.Str.{IsUtf8-from_is_utf8}
use Rattle.std.proofs.lemmas.List.{get_or-map, length-map}
use Rattle.std.proofs.lemmas.List.Elements.{All-get_or}
use Rattle.std.proofs.Math.Seq.{take-length}
use Rattle.dura_value.specs.Text.{IsText}

-- bytes with a longest front that is UTF-8 are not UTF-8
pub not_utf8 : (bytes : List ℕ) (at : ℕ) → IsValidUpTo bytes at → is_utf8 bytes ≡ true → ⊥
not_utf8 bytes at front whole = front.longest (length bytes) front.short (subst IsUtf8 (sym (take-length bytes)) (IsUtf8-from_is_utf8 bytes whole))

-- where all words are texts, each one is
pub word_at : {Z : Type 0} (words : List (String Z)) (index : ℕ) (word : String Z) → index < length words → word ≡ get_or words index word
    → All IsText (map string_bytes words) → IsText (string_bytes word)
word_at words index word inside same texts =
    subst IsText (get_or-map string_bytes words index word [] inside ∙ ap string_bytes (sym same))
    (All-get_or IsText (map string_bytes words) index [] (omega (arith, length-map words string_bytes)) texts)
