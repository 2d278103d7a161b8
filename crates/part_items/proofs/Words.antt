-- Names, keys and texts are read again.
use Rattle.std.proofs.Common.{◌≡◌, ℕ, ◌<◌, ◌≤◌, List, [], ◌∷◌, ◌++◌, length, Bool, true, Ok, refl, arith, leb-true}
use Rattle.std.specs.Str.{is_utf8}
use Rattle.dura_value.specs.Names.{is_name, is_key}
use Rattle.dura_value.specs.Text.{IsText}
use Rattle.dura_codec.specs.Fields.{run_at}
use Rattle.dura_codec.specs.Grammar.{word_size_at, name_at, key_at, text_at}
use Rattle.dura_codec.specs.Spelling.{spell_word, spell_text}
use Rattle.part_items.proofs.Numbers.{is_below, enough, taken, behind, number_again_2}
use Rattle.std.proofs.lemmas.Bool.{and_parts, le-leb}

pub run_again : (test : List ℕ → Bool) (run rest : List ℕ) → test run ≡ true → run_at test (length run) (run ++ rest) ≡ Ok (run, rest)
unfolding run_at
run_again test run rest passes = rw (enough (length run) run rest refl, taken (length run) run rest refl, behind (length run) run rest refl, passes) refl

pub size_again : (size : ℕ) (rest : List ℕ) → 0 < size → size ≤ 64 → word_size_at (size ∷ rest) ≡ Ok (size, rest)
unfolding word_size_at
size_again size rest some most = rw (is_below 0 size some, le-leb size 64 most) refl

name_size : (name : List ℕ) → is_name name ≡ true → (0 < length name) × (length name ≤ 64)
name_size [] is = absurd (cc is)
name_size (first ∷ rest) is = (omega arith, leb-true _ _ (and_parts _ _ is).0)

key_size : (key : List ℕ) → is_key key ≡ true → (0 < length key) × (length key ≤ 64)
key_size key is =
    let p = and_parts _ _ is in
    (leb-true _ _ p.0, leb-true _ _ (and_parts _ _ p.1).0)

pub name_again : (name rest : List ℕ) → is_name name ≡ true → name_at (spell_word name ++ rest) ≡ Ok (name, rest)
unfolding name_at
name_again name rest is =
    let size : (0 < length name) × (length name ≤ 64) = name_size name is in
    rw (size_again (length name) (name ++ rest) size.0 size.1) (run_again is_name name rest is)

pub key_again : (key rest : List ℕ) → is_key key ≡ true → key_at (spell_word key ++ rest) ≡ Ok (key, rest)
unfolding key_at
key_again key rest is =
    let size : (0 < length key) × (length key ≤ 64) = key_size key is in
    rw (size_again (length key) (key ++ rest) size.0 size.1) (run_again is_key key rest is)

pub text_again : (text rest : List ℕ) → IsText text → text_at (spell_text text ++ rest) ≡ Ok (text, rest)
unfolding text_at
text_again text rest is =
    let short : length text ≤ 4096 = is.1 in
    rw (number_again_2 (length text) (text ++ rest) (omega arith), le-leb (length text) 4096 short) (run_again is_utf8 text rest is.0)
