-- The order of ids and that of their written forms.
use Rattle.std.proofs.Common.{◌≡◌, ◌&&◌, ◌∙◌, ◌<◌, ◌≤◌, ℕ, nat_le, List, [], ◌∷◌, ◌++◌, length, true, refl, ap, sym, arith}
use Rattle.std.specs.declared.cmp.Ordering.{Ordering}
use Rattle.std.specs.declared.cmp.Ordering.TheVariants.{Less, Equal, Greater}
use Rattle.std.specs.Ordering.{nat_cmp, ordering_then}
use Rattle.std.specs.Cmp.Lexicographic.{slice_cmp}
use Rattle.std.specs.List.{list_all}
use Rattle.std.specs.Char.{is_ascii_alphabetic}
use Rattle.std.proofs.lemmas.Bool.{lt-ltb, and_parts}
use Rattle.std.proofs.lemmas.Bool.Decides.{nat_tests}
use Rattle.dura_value.specs.declared.addresses.Id.{Id}
use Rattle.dura_value.specs.declared.addresses.Id.TheVariants.{Client, Entity, Flow}
use Rattle.dura_value.specs.contracts.addresses.IdOrd.TheImpl as ids
use Rattle.dura_value.specs.Ids.{written}
use Rattle.dura_value.specs.Views.{id_of}
use Rattle.dura_value.specs.Names.{is_name, is_key, goes_on_name}
use Rattle.dura_value.specs.Limits.{most_word_bytes}
use Rattle.dura_value.proofs.Ids.{and_true}
use Rattle.id_laws.specs.Forms.{has_form}

less_by : (a b : ℕ) → a < b → nat_cmp a b ≡ Less
less_by a b h = rw (lt-ltb a b h)

greater_by : (a b : ℕ) → b < a → nat_cmp a b ≡ Greater
greater_by a b h = grind (arith, nat_tests)

pub above_slash : (byte : ℕ) → goes_on_name byte ≡ true → 47 < byte
above_slash byte is = grind (arith, nat_tests)

pub above_marks : (byte : ℕ) → is_ascii_alphabetic byte ≡ true → 64 < byte
above_marks byte is = grind (arith, nat_tests)

then_then : (a b c : Ordering) → ordering_then a (ordering_then b c) ≡ ordering_then (ordering_then a b) c
then_then Less b c = refl
then_then Equal b c = refl
then_then Greater b c = refl

-- two words and two keys with a slash between
pub by_parts : (x y k l : List ℕ) → list_all goes_on_name x ≡ true → list_all goes_on_name y ≡ true
    → slice_cmp nat_cmp (x ++ 47 ∷ k) (y ++ 47 ∷ l) ≡ ordering_then (slice_cmp nat_cmp x y) (slice_cmp nat_cmp k l)
by_parts [] [] k l first second = refl
by_parts [] (b ∷ y) k l first second = let parts = and_parts (goes_on_name b) (list_all goes_on_name y) second in rw (less_by 47 b (above_slash b parts.0))
by_parts (a ∷ x) [] k l first second = let parts = and_parts (goes_on_name a) (list_all goes_on_name x) first in rw (greater_by a 47 (above_slash a parts.0))
by_parts (a ∷ x) (b ∷ y) k l first second =
    let those = and_parts (goes_on_name a) (list_all goes_on_name x) first in
    let these = and_parts (goes_on_name b) (list_all goes_on_name y) second in
    ap (ordering_then (nat_cmp a b)) (by_parts x y k l those.1 these.1) ∙ then_then (nat_cmp a b) (slice_cmp nat_cmp x y) (slice_cmp nat_cmp k l)

letters_go_on : (byte : ℕ) → is_ascii_alphabetic byte ≡ true → goes_on_name byte ≡ true
letters_go_on byte is = grind (arith, nat_tests)

pub name_goes_on : (x : List ℕ) → is_name x ≡ true → list_all goes_on_name x ≡ true
name_goes_on [] is = absurd (cc is)
name_goes_on (a ∷ x) is =
    let parts = and_parts (nat_le (length (a ∷ x)) most_word_bytes) (is_ascii_alphabetic a && list_all goes_on_name x) is in
    let these = and_parts (is_ascii_alphabetic a) (list_all goes_on_name x) parts.1 in
    and_true (goes_on_name a) (list_all goes_on_name x) (letters_go_on a these.0) these.1

-- a name begins with a letter, and so stands behind the marks of clients and entities
behind_mark : (mark : ℕ) (x y rest : List ℕ) → mark ≤ 64 → is_name y ≡ true → slice_cmp nat_cmp (mark ∷ x) (y ++ rest) ≡ Less
behind_mark mark x [] rest low is = absurd (cc is)
behind_mark mark x (b ∷ y) rest low is =
    let parts = and_parts (nat_le (length (b ∷ y)) most_word_bytes) (is_ascii_alphabetic b && list_all goes_on_name y) is in
    let these = and_parts (is_ascii_alphabetic b) (list_all goes_on_name y) parts.1 in
    let above : 64 < b = above_marks b these.0 in
    rw (less_by mark b (omega arith))

before_mark : (mark : ℕ) (x y rest : List ℕ) → mark ≤ 64 → is_name x ≡ true → slice_cmp nat_cmp (x ++ rest) (mark ∷ y) ≡ Greater
before_mark mark [] y rest low is = absurd (cc is)
before_mark mark (a ∷ x) y rest low is =
    let parts = and_parts (nat_le (length (a ∷ x)) most_word_bytes) (is_ascii_alphabetic a && list_all goes_on_name x) is in
    let these = and_parts (is_ascii_alphabetic a) (list_all goes_on_name x) parts.1 in
    let above : 64 < a = above_marks a these.0 in
    rw (greater_by a mark (omega arith))

pub in_order : (a b : Id) → has_form (id_of a) ≡ true → has_form (id_of b) ≡ true → ids.ghosts.cmp a b ≡ slice_cmp nat_cmp (written (id_of a)) (written (id_of b))
in_order (Client x) (Client y) first second = refl
in_order (Client x) (Entity y l) first second = refl
in_order (Entity x k) (Client y) first second = refl
in_order (Entity x k) (Entity y l) first second =
    sym (by_parts x y k l (name_goes_on x (and_parts (is_name x) (is_key k) first).0) (name_goes_on y (and_parts (is_name y) (is_key l) second).0))
in_order (Client x) (Flow y l) first second = sym (behind_mark 35 x y (47 ∷ l) (omega arith) (and_parts (is_name y) (is_key l) second).0)
in_order (Flow x k) (Client y) first second = sym (before_mark 35 x y (47 ∷ k) (omega arith) (and_parts (is_name x) (is_key k) first).0)
in_order (Entity x k) (Flow y l) first second = sym (behind_mark 64 (x ++ 47 ∷ k) y (47 ∷ l) (omega arith) (and_parts (is_name y) (is_key l) second).0)
in_order (Flow x k) (Entity y l) first second = sym (before_mark 64 x (y ++ 47 ∷ l) (47 ∷ k) (omega arith) (and_parts (is_name x) (is_key k) first).0)
in_order (Flow x k) (Flow y l) first second =
    sym (by_parts x y k l (name_goes_on x (and_parts (is_name x) (is_key k) first).0) (name_goes_on y (and_parts (is_name y) (is_key l) second).0))
