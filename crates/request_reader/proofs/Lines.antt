-- The first of the lines, from where the first line feed stands.
use Rattle.std.proofs.Common.{◌≡◌, ℕ, ◌+◌, ◌<◌, ◌≤◌, List, [], ◌∷◌, length, take, drop, true, false, Bool, cond, Some, None, refl, nat_lt, arith}
use Rattle.std.specs.List.{position, position_or_len}
use Rattle.std.proofs.lemmas.Option.{cond_some}
use Rattle.std.proofs.lemmas.List.Quantifiers.{position-Some}
use Rattle.std.proofs.lemmas.List.Splits.{slice_split_first, slice_split_none}
use Rattle.std.proofs.lemmas.List.Sums.{fails_before_first}
use Rattle.request_reader.specs.Requests.{lines_of, is_line_feed}
use Rattle.std.proofs.lemmas.Bool.{ltb-false, ltb-true}

cond_none : (b : Bool) (x : ℕ) → cond b (Some x) None ≡ None → b ≡ false
cond_none true x e = cc
cond_none false x e = refl

pub position_below : (bs : List ℕ) (i : ℕ) → position is_line_feed bs ≡ Some i → i < length bs
position_below bs i e = (position-Some is_line_feed bs i 0 e).0

pub lines_at : (bs : List ℕ) (i : ℕ) → position is_line_feed bs ≡ Some i → lines_of bs ≡ take i bs ∷ lines_of (drop (i + 1) bs)
lines_at bs i e =
    let at = cond_some (nat_lt (position_or_len is_line_feed bs) (length bs)) (position_or_len is_line_feed bs) i e in
    let split = slice_split_first is_line_feed bs 0 (ltb-true _ _ at.0) in
    rw at.1 at split

pub lines_none : (bs : List ℕ) → position is_line_feed bs ≡ None → lines_of bs ≡ bs ∷ []
lines_none bs e =
    let past : length bs ≤ position_or_len is_line_feed bs = ltb-false _ _ (cond_none _ (position_or_len is_line_feed bs) e) in
    slice_split_none is_line_feed bs (λ k d h. fails_before_first is_line_feed bs k d (omega arith))
