-- What is wrong in a log's next frame stands in it.
use Rattle.std.proofs.Common.{◌≡◌, ℕ, ◌-◌, ◌≤◌, List, length, Ok, Err, arith}
use Rattle.dura_codec.specs.Fields.{Read}
use Rattle.part_items.specs.Grammar.{whole}
use Rattle.part_items.specs.Numbered.{Next, next_frame_at, next_frame_in}

whole_err : {X : Type 0} (bytes : List ℕ) (r : Read X) (offset : ℕ) → whole bytes r ≡ Err offset → offset ≤ length bytes
whole_err bytes (Ok read) offset h = absurd (cc h)
whole_err bytes (Err left) offset h = let is : length bytes - left ≡ offset = cc h in omega arith

pub fault_inside : (next : Next) (bytes : List ℕ) (offset : ℕ) → next_frame_in next bytes ≡ Err offset → offset ≤ length bytes
fault_inside next bytes offset h = whole_err bytes (next_frame_at next bytes) offset h
