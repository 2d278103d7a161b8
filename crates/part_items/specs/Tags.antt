-- The byte that each kind of item begins with, and how many items and entries there are.
use Rattle.std.specs.Prelude.{ℕ}

abbrev pub took_tag : ℕ
took_tag = 0x20

abbrev pub got_tag : ℕ
got_tag = 0x21

abbrev pub ran_tag : ℕ
ran_tag = 0x22

abbrev pub done_tag : ℕ
done_tag = 0x23

abbrev pub fired_tag : ℕ
fired_tag = 0x24

abbrev pub trim_tag : ℕ
trim_tag = 0x25

-- an entry has at most so many items, and a frame so many entries
abbrev pub most_members : ℕ
most_members = 64
