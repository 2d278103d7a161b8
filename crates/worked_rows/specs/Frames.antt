-- A frame, and broken ones.
use Rattle.std.specs.Prelude.{ℕ, List, [], ◌∷◌, ◌++◌, take, codes, replicate}
use Rattle.dura_value.specs.declared.data.Value.TheVariants as values
use Rattle.dura_value.specs.Ids.{orchestration, client}
use Rattle.dura_value.specs.Messages.{start, to_request}
use Rattle.dura_value.specs.Items.{took, Entry}

-- the frame of one item: client a's request 1, which starts Sum/x with null, was taken
abbrev pub example_bytes : List ℕ
example_bytes =
    0 ∷ 1 ∷ 0 ∷ 0 ∷ 0 ∷ 0 ∷ 0 ∷ 0 ∷ 0 ∷ 0 ∷ 0 ∷ 0 ∷ 0 ∷ 0 ∷ 0 ∷ 0 ∷ 0 ∷ 0 ∷ 0 ∷ 1 ∷ 0x20 ∷ 3 ∷ 1 ∷ 0x61 ∷ 1 ∷ 3 ∷ 0x53 ∷ 0x75 ∷ 0x6D ∷ 1 ∷ 0x78 ∷ 0x10 ∷ 0 ∷ 2 ∷ 0 ∷ 0 ∷ 0 ∷ 1 ∷ []

abbrev pub example_entries : List Entry
example_entries =
    record {
      position = 0;
      incarnation = 0;
      items = took (record { from = client (codes "a"); to = orchestration (codes "Sum") (codes "x"); body = start values.Null (to_request 1) }) ∷ [];
    } ∷ []

-- nothing; no entry; 65 entries; a position of 2^63; an entry of no item, and of 65; the example without its last byte, and with a
-- byte behind it
abbrev pub frame_faults : List (List ℕ × ℕ)
frame_faults =
    ([], 0)
    ∷ (0 ∷ 0 ∷ [], 0)
    ∷ (0 ∷ 65 ∷ [], 0)
    ∷ (0 ∷ 1 ∷ 0x80 ∷ 0 ∷ 0 ∷ 0 ∷ 0 ∷ 0 ∷ 0 ∷ 0 ∷ [], 2)
    ∷ (0 ∷ 1 ∷ replicate 16 0 ++ 0 ∷ 0 ∷ [], 18)
    ∷ (0 ∷ 1 ∷ replicate 16 0 ++ 0 ∷ 65 ∷ [], 18)
    ∷ (take 37 example_bytes, 34)
    ∷ (example_bytes ++ 0 ∷ [], 38)
    ∷ []
