-- One spelling of each kind of item and outcome, and broken ones.
use Rattle.std.specs.Prelude.{ℕ, List, [], ◌∷◌, codes}
use Rattle.dura_value.specs.declared.data.Value.TheVariants as values
use Rattle.dura_value.specs.declared.outcome.Outcome.TheVariants as outcomes
use Rattle.dura_value.specs.Ids.{client}
use Rattle.dura_value.specs.Messages.{query, release}
use Rattle.dura_value.specs.Items.{Item, took, got, ran, ended, fired, trim}

-- Took of client a's query of client b by request 1; Got from partition 1, incarnation 2, position 3, the stream's message 4,
-- client a's release to client b; Ran from client a to client b at 5; Done of client a's task 6 with null, and with a failure;
-- Fired of client a's task 6 at 5; Trim of the stream to partition 1 before 4, which incarnation 2, position 3 has read
abbrev pub item_rows : List (List ℕ × Item)
item_rows =
    (0x20 ∷ 3 ∷ 1 ∷ 0x61 ∷ 3 ∷ 1 ∷ 0x62 ∷ 0x12 ∷ 0 ∷ 0 ∷ 0 ∷ 1 ∷ [], took (record { from = client (codes "a"); to = client (codes "b"); body = query 1 }))
    ∷ (
      0x21 ∷ 0 ∷ 0 ∷ 0 ∷ 1 ∷ 0 ∷ 0 ∷ 0 ∷ 0 ∷ 0 ∷ 0 ∷ 0 ∷ 2 ∷ 0 ∷ 0 ∷ 0 ∷ 0 ∷ 0 ∷ 0 ∷ 0 ∷ 3 ∷ 0 ∷ 0 ∷ 0 ∷ 0 ∷ 0 ∷ 0 ∷ 0 ∷ 4 ∷ 3 ∷ 1 ∷ 0x61 ∷ 3 ∷ 1 ∷ 0x62 ∷ 0x18 ∷ [],
      got (record { partition = 1; incarnation = 2; position = 3 }) 4 (record { from = client (codes "a"); to = client (codes "b"); body = release }),
    )
    ∷ (0x22 ∷ 3 ∷ 1 ∷ 0x61 ∷ 3 ∷ 1 ∷ 0x62 ∷ 0 ∷ 0 ∷ 0 ∷ 0 ∷ 0 ∷ 0 ∷ 0 ∷ 5 ∷ [], ran (client (codes "a")) (client (codes "b")) 5)
    ∷ (0x23 ∷ 3 ∷ 1 ∷ 0x61 ∷ 0 ∷ 0 ∷ 0 ∷ 6 ∷ 0 ∷ 0 ∷ [], ended (client (codes "a")) 6 (outcomes.Done values.Null))
    ∷ (0x23 ∷ 3 ∷ 1 ∷ 0x61 ∷ 0 ∷ 0 ∷ 0 ∷ 6 ∷ 1 ∷ 0 ∷ 2 ∷ 0x6E ∷ 0x6F ∷ [], ended (client (codes "a")) 6 (outcomes.Failed (codes "no")))
    ∷ (0x24 ∷ 3 ∷ 1 ∷ 0x61 ∷ 0 ∷ 0 ∷ 0 ∷ 6 ∷ 0 ∷ 0 ∷ 0 ∷ 0 ∷ 0 ∷ 0 ∷ 0 ∷ 5 ∷ [], fired (client (codes "a")) 6 5)
    ∷ (0x25 ∷ 0 ∷ 0 ∷ 0 ∷ 1 ∷ 0 ∷ 0 ∷ 0 ∷ 0 ∷ 0 ∷ 0 ∷ 0 ∷ 4 ∷ 0 ∷ 0 ∷ 0 ∷ 0 ∷ 0 ∷ 0 ∷ 0 ∷ 2 ∷ 0 ∷ 0 ∷ 0 ∷ 0 ∷ 0 ∷ 0 ∷ 0 ∷ 3 ∷ [], trim (record { partition = 1; incarnation = 2; position = 3 }) 4)
    ∷ []

-- no such kind, below and above; Took of nothing; Got whose incarnation is 2^63; Ran whose stamp lacks a byte; Done that only
-- started; Done without a task; Fired without a stamp; Trim whose number is 2^63
abbrev pub item_faults : List (List ℕ × ℕ)
item_faults =
    (0x1F ∷ [], 0)
    ∷ (0x26 ∷ [], 0)
    ∷ (0x20 ∷ [], 1)
    ∷ (0x21 ∷ 0 ∷ 0 ∷ 0 ∷ 1 ∷ 0x80 ∷ 0 ∷ 0 ∷ 0 ∷ 0 ∷ 0 ∷ 0 ∷ 0 ∷ [], 5)
    ∷ (0x22 ∷ 3 ∷ 1 ∷ 0x61 ∷ 3 ∷ 1 ∷ 0x62 ∷ 0 ∷ 0 ∷ 0 ∷ 0 ∷ 0 ∷ 0 ∷ 5 ∷ [], 7)
    ∷ (0x23 ∷ 3 ∷ 1 ∷ 0x61 ∷ 0 ∷ 0 ∷ 0 ∷ 6 ∷ 2 ∷ [], 8)
    ∷ (0x23 ∷ 3 ∷ 1 ∷ 0x61 ∷ [], 4)
    ∷ (0x24 ∷ 3 ∷ 1 ∷ 0x61 ∷ 0 ∷ 0 ∷ 0 ∷ 6 ∷ [], 8)
    ∷ (0x25 ∷ 0 ∷ 0 ∷ 0 ∷ 1 ∷ 0x80 ∷ 0 ∷ 0 ∷ 0 ∷ 0 ∷ 0 ∷ 0 ∷ 0 ∷ [], 5)
    ∷ []
