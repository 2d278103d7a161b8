-- Room for what is to come, so that it takes no memory.
use Rattle.std.specs.Prelude.{◌≡◌, ℕ, ◌+◌, ◌≤◌, ◌==◌, List, [], ◌∷◌, Some, suc, if◌then◌else◌}
use Rattle.std.specs.List.{slice_get}
use Rattle.std.specs.Vec.{vec_len, vec_capacity}
use Rattle.std.specs.VecDeque.{deque_len, deque_capacity}
use Rattle.commit_gate.specs.declared.ledger.Stream.{Stream}
use Rattle.commit_gate.specs.declared.ledger.Ledger.{Ledger}
use Rattle.log_items.specs.Streams.{Sent}

-- how many of these go to a partition
abbrev pub count_to : ℕ → List Sent → ℕ
count_to target [] = 0
count_to target (one ∷ more) = if one.to == target then suc (count_to target more) else count_to target more

-- each stream has room for those of these that go there
abbrev pub HaveRoom : List Stream → List Sent → Type 0
HaveRoom boxes sent = (target : ℕ) (stream : Stream) → slice_get boxes target ≡ Some stream → deque_len stream.messages + count_to target sent ≤ deque_capacity stream.messages

-- and there is room for so many entries, and for a stretch of each
pub record HasRoom (ledger : Ledger) (entries : ℕ) (sent : List Sent) : Type 0 where
  pub incarnations : vec_len ledger.incarnations + entries ≤ vec_capacity ledger.incarnations
  pub past : vec_len ledger.past + entries ≤ vec_capacity ledger.past
  pub boxes : HaveRoom ledger.boxes.items sent
