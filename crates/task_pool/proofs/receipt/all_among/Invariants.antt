use Rattle.std.proofs.Common.{◌≡◌, ◌<◌, ℕ, true, slice_index_or}
use Rattle.task_pool.proofs.receipt.all_among.Given as goal

abbrev pub invariant-loop-number : goal.invariant-loop-number
invariant-loop-number g l = (k d : ℕ) → k < l.number-index → g.T.Task.is_done l.round (slice_index_or l.numbers k d) ≡ true
