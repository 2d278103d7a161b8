use Rattle.std.proofs.Common.{◌≡◌, ◌++◌, map}
use Rattle.std.specs.List.{filter}
use Rattle.std.specs.VecDeque.{deque_len}
use Rattle.cell_waits.specs.Indices.{IsIndexed}
use Rattle.cell_waits.specs.Waits.{wait_of, waits_of, lasting}
use Rattle.cell_waits.proofs.waits.Waits.push_lasting.Given as goal

-- what is kept and what is left of it to keep are all that is to be kept
abbrev pub invariant-waiting : goal.invariant-waiting
invariant-waiting l = IsIndexed l.self × (waits_of l.self ++ filter lasting (map wait_of l.queue.items) ≡ waits_of l.fn.self ++ filter lasting (map wait_of l.fn.queue.items))

abbrev pub decreases-waiting : goal.decreases-waiting
decreases-waiting l = deque_len l.queue
