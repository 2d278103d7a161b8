use Rattle.std.specs.Prelude.{◌≡◌, ◌++◌, length}
use Rattle.call_begins.specs.Begins.{AreLedgersOf}
use Rattle.call_begins.proofs.beginning.ledgers_of.Given as goal

-- the ledgers of the partitions so far, and which pasts are left
abbrev pub invariant-pasts : goal.invariant-pasts
invariant-pasts l = record {
  place : l.place ≡ length l.yielded;
  many : length l.ledgers.items ≡ length l.yielded;
  rest : l.yielded ++ l.past-iterator.rest.items ≡ l.fn.pasts.items;
  show : AreLedgersOf l.fn.count l.fn.states l.yielded l.ledgers.items;
}
