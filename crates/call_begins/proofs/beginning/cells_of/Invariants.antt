use Rattle.std.specs.Prelude.{◌≡◌, ◌++◌, length}
use Rattle.call_begins.specs.Begins.{AllBegun}
use Rattle.call_begins.proofs.beginning.cells_of.Given as goal

-- the cells of the partitions so far, and which states are left
abbrev pub invariant-states : goal.invariant-states
invariant-states g l = record {
  place : l.place ≡ length l.yielded;
  many : length l.cells.items ≡ length l.yielded;
  rest : l.yielded ++ l.state-iterator.rest.items ≡ l.fn.states.items;
  begun : AllBegun l.fn.incarnations l.fn.since l.cells.items;
}
