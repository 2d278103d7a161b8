use Rattle.std.specs.Prelude.{◌≡◌, length}
use Rattle.engine_rounds.specs.Held.{HeardBelow}
use Rattle.engine_rounds.proofs.pumping.fire_all.Given as goal

-- the cells before this one heard of the moment
abbrev pub invariant-parts : goal.invariant-parts
invariant-parts g l = record {
  many : length l.cells.items ≡ length l.fn.cells.items;
  heard : HeardBelow l.fn.now l.part l.fn.cells.items l.cells.items;
}
