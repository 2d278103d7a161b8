use Rattle.gate_bench.proofs.Unlost.{none_lost}
use Rattle.gate_bench.proofs.testing.ledgers_with.Goals as goal

pub returns : goal.returns
returns c = none_lost c.in_ok-vec.field-0.items c.in_ok-ledger.ledger c.in_ok-floors_of.field-0.items c.in_ok-vec.ensures.items c.in_ok-ledger.ensures.floors c.in_ok-floors_of.ensures
