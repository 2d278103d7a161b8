use Rattle.commit_gate.specs.Keeping.{AreOfOne}
use Rattle.log_items.specs.Plain.{items_of}
use Rattle.gate_bench.proofs.settling.trims.Given as goal

abbrev pub invariant-loop : goal.invariant-loop
invariant-loop l = AreOfOne 1 (items_of l.items.items)
