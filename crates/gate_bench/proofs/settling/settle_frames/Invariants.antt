use Rattle.std.proofs.Common.{◌≤◌}
use Rattle.commit_gate.specs.Ledgers.{log_length}
use Rattle.commit_gate.specs.Views.{ledger_of}
use Rattle.gate_bench.specs.Rests.{Rests}
use Rattle.gate_bench.proofs.settling.settle_frames.Given as goal

abbrev pub invariant-loop : goal.invariant-loop
invariant-loop l = record {
  rests : Rests l.ledger;
  long : log_length (ledger_of l.ledger) ≤ l.counter;
}
