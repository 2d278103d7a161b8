use Rattle.std.proofs.Common.{◌≡◌, ◌≤◌, length, take}
use Rattle.site_memory.specs.Record.{history_of}
use Rattle.site_memory.proofs.walks.count_steps.Given as goal

abbrev pub invariant-loop-entry : goal.invariant-loop-entry
invariant-loop-entry l = record {
  steps : l.steps ≡ length (history_of (take l.entry-index l.kept));
  few : l.steps ≤ l.entry-index;
}
