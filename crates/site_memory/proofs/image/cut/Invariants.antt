use Rattle.std.proofs.Common.{◌≡◌, ◌≤◌, length, take}
use Rattle.site_memory.specs.Record.{history_of}
use Rattle.site_memory.proofs.image.cut.Given as goal

abbrev pub invariant-loop-i : goal.invariant-loop-i
invariant-loop-i l = record {
  steps : l.steps ≡ length (history_of (take l.i l.kept));
  few : l.steps ≤ l.i;
  early : l.steps ≤ l.moment;
}
