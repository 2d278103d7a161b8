use Rattle.std.proofs.Common.{◌≡◌, ◌≤◌, length, take}
use Rattle.site_model.specs.History.{changes_of}
use Rattle.site_memory.specs.Record.{history_of}
use Rattle.site_memory.proofs.walks.count_changes.Given as goal

abbrev pub invariant-loop-entry : goal.invariant-loop-entry
invariant-loop-entry l = record {
  changes : l.changes ≡ length (changes_of l.file (history_of (take l.entry-index l.kept)));
  few : l.changes ≤ l.entry-index;
}
