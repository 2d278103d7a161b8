use Rattle.std.proofs.Common.{take}
use Rattle.site_memory.specs.Record.{history_of}
use Rattle.site_memory.specs.Start.{IsStart}
use Rattle.site_memory.proofs.image.files_of.Given as goal

abbrev pub invariant-loop-entry : goal.invariant-loop-entry
invariant-loop-entry l = IsStart l.pick (history_of l.kept) (history_of (take l.entry-index l.kept)) (history_of l.made.items)
