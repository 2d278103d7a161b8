use Rattle.std.proofs.Common.{◌≡◌, take}
use Rattle.site_model.specs.History.{tape}
use Rattle.site_memory.specs.Record.{history_of}
use Rattle.site_memory.proofs.walks.tape_in.Given as goal

abbrev pub invariant-loop-entry : goal.invariant-loop-entry
invariant-loop-entry l = l.bytes.items ≡ tape (history_of (take l.entry-index l.kept))
