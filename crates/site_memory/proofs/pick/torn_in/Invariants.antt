use Rattle.std.proofs.Common.{◌≡◌, take}
use Rattle.site_model.specs.History.{changes_of}
use Rattle.site_memory.specs.Picked.{torn}
use Rattle.site_memory.specs.Record.{history_of}
use Rattle.site_memory.proofs.pick.torn_in.Given as goal

abbrev pub invariant-loop-i : goal.invariant-loop-i
invariant-loop-i l = l.image.items ≡ torn l.fill (changes_of l.file (history_of (take l.i l.kept)))
