use Rattle.std.proofs.Common.{◌≡◌, take}
use Rattle.site_calls.specs.Events.{flushing}
use Rattle.site_calls.proofs.record.Record.flushed_all.Given as goal

abbrev pub invariant-loop-file : goal.invariant-loop-file
invariant-loop-file l = l.self.events ≡ flushing (take l.file-index l.files) l.initial.self.events
