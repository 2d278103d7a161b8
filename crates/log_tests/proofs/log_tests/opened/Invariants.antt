use Rattle.site_memory.specs.Memory.{memory_history}
use Rattle.log_tests.proofs.Opened.{IsReading}
use Rattle.log_tests.proofs.log_tests.opened.Given as goal

-- the frames so far were read
abbrev pub invariant-loop : goal.invariant-loop
invariant-loop g l = IsReading l.file (memory_history l.fn.site) (memory_history l.site) l.reader
