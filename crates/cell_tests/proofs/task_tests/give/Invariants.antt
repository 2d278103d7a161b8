use Rattle.flow_syntax.specs.Views.{flows_of}
use Rattle.cell_tests.proofs.task_tests.give.Given as goal

-- the flows that were read, and one partition
abbrev pub ghosts-give_named : goal.ghosts-give_named
ghosts-give_named g a = record { flows = flows_of a.flows.now; count = 1 }
