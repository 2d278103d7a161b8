use Rattle.flow_syntax.specs.Views.{flows_of}
use Rattle.cell_tests.proofs.settle_tests.modes_of.Given as goal

-- no flows, and four partitions
abbrev pub ghosts-sends_named : goal.ghosts-sends_named
ghosts-sends_named g a = record { flows = flows_of a.flows.now; count = 4 }
