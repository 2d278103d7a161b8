use Rattle.flow_syntax.specs.Views.{flows_of}
use Rattle.cell_tests.proofs.stream_tests.streams_of.Given as goal

-- no flows, and 32 partitions
abbrev pub ghosts-streams_named : goal.ghosts-streams_named
ghosts-streams_named g a = record { flows = flows_of a.flows.now; count = 32 }
