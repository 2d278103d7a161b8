use Rattle.flow_syntax.specs.Views.{flows_of}
use Rattle.cell_tests.proofs.draw_tests.play.Given as goal

-- the flows that were read, and four partitions
abbrev pub ghosts-play_named : goal.ghosts-play_named
ghosts-play_named g a = record { flows = flows_of a.flows.now; count = 4 }
