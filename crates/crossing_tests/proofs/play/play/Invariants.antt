use Rattle.site_memory.specs.Memory.{memory_history}
use Rattle.crossing_tests.proofs.play.play.Given as goal

-- both segments were just made
abbrev pub ghosts-play_named : goal.ghosts-play_named
ghosts-play_named g a = record { steps = memory_history a.site }
