use Rattle.site_memory.specs.Memory.{memory_history}
use Rattle.crossing_tests.proofs.Begun.{both_begun}
use Rattle.crossing_tests.proofs.play.play.Goals as goal

pub play_named-requires : goal.play_named-requires
play_named-requires g c =
    let first = c.formatted-first in
    let second = c.formatted-second in
    both_begun (memory_history first.new.site) (memory_history second.new.site) first.result second.result first.ensures.file second.ensures.file first.ensures.rests second.ensures.rests second.ensures.only
