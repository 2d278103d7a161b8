use Rattle.std.proofs.Common.{[]}
use Rattle.site_memory.specs.Memory.{memory_history}
use Rattle.log_tests.specs.Stores.{header}
use Rattle.log_tests.proofs.store_tests.check_lines.Given as goal

-- the one log is the segment that was just formatted, and any frame and any line may follow
abbrev pub ghosts-play_begun : goal.ghosts-play_begun
ghosts-play_begun g a = record {
  origin = record { count = 1; logs = λ partition. record { file = a.log.file; header = header; payloads = []; entries = [] }; steps = memory_history a.site };
  may_follow = λ latest trail told partition going. Unit {0};
  may_say = λ trail told one line. Unit {0};
  still_said = λ latest trail told also partition going may. may;
  still_settled = λ latest trail told partition at going other theirs apart may also. also;
  later_follows = λ latest later trail told partition going above may. may;
}
