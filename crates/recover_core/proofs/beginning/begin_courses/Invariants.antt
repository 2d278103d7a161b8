use Rattle.std.proofs.Common.{◌≡◌, length, List}
use Rattle.site_model.specs.History.{Step}
use Rattle.log_files.specs.Checked.{AllOpen}
use Rattle.recover_core.specs.Begun.{AllBegun, AllFromFresh, AllUnplaced}
use Rattle.recover_core.proofs.beginning.begin_courses.Given as goal

-- the logs of the partitions so far were found
abbrev pub invariant-partitions : goal.invariant-partitions
invariant-partitions l = record {
  many : length l.courses.items ≡ l.place;
  begun : (steps : List Step) → AllOpen steps l.fronts → AllBegun (length l.fronts) l.digest steps l.courses.items;
  fits : AllFromFresh l.courses.items;
  none : AllUnplaced l.courses.items;
}
