use Rattle.std.proofs.Common.{◌≡◌, ◌≤◌, ◌<◌, ℕ, Some, length}
use Rattle.std.specs.List.{slice_get}
use Rattle.site_model.specs.History.{content_of}
use Rattle.part_items.specs.Logs.{logs_in}
use Rattle.log_files.specs.Checked.{AllOpen, HasEntries, asked_for}
use Rattle.log_files.specs.Fitting.{FitsFiles}
use Rattle.log_files.specs.declared.opening.LogFiles.{LogFiles}
use Rattle.log_files.proofs.checking.check_files.Given as goal

-- the files of the partitions so far aren't refused
abbrev pub invariant-partitions : goal.invariant-partitions
invariant-partitions g l = record {
  told : g.V.Site.tells l.site → g.V.Site.tells l.fn.site;
  unchanged : g.V.Site.history l.site ≡ g.V.Site.history l.fn.site;
  says : g.V.Site.tells l.site → AllOpen (g.V.Site.history l.fn.site) l.fronts → (lower : ℕ) → lower < l.place
      → HasEntries (logs_in (asked_for (length l.fronts) l.digest lower) (λ file. content_of file (g.V.Site.history l.fn.site)));
  fits : (lower : ℕ) → lower < l.place → (both : LogFiles) → slice_get l.fronts lower ≡ Some both → FitsFiles (asked_for (length l.fronts) l.digest lower) both;
  later : g.V.Site.disk_faults l.fn.site ≤ g.V.Site.disk_faults l.site;
  say_faults : g.V.Site.say_faults l.site ≡ g.V.Site.say_faults l.fn.site;
}
