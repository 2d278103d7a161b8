use Rattle.std.proofs.Common.{◌≡◌, ◌≤◌, length}
use Rattle.site_model.specs.History.{content_of}
use Rattle.log_files.specs.Fronts.{AllFronts, synced_to}
use Rattle.log_files.proofs.opening.open_files.Given as goal

-- the files of the partitions so far were synced, and their fronts read
abbrev pub invariant-partitions : goal.invariant-partitions
invariant-partitions g l = record {
  told : g.V.Site.tells l.site → g.V.Site.tells l.fn.site;
  steps : g.V.Site.history l.site ≡ synced_to l.partition (g.V.Site.history l.fn.site);
  many : length l.files.items ≡ l.partition;
  fronts : g.V.Site.tells l.site → AllFronts (λ file. content_of file (g.V.Site.history l.fn.site)) l.files.items;
  later : g.V.Site.disk_faults l.fn.site ≤ g.V.Site.disk_faults l.site;
  say_faults : g.V.Site.say_faults l.site ≡ g.V.Site.say_faults l.fn.site;
}
