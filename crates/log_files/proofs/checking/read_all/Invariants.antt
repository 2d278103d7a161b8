use Rattle.std.proofs.Common.{◌≡◌, ◌≤◌, List}
use Rattle.dura_value.specs.Items.{Entry}
use Rattle.log_files.specs.Entries.{IsOpenedLog, Reads, fuel_of}
use Rattle.log_files.proofs.checking.read_all.Given as goal

-- the entries so far were read
abbrev pub invariant-entries : goal.invariant-entries
invariant-entries g l = record {
  told : g.V.Site.tells l.site → g.V.Site.tells l.fn.site;
  unchanged : g.V.Site.history l.site ≡ g.V.Site.history l.fn.site;
  reads : g.V.Site.tells l.site → IsOpenedLog (g.V.Site.history l.fn.site) l.fn.log → (done : List Entry) × Reads (g.V.Site.history l.fn.site) l.fn.log done l.reader;
  later : g.V.Site.disk_faults l.fn.site ≤ g.V.Site.disk_faults l.site;
  say_faults : g.V.Site.say_faults l.site ≡ g.V.Site.say_faults l.fn.site;
}

-- how much there may be to read at most
abbrev pub decreases-entries : goal.decreases-entries
decreases-entries g l = fuel_of l.reader
