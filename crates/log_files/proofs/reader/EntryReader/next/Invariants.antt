use Rattle.std.proofs.Common.{◌≡◌, ◌≤◌, List}
use Rattle.site_model.specs.History.{changes_of, IsKept}
use Rattle.commit_log.specs.declared.reader.OpenedLog.{OpenedLog}
use Rattle.dura_value.specs.Items.{Entry}
use Rattle.log_files.specs.Entries.{Reads, next_in, fuel_of}
use Rattle.log_files.proofs.reader.EntryReader.next.Given as goal

-- no entry was read yet
abbrev pub invariant-steps : goal.invariant-steps
invariant-steps g l = record {
  told : g.V.Site.tells l.site → g.V.Site.tells l.fn.site;
  unchanged : g.V.Site.history l.site ≡ g.V.Site.history l.fn.site;
  reads : g.V.Site.tells l.site → (log : OpenedLog) (done : List Entry) → IsKept (changes_of log.file (g.V.Site.history l.fn.site)) → Reads (g.V.Site.history l.fn.site) log done l.fn.self
      → Reads (g.V.Site.history l.fn.site) log done l.reader;
  same : next_in l.reader ≡ next_in l.fn.self;
  less : fuel_of l.reader ≤ fuel_of l.fn.self;
  later : g.V.Site.disk_faults l.fn.site ≤ g.V.Site.disk_faults l.site;
  say_faults : g.V.Site.say_faults l.site ≡ g.V.Site.say_faults l.fn.site;
}

-- how much there may be to read at most
abbrev pub decreases-steps : goal.decreases-steps
decreases-steps g l = fuel_of l.reader
