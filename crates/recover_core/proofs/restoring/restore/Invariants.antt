use Rattle.std.proofs.Common.{◌≡◌, ◌≤◌, ◌-◌}
use Rattle.log_files.specs.Entries.{IsOpenedLog}
use Rattle.part_steps.specs.States.{state_of}
use Rattle.recover_core.proofs.StateRestored.{GoesWith, IsMade}
use Rattle.recover_core.proofs.restoring.restore.Given as goal

-- the entries that were read made the state
abbrev pub invariant-entries : goal.invariant-entries
invariant-entries g l = record {
  goes : GoesWith l.count l.partition l.state l.reader;
  within : (state_of l.state).position ≤ l.position;
  told : g.V.Site.tells l.site → g.V.Site.tells l.fn.site;
  unchanged : g.V.Site.history l.site ≡ g.V.Site.history l.fn.site;
  made : g.V.Site.tells l.site → IsOpenedLog (g.V.Site.history l.fn.site) l.fn.log → IsMade (g.R.Reactions.flows l.reactions) (g.V.Site.history l.fn.site) l.fn.log l.count l.partition l.state l.reader;
  later : g.V.Site.disk_faults l.fn.site ≤ g.V.Site.disk_faults l.site;
  say_faults : g.V.Site.say_faults l.site ≡ g.V.Site.say_faults l.fn.site;
}

-- how many entries are to be read
abbrev pub decreases-entries : goal.decreases-entries
decreases-entries g l = l.position - (state_of l.state).position
