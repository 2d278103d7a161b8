use Rattle.std.proofs.Common.{◌≡◌, ◌≤◌, ℕ, Option, length}
use Rattle.commit_log.specs.declared.reader.OpenedLog.{OpenedLog as Opened}
use Rattle.part_steps.specs.States.{parts_in}
use Rattle.recover_core.specs.Rounds.{AreReady, AllRead, AllWhole, ArePlaced, HavePlaced, all_to_go}
use Rattle.recover_core.proofs.rounds.place_all.Given as goal

-- rounds were gone
abbrev pub invariant-rounds : goal.invariant-rounds
invariant-rounds g l = record {
  ready : AreReady l.states.items l.courses.items;
  many : length l.states.items ≡ length l.fn.states.items;
  told : g.V.Site.tells l.site → g.V.Site.tells l.fn.site;
  unchanged : g.V.Site.history l.site ≡ g.V.Site.history l.fn.site;
  reads : g.V.Site.tells l.site → (logs : ℕ → Option Opened) → AllRead (g.V.Site.history l.fn.site) logs l.fn.courses.items → AllRead (g.V.Site.history l.fn.site) logs l.courses.items;
  keeps : HavePlaced (g.R.Reactions.flows l.reactions) (length l.fn.states.items) (g.V.Site.tells l.fn.site) (g.V.Site.history l.fn.site) (parts_in l.fn.states.items) l.fn.courses.items
      → HavePlaced (g.R.Reactions.flows l.reactions) (length l.fn.states.items) (g.V.Site.tells l.site) (g.V.Site.history l.fn.site) (parts_in l.states.items) l.courses.items;
  goes : g.V.Site.tells l.site → (logs : ℕ → Option Opened) → AllRead (g.V.Site.history l.fn.site) logs l.fn.courses.items → AllWhole (g.V.Site.history l.fn.site) logs
      → ArePlaced (g.R.Reactions.flows l.reactions) (length l.fn.states.items) (g.V.Site.history l.fn.site) (parts_in l.fn.states.items) l.fn.courses.items
      → ArePlaced (g.R.Reactions.flows l.reactions) (length l.fn.states.items) (g.V.Site.history l.fn.site) (parts_in l.states.items) l.courses.items;
  later : g.V.Site.disk_faults l.fn.site ≤ g.V.Site.disk_faults l.site;
  say_faults : g.V.Site.say_faults l.site ≡ g.V.Site.say_faults l.fn.site;
}

-- how far all have to go
abbrev pub decreases-rounds : goal.decreases-rounds
decreases-rounds g l = all_to_go l.courses.items
