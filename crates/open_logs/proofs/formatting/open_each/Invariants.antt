use Rattle.std.proofs.Common.{◌≡◌, ◌≤◌, ◌++◌, ℕ, List, length}
use Rattle.dura_value.specs.Items.{Entry}
use Rattle.open_logs.specs.Ready.{AllReady, HasOpened, AreOfLives}
use Rattle.open_logs.proofs.formatting.open_each.Given as goal

-- the logs of the lives so far are opened, and which lives are left
abbrev pub invariant-lives : goal.invariant-lives
invariant-lives g l = record {
  told : g.V.Site.tells l.site → g.V.Site.tells l.fn.site;
  of_lives : AreOfLives l.yielded l.ready;
  place : l.partition ≡ length l.yielded;
  rest : l.yielded ++ l.life-iterator.rest.items ≡ l.fn.lives.items;
  opened : g.V.Site.tells l.site → (logs : ℕ → List Entry) → AllReady l.fn.count l.fn.digest logs (g.V.Site.history l.fn.site) l.fn.lives.items → HasOpened l.fn.count l.fn.digest logs (g.V.Site.history l.fn.site) (g.V.Site.history l.site) l.ready.logs.items;
  later : g.V.Site.disk_faults l.fn.site ≤ g.V.Site.disk_faults l.site;
  say_faults : g.V.Site.say_faults l.site ≡ g.V.Site.say_faults l.fn.site;
}
