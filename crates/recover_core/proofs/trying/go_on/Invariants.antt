use Rattle.std.proofs.Common.{◌≡◌, ◌≤◌, List, length}
use Rattle.dura_value.specs.Items.{Entry}
use Rattle.part_steps.specs.States.{parts_in}
use Rattle.recover_core.specs.Courses.{IsCourse, ReadsFurther, IsWhole, IsChain, IsStill, GoesFitting, GoesUnrefused, to_go}
use Rattle.recover_core.proofs.Going.{InLoop}
use Rattle.recover_core.proofs.trying.go_on.Given as goal

-- entries were placed one after another
abbrev pub invariant-entries : goal.invariant-entries
invariant-entries g l = record {
  goes : GoesFitting l.place l.fn.states.items l.states.items l.fn.course l.course l.moved;
  unrefused : GoesUnrefused (g.R.Reactions.flows l.reactions) l.place (g.V.Site.tells l.site) (g.V.Site.history l.fn.site) l.fn.states.items l.states.items l.fn.course l.course;
  told : g.V.Site.tells l.site → g.V.Site.tells l.fn.site;
  unchanged : g.V.Site.history l.site ≡ g.V.Site.history l.fn.site;
  read : g.V.Site.tells l.site → (done : List Entry) → IsCourse (g.V.Site.history l.fn.site) done l.fn.course → ReadsFurther (g.V.Site.history l.fn.site) done l.course;
  made : g.V.Site.tells l.site → (done : List Entry) → IsCourse (g.V.Site.history l.fn.site) done l.fn.course → IsWhole (g.V.Site.history l.fn.site) l.fn.course.log
      → IsChain (g.R.Reactions.flows l.reactions) (length l.fn.states.items) l.place done (parts_in l.fn.states.items) → IsStill (g.R.Reactions.flows l.reactions) (length l.fn.states.items) (parts_in l.fn.states.items l.place) l.fn.course.comes
      → InLoop (g.R.Reactions.flows l.reactions) (length l.fn.states.items) (g.V.Site.history l.fn.site) l.place done (parts_in l.fn.states.items) (parts_in l.states.items) l.course l.moved;
  later : g.V.Site.disk_faults l.fn.site ≤ g.V.Site.disk_faults l.site;
  say_faults : g.V.Site.say_faults l.site ≡ g.V.Site.say_faults l.fn.site;
}

-- how far it may have to go
abbrev pub decreases-entries : goal.decreases-entries
decreases-entries g l = to_go l.course.comes
