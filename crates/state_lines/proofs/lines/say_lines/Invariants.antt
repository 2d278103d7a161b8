use Rattle.std.proofs.Common.{◌≡◌, ◌≤◌, ℕ, length}
use Rattle.dura_model.specs.Partition.{shown}
use Rattle.part_steps.specs.States.{parts_in}
use Rattle.site_model.specs.History.{changes_of, tape}
use Rattle.state_lines.specs.Heads.{AreHeads, head_of, heads_of}
use Rattle.state_lines.specs.Kinds.{has_line, keeps, line_answer}
use Rattle.state_lines.proofs.Left.{left}
use Rattle.state_lines.proofs.Saying.{HasSaid}
use Rattle.state_lines.proofs.lines.say_lines.Given as goal

abbrev pub invariant-lines : goal.invariant-lines
invariant-lines g l =
    let flows = g.R.Reactions.flows l.reactions in
    let world = shown flows (length l.states) (parts_in l.states) in
    record {
      tells : g.V.Site.tells l.site → g.V.Site.tells l.fn.site;
      said : HasSaid (has_line l.kind world) (line_answer l.kind flows world) (head_of l.heads.last) (tape (g.V.Site.history l.fn.site)) (tape (g.V.Site.history l.site));
      long : length l.heads.next.items ≡ length l.states;
      heads : AreHeads (λ place. keeps l.kind (parts_in l.states place)) (head_of l.heads.last) (heads_of l.heads.next.items);
      files : (file : ℕ) → changes_of file (g.V.Site.history l.site) ≡ changes_of file (g.V.Site.history l.fn.site);
      later : g.V.Site.say_faults l.fn.site ≤ g.V.Site.say_faults l.site;
      disk_faults : g.V.Site.disk_faults l.site ≡ g.V.Site.disk_faults l.fn.site;
    }

abbrev pub decreases-lines : goal.decreases-lines
decreases-lines g l = left l.kind (head_of l.heads.last) l.states
