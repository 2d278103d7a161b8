use Rattle.std.proofs.Common.{◌≡◌, length}
use Rattle.part_steps.specs.States.{parts_in}
use Rattle.state_lines.specs.Heads.{AreListed}
use Rattle.state_lines.specs.Kinds.{keeps}
use Rattle.state_lines.proofs.heads.all_ids.Given as goal

abbrev pub invariant-loop-state : goal.invariant-loop-state
invariant-loop-state l = record {
  long : length l.lists.items ≡ l.state-index;
  lists : AreListed (λ place. keeps l.kind (parts_in l.states place)) l.lists.items;
}
