-- The last steps are written.
use Rattle.std.proofs.Common.{◌≡◌, ◌≤◌, length, drop}
use Rattle.flow_values.proofs.Trails.{trail}
use Rattle.flow_values.proofs.faults.steps_text.Given as goal

abbrev pub invariant-loop-left : goal.invariant-loop-left
invariant-loop-left l = (l.text.items ≡ trail (drop l.left l.steps)) × (l.left ≤ length l.steps)

abbrev pub decreases-loop-left : goal.decreases-loop-left
decreases-loop-left l = l.left
