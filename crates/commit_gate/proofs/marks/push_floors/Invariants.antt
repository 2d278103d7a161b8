use Rattle.std.proofs.Common.{◌≡◌, ◌++◌, take}
use Rattle.commit_gate.proofs.marks.push_floors.Given as goal

abbrev pub invariant-loop-floor : goal.invariant-loop-floor
invariant-loop-floor l = l.floors.items ≡ l.initial.floors.items ++ take l.floor-index l.more
