use Rattle.std.proofs.Common.{◌≡◌, ◌≤◌, ◌+◌, ◌-◌, ◌++◌, length, take}
use Rattle.std.specs.Vec.{vec_len, vec_capacity}
use Rattle.commit_gate.specs.Past.{spread, Rise}
use Rattle.commit_gate.proofs.past.push_all_reserved.Given as goal

abbrev pub invariant-loop-incarnation : goal.invariant-loop-incarnation
invariant-loop-incarnation l = record {
  rise : Rise l.stretches.items;
  entries : spread l.stretches.items ≡ spread l.initial.stretches.items ++ take l.incarnation-index l.incarnations;
  room : vec_len l.stretches + (length l.incarnations - l.incarnation-index) ≤ vec_capacity l.stretches;
}
