use Rattle.std.proofs.Common.{◌≡◌, ◌++◌, ◌+◌, ◌≤◌, ◌-◌, take, length}
use Rattle.std.specs.Vec.{vec_len, vec_capacity}
use Rattle.log_items.specs.Plain.{entries_of}
use Rattle.commit_gate.proofs.keeping.push_incarnations.Given as goal
use Rattle.log_items.specs.Entries.{incarnations_in}

abbrev pub invariant-loop-entry : goal.invariant-loop-entry
invariant-loop-entry l = record {
  items : l.incarnations.items ≡ l.initial.incarnations.items ++ incarnations_in (entries_of (take l.entry-index l.entries));
  room : vec_len l.incarnations + (length l.entries - l.entry-index) ≤ vec_capacity l.incarnations;
}
