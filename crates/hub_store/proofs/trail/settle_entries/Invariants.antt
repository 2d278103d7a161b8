use Rattle.std.proofs.Common.{◌≡◌, ◌++◌, ◌+◌, length, vec_len}
use Rattle.std.specs.Vec.{vec_capacity}
use Rattle.log_items.specs.Plain.{entries_of}
use Rattle.hub_store.specs.Plain.{trail_of}
use Rattle.hub_store.specs.Trail.{settling}
use Rattle.hub_store.proofs.trail.settle_entries.Given as goal

abbrev pub decreases-loop-entries : goal.decreases-loop-entries
decreases-loop-entries l = vec_len l.entries

-- what is on the trail and what is still to come
abbrev pub invariant-loop-entries : goal.invariant-loop-entries
invariant-loop-entries l = record {
  trail : trail_of l.trail.items ++ settling l.partition l.at (entries_of l.entries.items) ≡ trail_of l.initial.trail.items ++ settling l.partition l.at (entries_of l.fn.frame);
  len : vec_len l.trail + vec_len l.entries ≡ vec_len l.initial.trail + length l.fn.frame;
  capacity : vec_capacity l.trail ≡ vec_capacity l.initial.trail;
}
