use Rattle.std.proofs.Common.{◌≡◌, take}
use Rattle.hub_store.specs.Plain.{trail_of}
use Rattle.round_steps.specs.Labels.{settled_labels}
use Rattle.round_steps.proofs.labels.labels_of_all.Given as goal

-- those of the entries so far
abbrev pub invariant-entries : goal.invariant-entries
invariant-entries l = l.labels ≡ settled_labels (trail_of (take l.settled-index l.trail))
