use Rattle.std.proofs.Common.{◌≡◌, length, take}
use Rattle.dura_model.specs.Entries.{labels_of}
use Rattle.log_items.specs.Plain.{items_of}
use Rattle.round_steps.proofs.labels.labels_among.Given as goal

-- those of the items so far
abbrev pub invariant-items : goal.invariant-items
invariant-items l = l.labels ≡ length (labels_of (items_of (take l.item-index l.items)))
