-- A log keeps what its payloads are read as.
use Rattle.part_items.proofs.PayloadsKept.{reading_kept, kept_only, nothing_yet}
use Rattle.part_items.proofs.kept.payloads_are_kept.Goals as goal

pub returns-clause-kept : goal.returns-clause-kept
returns-clause-kept c = reading_kept

pub returns-clause-only : goal.returns-clause-only
returns-clause-only c = kept_only

pub returns-clause-nothing : goal.returns-clause-nothing
returns-clause-nothing c = nothing_yet
