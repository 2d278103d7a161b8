-- Both would be the holder of what they share.
use Rattle.run_laws.proofs.Ordered.{never_overlaps}
use Rattle.run_laws.proofs.sections.no_overlap.Goals as goal

pub returns : goal.returns
returns c = never_overlaps
