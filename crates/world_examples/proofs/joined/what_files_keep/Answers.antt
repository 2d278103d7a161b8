use Rattle.world_examples.proofs.Joins.{nothing_is_kept, not_kept, kept_on, unfounded}
use Rattle.world_examples.proofs.joined.what_files_keep.Goals as goal

pub returns-clause-none : goal.returns-clause-none
returns-clause-none c = nothing_is_kept

pub returns-clause-kept : goal.returns-clause-kept
returns-clause-kept c = not_kept

pub returns-clause-founded : goal.returns-clause-founded
returns-clause-founded c = unfounded

pub returns-clause-recovered : goal.returns-clause-recovered
returns-clause-recovered c = kept_on
