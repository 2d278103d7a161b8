use Rattle.hub_store.proofs.FactsLacking.{has_next, not_following, not_closed, not_without}
use Rattle.hub_store.proofs.field_examples.frames_next.Goals as goal

pub returns-clause-opened : goal.returns-clause-opened
returns-clause-opened c = has_next

pub returns-clause-follows : goal.returns-clause-follows
returns-clause-follows c = not_following

pub returns-clause-closed : goal.returns-clause-closed
returns-clause-closed c = not_closed

pub returns-clause-without : goal.returns-clause-without
returns-clause-without c = not_without
