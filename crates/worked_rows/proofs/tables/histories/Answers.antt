use Rattle.std.proofs.Common.{refl}
use Rattle.flow_syntax.specs.Machine.{go_on}
use Rattle.worked_rows.proofs.tables.histories.Goals as goal

pub returns-clause-of_a_call : goal.returns-clause-of_a_call
unfolding go_on
returns-clause-of_a_call c = (refl, refl, refl, refl, refl, refl, refl, refl, refl)

pub returns-clause-of_an_early_event : goal.returns-clause-of_an_early_event
unfolding go_on
returns-clause-of_an_early_event c = (refl, refl, refl, refl, refl)

pub returns-clause-of_a_timer : goal.returns-clause-of_a_timer
unfolding go_on
returns-clause-of_a_timer c = (refl, refl, refl, refl)

pub returns-clause-made_again : goal.returns-clause-made_again
unfolding go_on
returns-clause-made_again c = (refl, refl, refl, refl, refl, refl)
