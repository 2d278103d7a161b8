use Rattle.run_examples.proofs.NoLogs.{none_left_over}
use Rattle.many_logs.specs.Unplaced.{illegal, unclosed}
use Rattle.run_examples.proofs.recovery_examples.nothing_refused_without_logs.Goals as goal

pub returns-clause-damaged : goal.returns-clause-damaged
returns-clause-damaged c = λ flows digest file offset refuses. let wrong = refuses.refused in cc wrong

pub returns-clause-shape : goal.returns-clause-shape
returns-clause-shape c = λ flows digest found refuses. let wrong = refuses.refused.0 in cc wrong

pub returns-clause-other_flows : goal.returns-clause-other_flows
returns-clause-other_flows c = λ flows digest found refuses. let wrong = refuses.refused.0 in cc wrong

pub returns-clause-illegal : goal.returns-clause-illegal
returns-clause-illegal c = λ flows digest partition position refuses. none_left_over flows digest (illegal partition position) refuses

pub returns-clause-unclosed : goal.returns-clause-unclosed
returns-clause-unclosed c = λ flows digest partition position src seq refuses. none_left_over flows digest (unclosed partition position src seq) refuses
