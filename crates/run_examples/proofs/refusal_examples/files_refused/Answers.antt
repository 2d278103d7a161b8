use Rattle.run_examples.proofs.Fit.{fit_here, not_refused, asks_badly, stands_badly, clashes_badly}
use Rattle.run_examples.proofs.Ready.{refused_input, refused_logs, refused_clash}
use Rattle.run_examples.proofs.refusal_examples.files_refused.Goals as goal

pub returns-clause-fit : goal.returns-clause-fit
returns-clause-fit c = fit_here

pub returns-clause-not_refused : goal.returns-clause-not_refused
returns-clause-not_refused c = not_refused

pub returns-clause-input : goal.returns-clause-input
returns-clause-input c = refused_input

pub returns-clause-input_not_fit : goal.returns-clause-input_not_fit
returns-clause-input_not_fit c = asks_badly

pub returns-clause-logs : goal.returns-clause-logs
returns-clause-logs c = refused_logs

pub returns-clause-logs_not_fit : goal.returns-clause-logs_not_fit
returns-clause-logs_not_fit c = stands_badly

pub returns-clause-clash : goal.returns-clause-clash
returns-clause-clash c = refused_clash

pub returns-clause-clash_not_fit : goal.returns-clause-clash_not_fit
returns-clause-clash_not_fit c = clashes_badly
