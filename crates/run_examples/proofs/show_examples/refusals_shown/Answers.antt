use Rattle.std.proofs.Common.{◌∙◌, refl, sym}
use Rattle.part_items.specs.Examples.{digest}
use Rattle.recover_core.specs.declared.error.RecoverError.TheVariants as errors
use Rattle.run_examples.specs.Calls.{one_asked}
use Rattle.run_examples.proofs.Ready.{other_first}
use Rattle.run_examples.proofs.Shown.{no_flows_there, no_refusal}
use Rattle.run_inputs.specs.Examples.{one_flow}
use Rattle.run_inputs.proofs.Computed.{flows_of_one, flows_refusal_one}
use Rattle.run_examples.proofs.show_examples.refusals_shown.Goals as goal

pub returns-clause-flows : goal.returns-clause-flows
returns-clause-flows c = (no_flows_there, refl)

pub returns-clause-flows_said : goal.returns-clause-flows_said
returns-clause-flows_said c = λ shows. cc shows.1

pub returns-clause-good_flows : goal.returns-clause-good_flows
returns-clause-good_flows c = λ shows. let wrong = sym flows_refusal_one ∙ shows.0 in cc wrong

pub returns-clause-long : goal.returns-clause-long
returns-clause-long c = λ shows. let wrong = sym flows_refusal_one ∙ shows.0 in cc wrong

pub returns-clause-other_flows : goal.returns-clause-other_flows
returns-clause-other_flows c = ((one_flow, one_asked.digest, record { accepted = flows_refusal_one; flows_in_file = flows_of_one; digest_of_file = refl }, other_first), refl)

pub returns-clause-other_flows_said : goal.returns-clause-other_flows_said
returns-clause-other_flows_said c = λ shows. cc shows.1

pub returns-clause-clash : goal.returns-clause-clash
returns-clause-clash c = λ files shows. shows

pub returns-clause-long_said : goal.returns-clause-long_said
returns-clause-long_said c = λ files shows. cc shows.1

pub returns-clause-damaged_said : goal.returns-clause-damaged_said
returns-clause-damaged_said c = λ files shows. cc shows.1

pub returns-clause-shape_said : goal.returns-clause-shape_said
returns-clause-shape_said c = λ files shows. cc shows.1

pub returns-clause-illegal_said : goal.returns-clause-illegal_said
returns-clause-illegal_said c = λ files shows. cc shows.1

pub returns-clause-unclosed_said : goal.returns-clause-unclosed_said
returns-clause-unclosed_said c = λ files shows. cc shows.1

pub returns-clause-good_log : goal.returns-clause-good_log
returns-clause-good_log c = λ shows. no_refusal (errors.OtherFlows digest one_asked.digest) tt shows.0

pub returns-clause-damaged : goal.returns-clause-damaged
returns-clause-damaged c = λ shows. no_refusal (errors.Damaged 16 0) tt shows.0

pub returns-clause-shape : goal.returns-clause-shape
returns-clause-shape c = λ shows. no_refusal (errors.OtherShape 2 1) tt shows.0

pub returns-clause-illegal : goal.returns-clause-illegal
returns-clause-illegal c = λ shows. no_refusal (errors.Illegal 0 0) tt shows.0

pub returns-clause-unclosed : goal.returns-clause-unclosed
returns-clause-unclosed c = λ shows. no_refusal (errors.Unclosed 0 0 0 0) tt shows.0

pub returns-clause-spent : goal.returns-clause-spent
returns-clause-spent c = λ files shows. shows
