use Rattle.run_examples.proofs.Fit.{never_refuses}
use Rattle.run_examples.proofs.Unfit.{never_done}
use Rattle.run_causes.specs.declared.cause.Cause.TheVariants.{BadFlows, BadRequests, Clash, BadPlan, TooLong, Damaged, Illegal, Unclosed, OtherShape, OtherFlows}
use Rattle.run_causes.specs.declared.cause.FlowsFault.TheVariants as faults
use Rattle.run_causes.specs.declared.cause.PlanPlace.TheVariants as places
use Rattle.run_examples.proofs.refusal_examples.causes_of_files.Goals as goal
use Rattle.std.proofs.Common.{codes}

pub returns-clause-flows : goal.returns-clause-flows
returns-clause-flows c = λ old new trail comes. never_refuses old new trail (BadFlows faults.NotJson) tt comes

pub returns-clause-requests : goal.returns-clause-requests
returns-clause-requests c = λ old new trail comes. never_refuses old new trail (BadRequests 1) tt comes

pub returns-clause-plan : goal.returns-clause-plan
returns-clause-plan c = λ old new trail comes. never_refuses old new trail (BadPlan places.Whole) tt comes

pub returns-clause-long : goal.returns-clause-long
returns-clause-long c = λ old new trail comes. never_refuses old new trail (TooLong 0) tt comes

pub returns-clause-clash : goal.returns-clause-clash
returns-clause-clash c = λ old new trail comes. never_refuses old new trail (Clash (codes "a") 1) tt comes

pub returns-clause-damaged : goal.returns-clause-damaged
returns-clause-damaged c = λ old new trail comes. never_refuses old new trail (Damaged 16 0) tt comes

pub returns-clause-shape : goal.returns-clause-shape
returns-clause-shape c = λ old new trail comes. never_refuses old new trail (OtherShape 2 1) tt comes

pub returns-clause-other_flows : goal.returns-clause-other_flows
returns-clause-other_flows c = λ old new trail comes. never_refuses old new trail (OtherFlows 1 2) tt comes

pub returns-clause-illegal : goal.returns-clause-illegal
returns-clause-illegal c = λ old new trail comes. never_refuses old new trail (Illegal 0 0) tt comes

pub returns-clause-unclosed : goal.returns-clause-unclosed
returns-clause-unclosed c = λ old new trail comes. never_refuses old new trail (Unclosed 0 0 0 0) tt comes

pub returns-clause-done : goal.returns-clause-done
returns-clause-done c = never_done
