use Rattle.world_examples.proofs.Courses.{lacks_going, lacks_unsettled, lacks_silent, lacks_new, lacks_well, lacks_current, lacks_lives, lacks_settled, lacks_said}
use Rattle.world_examples.proofs.lives.facts_lacked_alone.Goals as goal

pub returns-clause-going : goal.returns-clause-going
returns-clause-going c = lacks_going

pub returns-clause-unsettled : goal.returns-clause-unsettled
returns-clause-unsettled c = lacks_unsettled

pub returns-clause-silent : goal.returns-clause-silent
returns-clause-silent c = λ mode nodes one steps marks. lacks_silent mode nodes steps marks one

pub returns-clause-new : goal.returns-clause-new
returns-clause-new c = λ mode nodes packet steps marks. lacks_new mode nodes steps marks packet

pub returns-clause-well : goal.returns-clause-well
returns-clause-well c = lacks_well

pub returns-clause-current : goal.returns-clause-current
returns-clause-current c = lacks_current

pub returns-clause-lives : goal.returns-clause-lives
returns-clause-lives c = lacks_lives

pub returns-clause-settled : goal.returns-clause-settled
returns-clause-settled c = lacks_settled

pub returns-clause-said : goal.returns-clause-said
returns-clause-said c = lacks_said
