use Rattle.std.proofs.Common.{◌∙◌, ap}
use Rattle.part_steps.proofs.Ending.{alone}
use Rattle.part_steps.proofs.applying.keep_event.Goals as goal

pub returns-clause-outputs : goal.returns-clause-outputs
returns-clause-outputs c = c.sent_alone.ensures ∙ ap alone c.in_ok-sent.ensures.sent
