use Rattle.std.proofs.Common.{◌∙◌}
use Rattle.dura_value.proofs.SameViews.{derived_message_eq}
use Rattle.recover_core.proofs.ready.is_same_message.Goals as goal

pub returns : goal.returns
returns c = c.eq.ensures ∙ derived_message_eq c.args.one.now c.args.other.now
