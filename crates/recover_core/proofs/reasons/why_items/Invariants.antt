use Rattle.std.proofs.Common.{length, drop}
use Rattle.log_items.specs.Plain.{items_of}
use Rattle.part_steps.specs.States.{parts_in}
use Rattle.recover_core.proofs.FirstRefused.{HasTried}
use Rattle.recover_core.proofs.reasons.why_items.Given as goal

-- the items before this one are accepted
abbrev pub invariant-items : goal.invariant-items
invariant-items g l = HasTried (g.R.Reactions.flows l.reactions) (length l.states) (parts_in l.states) l.partition l.fn.state l.state (items_of l.items) (items_of (drop l.item-index l.items))
