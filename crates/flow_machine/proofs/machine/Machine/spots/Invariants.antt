use Rattle.std.proofs.Common.{◌≡◌, drop, map}
use Rattle.dura_value.specs.Views.{spots_of}
use Rattle.flow_syntax.specs.Views.{locked_of}
use Rattle.flow_syntax.specs.Machine.{eval_spots}
use Rattle.flow_machine.specs.Views.{machine_of}
use Rattle.flow_messages.proofs.AllValues.{behind}
use Rattle.flow_machine.proofs.machine.Machine.spots.Given as goal

-- the entities so far, and those of the rest
abbrev pub invariant-loop-one : goal.invariant-loop-one
invariant-loop-one l =
    behind (spots_of l.spots.items) (eval_spots (machine_of l.self).variables (map locked_of (drop l.one-index l.entities))) ≡ eval_spots (machine_of l.self).variables (map locked_of l.entities)
