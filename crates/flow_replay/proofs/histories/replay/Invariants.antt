use Rattle.std.proofs.Common.{◌≡◌, drop, map, option_map}
use Rattle.dura_value.specs.Views.{id_of}
use Rattle.flow_syntax.specs.Machine.{new_machine, replayed}
use Rattle.flow_messages.specs.Views.{past_of}
use Rattle.flow_machine.specs.Views.{machine_of, body_of}
use Rattle.flow_replay.proofs.histories.replay.Given as goal

-- the machine so far, and the events that are left
abbrev pub invariant-loop-past : goal.invariant-loop-past
invariant-loop-past l =
    replayed (machine_of l.machine) (map past_of (map (λ past. past.now) (drop l.past-index l.history))) ≡ replayed (new_machine (id_of l.id) (option_map body_of l.body)) (map past_of (map (λ past. past.now) l.history))
