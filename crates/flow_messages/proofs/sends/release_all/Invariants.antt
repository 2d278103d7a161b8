use Rattle.std.proofs.Common.{◌≡◌, ◌++◌, drop}
use Rattle.dura_value.specs.Views.{id_of, spots_of, messages_of}
use Rattle.flow_syntax.specs.Machine.{releasing}
use Rattle.flow_messages.proofs.sends.release_all.Given as goal

-- the messages so far, and the releases of the rest
abbrev pub invariant-loop-spot : goal.invariant-loop-spot
invariant-loop-spot l =
    messages_of l.messages.items ++ releasing (id_of l.id) (spots_of (drop l.spot-index l.set)) ≡ messages_of l.initial.messages.items ++ releasing (id_of l.id) (spots_of l.set)
