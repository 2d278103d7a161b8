use Rattle.std.proofs.Common.{sym, ◌∙◌}
use Rattle.world_steps.proofs.Moved.{moved_ok, is_synced_there}
use Rattle.world_steps.proofs.gates.open_gate.Goals as goal

pub returns-clause-joined : goal.returns-clause-joined
returns-clause-joined g c = moved_ok g.M.Picked.rules c.args.part c.args.store.now c.gate.new.self c.gate.ensures.keeps c.gate.ensures.trail c.gate.ensures.frame c.gate.result _ (λ rests. c.gate.ensures.no_frame.1 (λ other. cc (rests, other)))

pub returns-clause-synced : goal.returns-clause-synced
returns-clause-synced g c = λ framed. is_synced_there _ (λ other. framed (c.gate.ensures.no_frame.1 other))
