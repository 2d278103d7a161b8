use Rattle.std.proofs.Common.{sym, ◌∙◌}
use Rattle.world_steps.proofs.Moved.{moved_ok, is_bodied_there}
use Rattle.world_steps.proofs.gates.sync_frame.Goals as goal

pub returns-clause-joined : goal.returns-clause-joined
returns-clause-joined g c = moved_ok g.M.Picked.rules c.args.part c.args.store.now c.sync_body.new.self c.sync_body.ensures.keeps c.sync_body.ensures.trail c.sync_body.ensures.frame c.sync_body.result _ (λ rests. c.sync_body.ensures.no_frame.1 (λ other. cc (rests, other)))

pub returns-clause-bodied : goal.returns-clause-bodied
returns-clause-bodied g c = λ framed. is_bodied_there _ (λ other. framed (c.sync_body.ensures.no_frame.1 other))
