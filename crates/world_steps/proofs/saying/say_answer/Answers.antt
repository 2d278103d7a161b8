use Rattle.cell_frames.specs.Joined.{view_of}
use Rattle.world_steps.proofs.Said.{says_joined}
use Rattle.world_steps.proofs.saying.say_answer.Goals as goal

pub say_line-said-requires-clause-answer : goal.say_line-said-requires-clause-answer
say_line-said-requires-clause-answer g c = c.in-Ok.ensures.line (view_of c.args.store.now) c.requires.joined

pub returns-clause-joined : goal.returns-clause-joined
returns-clause-joined g c = λ apart.
    says_joined g.M.Picked.rules c.args.client.now c.args.number (view_of c.args.store.now) (view_of c.say_line-said.new.store) c.say_line-said.result c.args.cells.now.items c.say_line-said.ensures.says apart c.requires.joined
