use Rattle.std.proofs.Common.{[], ◌∷◌}
use Rattle.dura_codec.proofs.Steps.{written, unwritten}
use Rattle.dura_codec.proofs.writing.write_reply.Goals as goal

pub returns-in-None : goal.returns-in-None
returns-in-None c = rw c.in-None.is c.write_byte.ensures

pub returns-in_ok-push-in-Task : goal.returns-in_ok-push-in-Task
returns-in_ok-push-in-Task c = rw c.in-Task.is (written c.write_u32.result c.args.out.now.items (1 ∷ []) c.push.new.self.items _ c.write_u32.new.out.items c.in_ok-push-in-Task.ensures.items c.write_u32.ensures)

pub returns-in_err-push-in-Task : goal.returns-in_err-push-in-Task
returns-in_err-push-in-Task c = unwritten _ c.from_residual.result c.from_residual.ensures.0

pub returns-in_ok-push-in-Request : goal.returns-in_ok-push-in-Request
returns-in_ok-push-in-Request c = rw c.in-Request.is (written c.write_u32-in-Request.result c.args.out.now.items (2 ∷ []) c.push-in-Request.new.self.items _ c.write_u32-in-Request.new.out.items c.in_ok-push-in-Request.ensures.items c.write_u32-in-Request.ensures)

pub returns-in_err-push-in-Request : goal.returns-in_err-push-in-Request
returns-in_err-push-in-Request c = unwritten _ c.from_residual-in_err-push-in-Request.result c.from_residual-in_err-push-in-Request.ensures.0
