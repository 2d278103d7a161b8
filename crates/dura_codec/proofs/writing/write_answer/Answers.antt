use Rattle.std.proofs.Common.{[], ◌∷◌}
use Rattle.dura_codec.proofs.Steps.{written, unwritten}
use Rattle.dura_codec.proofs.writing.write_answer.Goals as goal

pub returns-in_ok-push-in-Done : goal.returns-in_ok-push-in-Done
returns-in_ok-push-in-Done c = rw c.in-Done.is (written c.write_value.result c.args.out.now.items (0 ∷ []) c.push.new.self.items _ c.write_value.new.out.items c.in_ok-push-in-Done.ensures.items c.write_value.ensures)

pub returns-in_err-push-in-Done : goal.returns-in_err-push-in-Done
returns-in_err-push-in-Done c = unwritten _ c.from_residual.result c.from_residual.ensures.0

pub returns-in_ok-push-in-Failed : goal.returns-in_ok-push-in-Failed
returns-in_ok-push-in-Failed c = rw c.in-Failed.is (written c.write_text.result c.args.out.now.items (1 ∷ []) c.push-in-Failed.new.self.items _ c.write_text.new.out.items c.in_ok-push-in-Failed.ensures.items c.write_text.ensures)

pub returns-in_err-push-in-Failed : goal.returns-in_err-push-in-Failed
returns-in_err-push-in-Failed c = unwritten _ c.from_residual-in_err-push-in-Failed.result c.from_residual-in_err-push-in-Failed.ensures.0

pub returns-in_ok-push-in-Value : goal.returns-in_ok-push-in-Value
returns-in_ok-push-in-Value c = rw c.in-Value.is (written c.write_value-in-Value.result c.args.out.now.items (9 ∷ []) c.push-in-Value.new.self.items _ c.write_value-in-Value.new.out.items c.in_ok-push-in-Value.ensures.items c.write_value-in-Value.ensures)

pub returns-in_err-push-in-Value : goal.returns-in_err-push-in-Value
returns-in_err-push-in-Value c = unwritten _ c.from_residual-in_err-push-in-Value.result c.from_residual-in_err-push-in-Value.ensures.0
