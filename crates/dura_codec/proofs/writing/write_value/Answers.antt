use Rattle.std.proofs.Common.{[], ◌∷◌}
use Rattle.dura_codec.proofs.Steps.{written, unwritten}
use Rattle.dura_codec.proofs.writing.write_value.Goals as goal

pub returns-in_err-push-in-Int : goal.returns-in_err-push-in-Int
returns-in_err-push-in-Int c = unwritten _ c.from_residual.result c.from_residual.ensures.0

pub returns-in_ok-push-in-Text : goal.returns-in_ok-push-in-Text
returns-in_ok-push-in-Text c = rw c.in-Text.is (written c.write_text.result c.args.out.now.items (4 ∷ []) c.push-in-Text.new.self.items _ c.write_text.new.out.items c.in_ok-push-in-Text.ensures.items c.write_text.ensures)

pub returns-in_err-push-in-Text : goal.returns-in_err-push-in-Text
returns-in_err-push-in-Text c = unwritten _ c.from_residual-in_err-push-in-Text.result c.from_residual-in_err-push-in-Text.ensures.0
