use Rattle.std.proofs.Common.{subst, arith}
use Rattle.dura_value.specs.Text.{IsText}
use Rattle.cli_call.proofs.Words.{word_at}
use Rattle.cli_call.proofs.call.words_of.Goals as goal

pub returns-in-Err-clause-usage : goal.returns-in-Err-clause-usage
returns-in-Err-clause-usage c = λ failed texts.
    c.in-Err.ensures.usage (cc) (subst IsText (cc) (word_at c.args.arguments.now c.loop-argument.argument-index c.argument-item.result (omega (arith)) c.argument-item.is texts))
