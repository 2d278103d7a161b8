use Rattle.std.proofs.Common.{subst}
use Rattle.dura_value.specs.Text.{Explains}
use Rattle.cli_call.proofs.Words.{not_utf8}
use Rattle.cli_call.proofs.call.word_of.Goals as goal

pub returns-in-Err-NotUtf8-clause-usage : goal.returns-in-Err-NotUtf8-clause-usage
returns-in-Err-NotUtf8-clause-usage c = λ _ text.
    let fault = subst (λ error. Explains c.args.argument.now error) c.in-Err-NotUtf8.field-0-is (subst (λ bytes. Explains bytes c.in-Err-NotUtf8.field-0) c.as_bytes.ensures.value c.in-Err-NotUtf8.ensures.fault) in
    not_utf8 c.args.argument.now c.in-Err-NotUtf8.field-0-0 fault.0 text.0
