use Rattle.flow_eval.proofs.TextBytes.{whole}
use Rattle.flow_eval.proofs.texts.text_of.Goals as goal

pub unreachable-requires-in-Err-NotUtf8 : goal.unreachable-requires-in-Err-NotUtf8
unreachable-requires-in-Err-NotUtf8 c =
    let why = rw c.in-Err-NotUtf8.field-0-is at c.in-Err-NotUtf8.ensures.fault in
    whole c.args.bytes.now c.in-Err-NotUtf8.field-0-0 why.0 c.requires.0
