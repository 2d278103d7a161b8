-- The bytes of a text in JSON are UTF-8.
use Rattle.flow_values.proofs.Texts.{invalid_fails}
use Rattle.flow_values.proofs.values.text_in.Goals as goal

pub returns-in-Err-NotUtf8 : goal.returns-in-Err-NotUtf8
returns-in-Err-NotUtf8 c =
    let fault = rw c.in-Err-NotUtf8.field-0-is at c.in-Err-NotUtf8.ensures.fault in
    rw (c.misshapen-in-Err-NotUtf8.ensures, ← c.as_bytes.ensures.value) (invalid_fails c.as_bytes.result.now _ fault.0 c.as_bytes.ensures.utf8)
