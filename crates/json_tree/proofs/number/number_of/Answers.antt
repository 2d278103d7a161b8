-- A number without a minus is read from its first byte on.
use Rattle.std.proofs.Common.{◌≡◌, ◌∷◌, sym, ap, ◌∙◌, false, rules}
use Rattle.serde_json.specs.Read.{number_from, number_of}
use Rattle.json_tree.proofs.Numbers.{without_minus, of_nothing}
use Rattle.json_tree.proofs.number.number_of.Goals as goal

pub returns-else-first-eq45 : goal.returns-else-first-eq45
returns-else-first-eq45 c =
    let s = c.as_bytes-bytes.result.now in
    let is : s ≡ c.in-Some.first.now ∷ c.in-Some.digits.now = search rules in
    c.unsigned_of.ensures ∙ ap (number_from false) c.scan-else-first-eq45.ensures.parts ∙ sym (without_minus s c.in-Some.digits.now c.in-Some.first.now is c.if-first-eq45.false) ∙ ap number_of c.as_bytes-bytes.ensures.value

pub returns-in-None : goal.returns-in-None
returns-in-None c =
    let s = c.as_bytes-bytes.result.now in
    c.unsigned_of-in-None.ensures ∙ ap (number_from false) c.scan-in-None.ensures.parts ∙ sym (of_nothing s c.in-None.ensures.cases) ∙ ap number_of c.as_bytes-bytes.ensures.value
