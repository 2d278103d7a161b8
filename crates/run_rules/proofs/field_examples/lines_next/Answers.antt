use Rattle.std.proofs.Common.{◌≡◌, arith, ap, ◌∙◌}
use Rattle.request_reader.specs.Line.{Request}
use Rattle.run_rules.specs.Examples.{first_asked}
use Rattle.run_rules.proofs.field_examples.lines_next.Goals as goal

pub returns-clause-unmade : goal.returns-clause-unmade
returns-clause-unmade c = λ flows line may. cc may.made

pub returns-clause-number : goal.returns-clause-number
returns-clause-number c = λ flows line may.
    let first : first_asked ≡ may.request = cc may.next in
    let number : 1 ≡ 2 = ap (λ (r : Request). r.number) first ∙ may.number_is in
    omega (arith, number)
