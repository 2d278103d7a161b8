use Rattle.std.proofs.Common.{◌≡◌, refl, ap, ◌∙◌, arith}
use Rattle.dura_value.specs.Messages.{was_started}
use Rattle.many_examples.specs.RulesBy.{answered_in, second_rules, first_asked, then_asked}
use Rattle.request_reader.specs.Line.{Request}
use Rattle.many_examples.proofs.rules_examples.lines_answering.Goals as goal

pub returns-clause-there : goal.returns-clause-there
returns-clause-there c = λ flows. record { states = answered_in 1; made = refl; answer = was_started; has = refl; next = λ serves. record { request = first_asked; asked = refl; number_is = refl }; line_is = refl }

pub returns-clause-unserved : goal.returns-clause-unserved
returns-clause-unserved c = λ flows. record { states = (second_rules flows).begin; made = refl; answer = was_started; has = refl; next = λ serves. cc serves; line_is = refl }

pub returns-clause-again : goal.returns-clause-again
returns-clause-again c = λ flows line a.
    let n = a.next refl in
    let same : then_asked ≡ n.request = cc n.asked in
    let number : 2 ≡ 1 = ap (λ (r : Request). r.number) same ∙ n.number_is in
    omega (arith, number)

pub returns-clause-number : goal.returns-clause-number
returns-clause-number c = λ flows line a.
    let n = a.next refl in
    let same : first_asked ≡ n.request = cc n.asked in
    let number : 1 ≡ 2 = ap (λ (r : Request). r.number) same ∙ n.number_is in
    omega (arith, number)
