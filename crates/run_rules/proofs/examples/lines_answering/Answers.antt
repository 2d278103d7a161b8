use Rattle.std.proofs.Common.{◌≡◌, Some, codes, refl, sym, ◌∙◌, ap, arith}
use Rattle.client_port.specs.Lines.{line_of}
use Rattle.dura_model.specs.Partition.{Partition, fresh}
use Rattle.dura_value.specs.Ids.{client}
use Rattle.dura_value.specs.Messages.{was_started}
use Rattle.request_reader.specs.Line.{Request}
use Rattle.run_rules.specs.Examples.{first_asked, then_asked, started}
use Rattle.run_rules.proofs.examples.lines_answering.Goals as goal

pub returns-clause-there : goal.returns-clause-there
returns-clause-there c = λ flows. record { state = started; made = refl; answer = was_started; has = refl; request = first_asked; next = refl; number_is = refl; line_is = refl }

pub returns-clause-only : goal.returns-clause-only
returns-clause-only c = λ flows line may.
    let state_is : started ≡ may.state = cc may.made in
    let has : started.answers (client (codes "a")) 1 ≡ Some may.answer = ap (λ (p : Partition). p.answers (client (codes "a")) 1) state_is ∙ may.has in
    let answer_is : was_started ≡ may.answer = cc has in
    may.line_is ∙ ap (line_of (codes "a") 1) (sym answer_is)

pub returns-clause-again : goal.returns-clause-again
returns-clause-again c = λ flows line may.
    let second : then_asked ≡ may.request = cc may.next in
    let number : 2 ≡ 1 = ap (λ (r : Request). r.number) second ∙ may.number_is in
    omega (arith, number)

pub returns-clause-nowhere : goal.returns-clause-nowhere
returns-clause-nowhere c = λ flows line may.
    let state_is : fresh 0 ≡ may.state = cc may.made in
    let has : (fresh 0).answers (client (codes "a")) 1 ≡ Some may.answer = ap (λ (p : Partition). p.answers (client (codes "a")) 1) state_is ∙ may.has in
    cc has
