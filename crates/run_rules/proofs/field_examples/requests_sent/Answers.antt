use Rattle.std.proofs.Common.{◌≡◌, ℕ, Bool, true, false, [], ◌∷◌, Some, cond, codes, refl, sym, ◌∙◌, ap, subst, arith}
use Rattle.std.specs.List.{slice_get}
use Rattle.std.specs.Str.{bytes_eq}
use Rattle.dura_value.specs.Messages.{Message}
use Rattle.request_reader.specs.Line.{Request}
use Rattle.run_rules.specs.Examples.{first_asked, then_asked, rules_with}
use Rattle.run_rules.specs.FieldExamples.{other_start}
use Rattle.run_rules.specs.Rules.{request_at}
use Rattle.run_rules.proofs.field_examples.requests_sent.Goals as goal

pub returns-clause-asked : goal.returns-clause-asked
returns-clause-asked c = λ flows. record { name = codes "a"; place = 0; request = first_asked; asked = refl; sends = refl; answered = omega arith }

-- whoever asks first asks for another start
apart : (mine : Bool) (asked : Request) → slice_get (cond mine (first_asked ∷ cond mine (then_asked ∷ []) []) (cond mine (then_asked ∷ []) [])) 0 ≡ Some asked → other_start ≡ asked.message → ⊥
apart true asked is sends =
    let first : first_asked ≡ asked = cc is in
    let same : other_start ≡ first_asked.message = sends ∙ ap (λ (r : Request). r.message) (sym first) in
    cc (ap (λ (m : Message). m.body) same)
apart false asked is sends = cc is

pub returns-clause-other : goal.returns-clause-other
returns-clause-other c = λ flows due.
    let first : due.place ≡ 0 = omega (arith, due.answered) in
    apart (bytes_eq (codes "a") due.name) due.request (subst (λ (place : ℕ). request_at (rules_with flows) due.name place ≡ Some due.request) first due.asked) due.sends
