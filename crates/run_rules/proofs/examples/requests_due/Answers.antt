use Rattle.std.proofs.Common.{◌≡◌, ℕ, Bool, true, false, [], ◌∷◌, Some, codes, cond, refl, sym, ◌∙◌, ap, subst, arith}
use Rattle.std.specs.List.{slice_get}
use Rattle.std.specs.Str.{bytes_eq}
use Rattle.dura_value.specs.Messages.{Message}
use Rattle.request_reader.specs.Line.{Request}
use Rattle.run_rules.specs.Examples.{waiting, first_asked, then_asked, rules_with}
use Rattle.run_rules.specs.Rules.{request_at}
use Rattle.run_rules.proofs.examples.requests_due.Goals as goal

pub returns-clause-first : goal.returns-clause-first
returns-clause-first c = λ flows. record { name = codes "a"; place = 0; request = first_asked; asked = refl; sends = refl; answered = omega arith }

pub returns-clause-second : goal.returns-clause-second
returns-clause-second c = λ flows. record { name = codes "a"; place = 1; request = then_asked; asked = refl; sends = refl; answered = omega arith }

-- whoever asks for the wait asks for it second
late : (mine : Bool) (asked : Request) → slice_get (cond mine (first_asked ∷ cond mine (then_asked ∷ []) []) (cond mine (then_asked ∷ []) [])) 0 ≡ Some asked → waiting ≡ asked.message → ⊥
late true asked is sends =
    let first : first_asked ≡ asked = cc is in
    let same : waiting ≡ first_asked.message = sends ∙ ap (λ (r : Request). r.message) (sym first) in
    cc (ap (λ (m : Message). m.body) same)
late false asked is sends = cc is

pub returns-clause-early : goal.returns-clause-early
returns-clause-early c = λ flows due.
    let first : due.place ≡ 0 = omega (arith, due.answered) in
    late (bytes_eq (codes "a") due.name) due.request (subst (λ (place : ℕ). request_at (rules_with flows) due.name place ≡ Some due.request) first due.asked) due.sends

pub returns-clause-unasked : goal.returns-clause-unasked
returns-clause-unasked c = λ flows told due. cc due.asked
