use Rattle.std.proofs.Common.{◌∙◌, ◌++◌, ℕ, List, ◌%◌, ◌/◌, ◌-◌, ap, sym, [], ◌∷◌, append_assoc}
use Rattle.run_causes.specs.Causes.{hex_digit, hex_digits}
use Rattle.run_causes.proofs.LastDigit.{last_digit}
use Rattle.run_causes.proofs.digits.+write_last.Goals as goal

pub returns : goal.returns
returns t c =
    let digit = hex_digit (c.args.number % 16) ∷ [] in
    let front = hex_digits (c.args.count - 1) (c.args.number / 16) in
    c.in_ok-push.ensures.items ∙ ap (λ d. c.write_last.new.out.items ++ d ∷ []) c.digit_of.ensures ∙ ap (λ (xs : List ℕ). xs ++ digit) c.in_ok-write_last.ensures
    ∙ append_assoc c.args.out.now.items front digit ∙ ap (λ (xs : List ℕ). c.args.out.now.items ++ xs) (sym (last_digit c.args.count c.args.number c.if-count-eq0.false))
