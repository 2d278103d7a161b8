use Rattle.std.proofs.Common.{◌≡◌, ◌∙◌, ap, sym, ℕ, List, get_or, Result, Ok}
use Rattle.dura_value.specs.declared.data.Value.{Value}
use Rattle.flow_syntax.specs.Eval.{Variables}
use Rattle.flow_eval.proofs.Places.{found, not_found}
use Rattle.flow_eval.proofs.variables.Variables.get.Goals as goal

pub returns-in-Some-clause-set : goal.returns-in-Some-clause-set
returns-in-Some-clause-set c =
    let one : List ℕ × Value = c.index.result.now in
    let second : (List ℕ × Value) → Result Value (List ℕ) = λ pair. Ok pair.1 in
    let there : one ≡ get_or c.args.self.now c.in-Some.place one = c.index.ensures ∙ ap (λ (l : Variables). get_or l c.in-Some.place one) c.self.view_is in
    found c.args.name.now c.args.self.now c.in-Some.place one c.in-Some.ensures ∙ ap second (sym there)

pub returns-in-None-clause-unset : goal.returns-in-None-clause-unset
returns-in-None-clause-unset c = not_found c.args.name.now c.args.self.now c.in-None.ensures
