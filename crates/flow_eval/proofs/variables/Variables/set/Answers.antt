use Rattle.std.proofs.Common.{◌≡◌, ◌∙◌, ◌∷◌, [], ◌++◌, ap, sym, rules}
use Rattle.std.proofs.Math.ListN.{set}
use Rattle.flow_syntax.specs.Eval.{Variables}
use Rattle.flow_eval.proofs.Places.{set_there, set_behind}
use Rattle.flow_eval.proofs.variables.Variables.set.Goals as goal

pub returns-in-Some-clause-ok : goal.returns-in-Some-clause-ok
returns-in-Some-clause-ok c =
    let now : c.match-index_mut.self ≡ set c.self.inside.set.items c.in-Some.place (c.args.name, c.args.value) = search rules in
    now ∙ ap (λ (l : Variables). set l c.in-Some.place (c.args.name, c.args.value)) c.self.view_is
    ∙ sym (set_there c.args.name c.args.value c.args.self.now c.in-Some.place c.in-Some.ensures)

pub returns-in_ok-push-in-None-clause-ok : goal.returns-in_ok-push-in-None-clause-ok
returns-in_ok-push-in-None-clause-ok c =
    c.in_ok-push-in-None.ensures.items ∙ ap (λ (l : Variables). l ++ (c.args.name, c.args.value) ∷ []) c.self.view_is
    ∙ sym (set_behind c.args.name c.args.value c.args.self.now c.in-None.ensures)
