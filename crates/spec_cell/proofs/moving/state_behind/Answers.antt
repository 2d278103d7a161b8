use Rattle.std.proofs.Common.{◌≡◌, ◌∙◌, ◌∷◌, ◌++◌, [], List, Option, option_to_list, sym, ap}
use Rattle.cell_steps.specs.Steps.{last_of}
use Rattle.cell_steps.specs.declared.step.Step.{Step}
use Rattle.cell_steps.proofs.Chains.{last_both}
use Rattle.spec_cell.proofs.moving.state_behind.Goals as goal

pub returns-in-Some : goal.returns-in-Some
returns-in-Some c =
    let split : c.args.steps.items ≡ c.pop.new.self.items ++ c.in-Some.last ∷ [] = c.pop.ensures.items ∙ ap (λ (o : Option Step). c.pop.new.self.items ++ option_to_list o) c.in-Some.is in
    sym (ap (λ (l : List Step). last_of c.args.base l) split ∙ last_both c.args.base c.pop.new.self.items (c.in-Some.last ∷ []))
