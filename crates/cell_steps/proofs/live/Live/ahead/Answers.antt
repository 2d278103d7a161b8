use Rattle.std.proofs.Common.{◌≡◌, ◌-◌, List, length, slice_get, Some, option_copied, sym, subst}
use Rattle.cell_steps.proofs.Chains.{last_at}
use Rattle.cell_steps.specs.declared.step.Step.{Step}
use Rattle.cell_steps.proofs.live.Live.ahead.Goals as goal

pub returns-in-Some : goal.returns-in-Some
returns-in-Some c =
    sym (last_at c.args.self.now.base c.args.self.now.steps.items c.in-Some.step.now
    (sym (subst (λ (l : List Step). option_copied (Some c.in-Some.step) ≡ slice_get l (length l - 1)) c.deref.ensures.value c.in-Some.ensures.value)))
