-- What a life leaves.
use Rattle.std.proofs.Common.{◌≡◌, ◌+◌, ◌∙◌, ℕ, List, [], ◌∷◌, Option, Some, None, refl, sym, ap, subst, length, length-append}
use Rattle.std.specs.Prelude.{IfSome}
use Rattle.cell_steps.specs.declared.mode.Mode.{Mode}
use Rattle.flow_syntax.specs.Syntax.{Flows}
use Rattle.many_rules.specs.Rules.{Rules}
use Rattle.open_logs.specs.Spent.{WhyUnopened}
use Rattle.open_logs.specs.declared.error.OpenError.{OpenError}
use Rattle.open_logs.specs.declared.error.OpenError.TheVariants as refusals
use Rattle.recover_core.specs.declared.error.RecoverError.TheVariants as errors
use Rattle.world_core.specs.World.{WorldView}
use Rattle.world_core.specs.declared.answer.Answer.{Answer}
use Rattle.world_lives.specs.Lives.{Lives, nothing, one_more}
use Rattle.world_lives.specs.declared.deed.Deed.{Deed}

-- there is an answer to each deed
pub all_answered : (rules : Rules) (mode : Mode) (nodes : ℕ) (first last : WorldView) (done : List Deed) (came : List Answer) → Lives rules mode nodes first done came last → length came ≡ length done
all_answered rules mode nodes first last done came nothing = refl
all_answered rules mode nodes first last done came (one_more {done = before} {came = told} {old = old} lives deed answer new does well) =
    length-append told (answer ∷ []) ∙ ap (λ (n : ℕ). n + 1) (all_answered rules mode nodes first old before told lives) ∙ sym (length-append before (deed ∷ []))

-- where memory ran out nothing is said of why
pub why_memory : (flows : Flows) (count digest : ℕ) (files : ℕ → List ℕ) (refused : Option OpenError) → IfSome refused (λ e. e ≡ refusals.Refused errors.Memory) → IfSome refused (WhyUnopened flows count digest files [])
why_memory flows count digest files None is = tt
why_memory flows count digest files (Some error) is = subst (WhyUnopened flows count digest files []) (sym is) tt
