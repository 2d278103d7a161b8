use Rattle.std.proofs.Common.{◌∙◌, ap, sym}
use Rattle.dura_value.specs.Messages.{is_done, has_failed}
use Rattle.dura_model.specs.Deliveries.{standing}
use Rattle.flow_machine.specs.Views.{progress_of}
use Rattle.flow_steps.proofs.present.stand.Goals as goal

pub returns-in_ok-copy_value-in-Done : goal.returns-in_ok-copy_value-in-Done
returns-in_ok-copy_value-in-Done c = ap is_done c.in_ok-copy_value-in-Done.ensures ∙ ap (λ p. standing (progress_of p)) (sym c.in-Done.is)

pub returns-in_ok-copy_text-in-Failed : goal.returns-in_ok-copy_text-in-Failed
returns-in_ok-copy_text-in-Failed c = ap has_failed c.in_ok-copy_text-in-Failed.ensures ∙ ap (λ p. standing (progress_of p)) (sym c.in-Failed.is)
