use Rattle.state_lines.specs.declared.error.ShowError.TheVariants.{Memory}
use Rattle.state_lines.proofs.OnTape.{nothing_said, by_error}
use Rattle.state_lines.proofs.row.say_line.Goals as goal

pub returns-in_err-line-clause-part : goal.returns-in_err-line-clause-part
returns-in_err-line-clause-part g c = by_error c.from_residual.result Memory _ c.from_residual.ensures.1 (nothing_said _ _)
