use Rattle.std.proofs.Common.{refl}
use Rattle.rest_laws.proofs.resting.are_at_rest.Goals as goal

pub returns-then-are_quiet : goal.returns-then-are_quiet
returns-then-are_quiet c = (
  λ is. record { quiet = c.if-are_quiet.ensures.0 refl; read = λ source reader low below. c.is_all_read.ensures.0 is source low reader below },
  λ rest. c.is_all_read.ensures.1 (λ source low reader below. rest.read source reader low below),
)
