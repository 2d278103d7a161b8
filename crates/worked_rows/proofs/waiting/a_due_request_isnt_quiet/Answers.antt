use Rattle.std.proofs.Common.{◌≡◌, false, [], ◌∷◌, refl}
use Rattle.worked_rows.specs.Waiting.{first, second, before}
use Rattle.dura_model.specs.Legal.{is_due}
use Rattle.worked_rows.proofs.waiting.a_due_request_isnt_quiet.Goals as goal

pub returns : goal.returns
returns c quiet = let due : is_due before [] first ≡ false = quiet.asked [] first (second ∷ []) refl in absurd cc
