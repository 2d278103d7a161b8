use Rattle.std.proofs.Common.{◌≡◌, inr, [], ◌∷◌, refl, arith}
use Rattle.run_examples.proofs.SyncsLeave.{syncs_leave}
use Rattle.run_examples.proofs.call_examples.refusals_touch_nothing.Goals as goal
use Rattle.site_model.specs.History.{on, wrote}

pub returns-clause-input : goal.returns-clause-input
returns-clause-input c = refl

pub returns-clause-synced : goal.returns-clause-synced
returns-clause-synced c = λ same. cc same

pub returns-clause-log : goal.returns-clause-log
returns-clause-log c = (0, omega arith, inr (omega arith, refl))

pub returns-clause-written : goal.returns-clause-written
returns-clause-written c = λ syncs. let wrong : 0 ∷ [] ≡ [] = syncs_leave 1 (on 16 (wrote 0 1 (0 ∷ [])) ∷ []) syncs in cc wrong
