use Rattle.std.proofs.Common.{◌≡◌, inl, [], ◌∷◌, refl, arith}
use Rattle.run_examples.proofs.SyncsLeave.{syncs_leave, never_speaks}
use Rattle.run_examples.proofs.refusal_examples.refusals_leave_all.Goals as goal
use Rattle.site_model.specs.History.{on, wrote}

pub returns-clause-nothing : goal.returns-clause-nothing
returns-clause-nothing c = record { syncs = (0, omega arith, inl refl); nothing = refl }

pub returns-clause-synced : goal.returns-clause-synced
returns-clause-synced c = record { syncs = (1, omega arith, inl refl); nothing = refl }

pub returns-clause-written : goal.returns-clause-written
returns-clause-written c = λ leaves. let wrong : 0 ∷ [] ≡ [] = syncs_leave 1 (on 16 (wrote 0 1 (0 ∷ [])) ∷ []) leaves.syncs in cc wrong

pub returns-clause-spoken : goal.returns-clause-spoken
returns-clause-spoken c = λ leaves. never_speaks 1 97 [] leaves.syncs

pub returns-clause-settled : goal.returns-clause-settled
returns-clause-settled c = λ leaves. cc leaves.nothing
