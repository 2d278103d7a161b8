use Rattle.std.proofs.Common.{◌≡◌, ◌∙◌, inl, inr, [], ◌∷◌, refl, ap, arith}
use Rattle.run_examples.proofs.SyncsLeave.{syncs_leave}
use Rattle.run_examples.proofs.call_examples.shows.Goals as goal
use Rattle.site_model.specs.History.{reads}

pub returns-clause-nothing : goal.returns-clause-nothing
returns-clause-nothing c = record { mid = _; syncs = (0, omega arith, inl refl); files = λ file. refl }

pub returns-clause-synced : goal.returns-clause-synced
returns-clause-synced c = record { mid = _; syncs = (0, omega arith, inr (omega arith, refl)); files = λ file. refl }

pub returns-clause-written : goal.returns-clause-written
returns-clause-written c = λ nothing.
    let wrong : 0 ∷ [] ≡ [] = ap reads (nothing.files 16) ∙ syncs_leave 2 nothing.mid nothing.syncs in
    cc wrong

pub returns-clause-fault : goal.returns-clause-fault
returns-clause-fault c = λ files. refl

pub returns-clause-shown : goal.returns-clause-shown
returns-clause-shown c = λ files same. cc same

pub returns-clause-waiting : goal.returns-clause-waiting
returns-clause-waiting c = λ files number is. is
