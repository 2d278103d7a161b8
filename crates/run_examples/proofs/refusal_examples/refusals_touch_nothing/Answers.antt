use Rattle.std.proofs.Common.{◌≡◌, [], ◌∷◌}
use Rattle.log_files.specs.Fronts.{AreSyncs}
use Rattle.run_examples.proofs.SyncsLeave.{syncs_leave}
use Rattle.run_examples.proofs.refusal_examples.refusals_touch_nothing.Goals as goal
use Rattle.site_model.specs.History.{on, wrote}

-- who syncs writes nothing
not_written : AreSyncs 1 [] (on 16 (wrote 0 1 (0 ∷ [])) ∷ []) → ⊥
not_written syncs = let wrong : 0 ∷ [] ≡ [] = syncs_leave 1 (on 16 (wrote 0 1 (0 ∷ [])) ∷ []) syncs in cc wrong

pub returns-clause-flows : goal.returns-clause-flows
returns-clause-flows c = λ same. cc same

pub returns-clause-requests : goal.returns-clause-requests
returns-clause-requests c = λ same. cc same

pub returns-clause-plan : goal.returns-clause-plan
returns-clause-plan c = λ same. cc same

pub returns-clause-long : goal.returns-clause-long
returns-clause-long c = λ same. cc same

pub returns-clause-clash : goal.returns-clause-clash
returns-clause-clash c = not_written

pub returns-clause-damaged : goal.returns-clause-damaged
returns-clause-damaged c = not_written

pub returns-clause-shape : goal.returns-clause-shape
returns-clause-shape c = not_written

pub returns-clause-other_flows : goal.returns-clause-other_flows
returns-clause-other_flows c = not_written

pub returns-clause-illegal : goal.returns-clause-illegal
returns-clause-illegal c = not_written

pub returns-clause-unclosed : goal.returns-clause-unclosed
returns-clause-unclosed c = not_written
