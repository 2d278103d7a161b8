use Rattle.round_steps.proofs.tasks.run_task.Goals as goal

pub returns-clause-joined : goal.returns-clause-joined
returns-clause-joined g c = λ s asked all. c.in_ok-record_at.ensures.joined s (λ serves. asked) all
