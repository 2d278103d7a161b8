use Rattle.std.proofs.Common.{◌≡◌, ◌∙◌, inl, inr, [], codes, None, refl, sym}
use Rattle.cluster_run.proofs.Ends.{never_usage}
use Rattle.run_examples.proofs.call_examples.runs_come_to.Goals as goal
use Rattle.run_inputs.proofs.Computed.{refusal_plan}
use Rattle.run_inputs.specs.Examples.{three_files}
use Rattle.run_inputs.specs.Refusal.{refusal_of}

-- the plan is refused
not_accepted : refusal_of 1 1 (three_files (codes "{}") [] (codes "[]")) ≡ None → ⊥
not_accepted is = let wrong = sym refusal_plan ∙ is in cc wrong

pub returns-clause-theirs : goal.returns-clause-theirs
returns-clause-theirs c = inl (record { why = refusal_plan; same = refl; nothing = refl })

pub returns-clause-other : goal.returns-clause-other
returns-clause-other c = λ comes. elim comes [
  | inl read ↦ (let wrong = sym refusal_plan ∙ read.why in cc wrong)
  | inr further ↦ elim further [ inl opened ↦ not_accepted opened.asks.accepted | inr served ↦ not_accepted served.asks.accepted ]
]

pub returns-clause-usage : goal.returns-clause-usage
returns-clause-usage c = λ options files comes. never_usage options _ _ _ _ _ _ comes

pub returns-clause-waiting : goal.returns-clause-waiting
returns-clause-waiting c = λ comes. elim comes [
  | inl read ↦ read.why
  | inr further ↦ elim further [ inl opened ↦ not_accepted opened.asks.accepted | inr served ↦ not_accepted served.asks.accepted ]
]

pub returns-clause-memory : goal.returns-clause-memory
returns-clause-memory c = λ options files. inl (record { why = tt; same = refl; nothing = refl })

pub returns-clause-spoken : goal.returns-clause-spoken
returns-clause-spoken c = λ comes. elim comes [
  | inl read ↦ cc read.same
  | inr further ↦ elim further [ inl opened ↦ not_accepted opened.asks.accepted | inr served ↦ not_accepted served.asks.accepted ]
]

pub returns-clause-settled : goal.returns-clause-settled
returns-clause-settled c = λ comes. elim comes [
  | inl read ↦ cc read.nothing
  | inr further ↦ elim further [ inl opened ↦ not_accepted opened.asks.accepted | inr served ↦ not_accepted served.asks.accepted ]
]
