-- Why rounds end.
use Rattle.std.specs.Prelude.{◌≡◌, ◌≤◌, ℕ, List}
use Rattle.client_port.specs.Ports.{Queue}
use Rattle.rest_check.specs.Rest.{IsAtRest}
use Rattle.engine_rounds.specs.declared.driving.End.{End}
use Rattle.engine_rounds.specs.declared.driving.End.TheVariants as ends
use Rattle.hub_store.specs.Trail.{Settled}
use Rattle.many_rules.specs.Rules.{Rules}
use Rattle.round_steps.specs.Labels.{settled_labels}

-- nothing is possible any more; or so many labels were settled, which are as many as there may be, or more, and something is possible still
abbrev pub EndsAs : Rules → (steps : ℕ) → List Settled → List Queue → End → Type 0
EndsAs rules steps trail queues ends.Rest = IsAtRest rules trail queues
EndsAs rules steps trail queues (ends.Long labels) = (labels ≡ settled_labels trail) × (steps ≤ labels) × (IsAtRest rules trail queues → ⊥)
