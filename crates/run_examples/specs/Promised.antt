-- Calls to look at by what they promise, of a site that tells, and of one that doesn't.
use Rattle.std.specs.Prelude.{ℕ, List}
use Rattle.engine_run.specs.Promises.{Promises}
use Rattle.hub_store.specs.Trail.{Settled}
use Rattle.run_causes.specs.declared.cause.Cause.{Cause}
use Rattle.run_examples.specs.Calls.{unheard}
use Rattle.site_model.specs.History.{Step}

abbrev pub Keeps : List (List ℕ) → (old new : List Step) → List Settled → Cause → Type 0
Keeps words old new trail cause = Promises words (Unit {0}) old new unheard trail cause

abbrev pub KeepsUntold : List (List ℕ) → (old new : List Step) → List Settled → Cause → Type 0
KeepsUntold words old new trail cause = Promises words ⊥ old new unheard trail cause
