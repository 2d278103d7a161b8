-- A history and a trail that grow together, with a claim that holds all the way.
use Rattle.std.specs.Prelude.{◌≡◌, List, [], ◌∷◌, ◌++◌, length}
use Rattle.std.specs.List.{All}
use Rattle.site_model.specs.History.{Step}
use Rattle.hub_store.specs.Trail.{Settled}

-- From this history on, which settled nothing, one step or a few entries came after another, these at the moment at which
-- they came, and behind each the claim holds.
pub data Runs (P : List Step → List Settled → Type 0) (begin : List Step) : List Step → List Settled → Type 0 where
  starts : P begin [] → Runs P begin begin []
  steps_on : {now : List Step} {trail : List Settled} (step : Step) → Runs P begin now trail → P (step ∷ now) trail → Runs P begin (step ∷ now) trail
  settles : {now : List Step} {trail : List Settled} (more : List Settled) → Runs P begin now trail → All (λ one. one.at ≡ length now) more → P now (trail ++ more) → Runs P begin now (trail ++ more)
