-- What the work of one call of a site adds to the events.
use Rattle.std.specs.Prelude.{◌≡◌, ℕ, ◌≤◌, List, ◌∷◌, length, take, Result, OnOk}
use Rattle.site_model.specs.History.{Step, on, wrote}
use Rattle.site_calls.specs.Events.{Event, Unseen, Standing, replay, IsHonest}

-- who is honest now was honest before
abbrev pub StaysHonest : List Event → List Event → Type 0
StaysHonest old new = (unseen : Unseen) → IsHonest unseen new → IsHonest unseen old

-- things stand as before
abbrev pub StandsStill : List Event → List Event → Type 0
StandsStill old new = (unseen : Unseen) → replay unseen new ≡ replay unseen old

-- this was noted, behind nothing but calls that changed nothing
pub record IsNoted (event : Event) (old new : List Event) : Type 0 where
  pub before : List Event
  pub newest : new ≡ event ∷ before
  pub still : StandsStill old before

-- one step more
abbrev pub stepped : Step → Standing → Standing
stepped step m = record m { steps = step ∷ m.steps }

-- One step more, a write of which these bytes are known.
pub record WritesOnce {T E : Type 0} (file at : ℕ) (bytes : List ℕ) (old new : Standing) (result : Result T E) : Type 0 where
  pub known : List ℕ
  pub no_longer : length known ≤ length bytes
  pub step : new ≡ stepped (on file (wrote at (length bytes) known)) old
  pub ok : OnOk result (known ≡ bytes)

-- The newest step is the write, of which these bytes are known, and the first ones are those that were asked for.
pub record IsWriting (file at : ℕ) (bytes : List ℕ) (done : ℕ) (old new : Standing) : Type 0 where
  pub known : List ℕ
  pub no_longer : length known ≤ length bytes
  pub front : take done known ≡ take done bytes
  pub step : new ≡ stepped (on file (wrote at (length bytes) known)) old
