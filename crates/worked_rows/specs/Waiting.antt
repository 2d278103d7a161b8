-- The instance that waits for an event which nobody raises.
use Rattle.std.specs.Prelude.{◌≡◌, true, List, [], ◌∷◌, codes, Option, Some, None, is_some}
use Rattle.dura_value.specs.declared.data.Value.TheVariants as values
use Rattle.dura_value.specs.Ids.{Id, orchestration, client}
use Rattle.dura_value.specs.Messages.{start, wait, to_request, Message}
use Rattle.dura_model.specs.Legal.{after, Quiet}
use Rattle.dura_model.specs.World.{World, empty}
use Rattle.worked_rows.specs.Made.{message}
use Rattle.worked_rows.specs.Runs.GateWaits.{flows, run}

abbrev pub a : Id
a = client (codes "a")

abbrev pub gate : Id
gate = orchestration (codes "Gate") (codes "x")

abbrev pub first : Message
first = message a gate (start values.Null (to_request 1))

abbrev pub second : Message
second = message a gate (wait 2)

abbrev pub or_empty : Option World → World
or_empty None = empty
or_empty (Some w) = w

-- where the run comes to
abbrev pub waiting : World
waiting = or_empty (after flows run)

-- it comes there, and nothing is left to do
abbrev pub Waits : Type 0
Waits = (is_some (after flows run) ≡ true) × Quiet flows (first ∷ second ∷ []) waiting

-- before the second request was taken something is left
abbrev pub before : World
before = or_empty (after flows [])

abbrev pub IsAsked : Type 0
IsAsked = Quiet flows (first ∷ second ∷ []) before → ⊥
