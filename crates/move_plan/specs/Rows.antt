-- What worked rows say of plans.
use Rattle.std.specs.Prelude.{ℕ, List, Result, Ok}
use Rattle.move_plan.specs.declared.entries.Move.{Move}
use Rattle.move_plan.specs.declared.entries.Stop.{Stop}
use Rattle.move_plan.specs.declared.error.Place.{Place}
use Rattle.move_plan.specs.Plans.{Plan}

-- at this turn the partition goes to the node
abbrev pub going : (turn partition node : ℕ) → Move
going turn partition node = record { turn = turn; partition = partition; node = node }

-- at this turn the node stops
abbrev pub stopping : (turn node : ℕ) → Stop
stopping turn node = record { turn = turn; node = node }

-- these are read
abbrev pub plan_with : List Move → List Stop → Result Plan Place
plan_with moves stops = Ok (record { moves = moves; stops = stops })
