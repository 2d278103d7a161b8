-- The plan of a file, or the first place that is wrong.
use Rattle.std.specs.Prelude.{◌≢◌, ℕ, zero, suc, ◌+◌, ◌<◌, ◌≤◌, ◌&&◌, ◌==◌, All, List, [], ◌∷◌, Bool, true, if◌then◌else◌, Option, Some, None, option_map, ok_or, Result, Ok, Err}
use Rattle.std.specs.List.{list_any}
use Rattle.std.specs.Option.{option_map_or}
use Rattle.serde_json.specs.Data.{Data, Items, no_items, item}
use Rattle.request_reader.specs.Json.{data_of}
use Rattle.move_plan.specs.declared.entries.Move.{Move}
use Rattle.move_plan.specs.declared.entries.Stop.{Stop}
use Rattle.move_plan.specs.declared.error.Place.{Place}
use Rattle.move_plan.specs.declared.error.Place.TheVariants as places
use Rattle.move_plan.specs.declared.plans.Plan.{Plan as OwnPlan}
use Rattle.move_plan.specs.Entries.{move_in, stop_in, lists_in}

-- the moves and the stops, each in the order of the file
pub record Plan : Type 0 where
  pub moves : List Move
  pub stops : List Stop

abbrev pub plan_of : OwnPlan → Plan
plan_of p = record { moves = p.moves.items; stops = p.stops.items }

infixl 10 ◌>>=◌
-- a step goes on with what was read, or ends with the place that is wrong
abbrev pub ◌>>=◌ : {X Y : Type 0} → Result X Place → (X → Result Y Place) → Result Y Place
(Ok x) >>= f = f x
(Err place) >>= f = Err place

-- ---- lists of entries

-- what the first entry is, before what the others are; or the place of the first that is nothing
abbrev pub with_first : {X : Type 0} → Option X → Result (List X) ℕ → Result (List X) ℕ
with_first None rest = Err 0
with_first (Some x) (Ok xs) = Ok (x ∷ xs)
with_first (Some x) (Err place) = Err (place + 1)

abbrev pub all_in : {X : Type 0} → (Data → Option X) → Items → Result (List X) ℕ
all_in read no_items = Ok []
all_in read (item d ds) = with_first (read d) (all_in read ds)

-- a place among the moves, or among the stops
abbrev pub at_place : {X : Type 0} → (ℕ → Place) → Result X ℕ → Result X Place
at_place list (Ok x) = Ok x
at_place list (Err place) = Err (list place)

-- ---- nodes that are stopped

-- whether all nodes below this number are among these
abbrev pub are_all : ℕ → List ℕ → Bool
are_all zero stopped = true
are_all (suc node) stopped = list_any (λ other. other == node) stopped && are_all node stopped

-- the place of the first stop after which all nodes are stopped, where these are before
abbrev pub all_stopped_at : ℕ → List ℕ → List Stop → Option ℕ
all_stopped_at nodes stopped [] = None
all_stopped_at nodes stopped (stop ∷ stops) = if are_all nodes (stop.node ∷ stopped) then Some 0 else option_map (λ place. place + 1) (all_stopped_at nodes (stop.node ∷ stopped) stops)

-- no stop is the one that leaves no node
abbrev pub where_a_node_is_left : ℕ → List Stop → Result (List Stop) Place
where_a_node_is_left nodes stops = option_map_or (λ place. Err (places.Stop place)) (all_stopped_at nodes [] stops) (Ok stops)

-- ---- the file

abbrev pub plan_of_lists : ℕ → ℕ → Items → Items → Result Plan Place
plan_of_lists partitions nodes moves stops =
    at_place places.Move (all_in (move_in partitions nodes) moves) >>= λ moves.
    at_place places.Stop (all_in (stop_in nodes) stops) >>= where_a_node_is_left nodes >>= λ stops.
    Ok (record { moves = moves; stops = stops })

abbrev pub plan_from : ℕ → ℕ → Data → Result Plan Place
plan_from partitions nodes d = ok_or (lists_in d) places.Whole >>= λ lists. plan_of_lists partitions nodes lists.0 lists.1

-- the plan that the bytes are, of a run of so many partitions and nodes
abbrev pub plan_in : ℕ → ℕ → List ℕ → Result Plan Place
plan_in partitions nodes bytes = ok_or (data_of bytes) places.Whole >>= plan_from partitions nodes

-- ---- what a plan that was read keeps

-- all is in range, and where the run has nodes one is left
pub record FitsRun (partitions nodes : ℕ) (plan : Plan) : Type 0 where
  pub moves : All (λ (m : Move). (1 ≤ m.turn) × (m.partition < partitions) × (m.node < nodes)) plan.moves
  pub stops : All (λ (s : Stop). (1 ≤ s.turn) × (s.node < nodes)) plan.stops
  pub left : 0 < nodes → (node : ℕ) × (node < nodes) × All (λ (s : Stop). s.node ≢ node) plan.stops
