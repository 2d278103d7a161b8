-- Where nothing is possible any more.
use Rattle.std.specs.Prelude.{◌≡◌, ℕ, true, is_some, List, length, Some, None}
use Rattle.std.specs.List.{All, slice_get}
use Rattle.client_port.specs.Clients.{clients_of}
use Rattle.client_port.specs.Ports.{Queue, due_of}
use Rattle.dura_model.specs.Partition.{Partition}
use Rattle.dura_value.specs.Ids.{Id, client, home}
use Rattle.hub_store.specs.Trail.{Settled}
use Rattle.many_rules.specs.Rules.{Rules}
use Rattle.part_steps.specs.States.{IsSound, count_of, state_of}
use Rattle.part_steps.specs.declared.state.PartState.{PartState}
use Rattle.request_reader.specs.Line.{Request}
use Rattle.rest_laws.specs.Rest.{AreAtRest}
use Rattle.spec_cell.specs.Views.{CellView, IsBase}
use Rattle.trail_states.specs.HaveMade.{HaveMade}

-- a request was taken, and isn't answered
abbrev pub IsAwaited : Partition → Id → (number : ℕ) → Type 0
IsAwaited p id number = (is_some (p.taken id number) ≡ true) × (p.answers id number ≡ None)

-- What was settled made states at rest: nothing is possible in any of them without a request, and nothing is on its way from one to another.
-- And what comes next of each client was taken, and isn't answered.
pub record IsAtRest (rules : Rules) (trail : List Settled) (queues : List Queue) : Type 0 where
  pub made : HaveMade rules trail
  pub rest : AreAtRest rules.count made.states
  pub awaited : All (λ name. (r : Request) → due_of name queues ≡ Some r → IsAwaited (made.states (home rules.count (client name))) (client name) r.number) (clients_of rules.requests)

-- ---- as cells have it

-- this is the settled state of a cell
pub record IsStateOfCell (rules : Rules) (c : CellView) (s : PartState) : Type 0 where
  pub sound : IsSound s
  pub among : count_of s ≡ rules.count
  pub base : IsBase rules.flows rules.count (rules.begin c.number) c (state_of s)

-- the settled states of these cells, in their order
pub record AreStatesOfCells (rules : Rules) (cells : List CellView) (states : List PartState) : Type 0 where
  pub many : length states ≡ length cells
  pub each : (p : ℕ) (s : PartState) → slice_get states p ≡ Some s → (c : CellView) × (slice_get cells p ≡ Some c) × IsStateOfCell rules c s

-- a client's request was taken, and isn't answered, by the settled state of this cell
abbrev pub IsAwaitedAt : Rules → CellView → Id → (number : ℕ) → Type 0
IsAwaitedAt rules c id number = (base : Partition) × IsBase rules.flows rules.count (rules.begin c.number) c base × IsAwaited base id number

-- and so was what comes next of a client, where something does
abbrev pub IsNextAwaitedAt : Rules → List CellView → List Queue → (name : List ℕ) → Type 0
IsNextAwaitedAt rules cells queues name = (c : CellView) → slice_get cells (home rules.count (client name)) ≡ Some c → (r : Request) → due_of name queues ≡ Some r → IsAwaitedAt rules c (client name) r.number

abbrev pub AreAwaitedAt : Rules → List CellView → List Queue → List (List ℕ) → Type 0
AreAwaitedAt rules cells queues = All (IsNextAwaitedAt rules cells queues)
