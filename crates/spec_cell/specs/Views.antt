-- A cell as its clauses see it.
use Rattle.std.specs.Prelude.{◌≡◌, ◌≤◌, ℕ, Bool, true, ◌^◌, ◌-◌, max, min, List, [], ◌++◌, length, take, drop, option_map, Option, Some, None, Ok}
use Rattle.std.specs.List.{All}
use Rattle.cell_tasks.specs.Tasks.{none_out}
use Rattle.cell_tasks.specs.declared.given_out.GivenOut.{GivenOut}
use Rattle.cell_waits.specs.Waits.{Waiting, MayWait, waits_of}
use Rattle.cell_waits.specs.Indices.{IsIndexed}
use Rattle.dura_model.specs.Entries.{placed, AllGiven}
use Rattle.dura_model.specs.Partition.{Partition}
use Rattle.dura_value.specs.Ids.{Id}
use Rattle.dura_value.specs.Items.{Entry}
use Rattle.flow_syntax.specs.Syntax.{Flows}
use Rattle.part_items.specs.ItemFits.{FitsEntry}
use Rattle.part_items.specs.Numbered.{Next, IsNumbered}
use Rattle.part_rows.specs.Timers.{AreDue}
use Rattle.part_steps.specs.States.{IsSound, state_of, count_of}
use Rattle.spec_cell.specs.Seats.{Slot}
use Rattle.cell_steps.specs.Steps.{AreSteps, last_of, entries_in}
use Rattle.spec_cell.specs.Tasks.{StandsAhead, given_by, without_settled}
use Rattle.cell_steps.specs.declared.live.Live.{Live}
use Rattle.cell_steps.specs.declared.round.Round.{Round}
use Rattle.cell_steps.specs.declared.round.Round.TheVariants as rounds
use Rattle.cell_steps.specs.declared.step.Step.{Step}

-- Its partition, what its seat shows, whether it has a state (memory didn't run out), the entries that aren't settled, the incarnation that makes entries, what waits, which tasks
-- were given out, the greatest moment that was handed in, how many of the first entries are in the frame that is out, the node that owns it, and which side of a
-- turn is first next. Its settled state and the state ahead are what its entries make.
pub record CellView : Type 0 where
  pub number : ℕ
  pub slot : Slot
  pub going : Bool
  pub entries : List Entry
  pub incarnation : ℕ
  pub waits : List Waiting
  pub given : Option GivenOut
  pub now : ℕ
  pub out : ℕ
  pub owner : ℕ
  pub round : Round

abbrev pub entries_of_live : Option Live → List Entry
entries_of_live None = []
entries_of_live (Some live) = entries_in live.steps.items

abbrev pub incarnation_of : Option Live → ℕ
incarnation_of None = 0
incarnation_of (Some live) = live.incarnation

abbrev pub waits_of_live : Option Live → List Waiting
waits_of_live None = []
waits_of_live (Some live) = waits_of live.waits

abbrev pub given_of_live : Option Live → Option GivenOut
given_of_live = option_map (λ live. live.given)

-- no state is of a later stamp than this
abbrev pub AreBy : ℕ → List Step → Type 0
AreBy now = All (λ s. (state_of s.after).stamp ≤ now)

-- The settled state is the state as it was recovered with what the seat has settled, each step makes its state of the one before, no
-- state is of a later stamp than both the recovered one's and the greatest moment that was handed in, and what waits may wait.
pub record Stands (flows : Flows) (count : ℕ) (begin : Partition) (mine : List Entry) (now out : ℕ) (live : Live) : Type 0 where
  pub base : placed flows count begin mine ≡ Ok (state_of live.base)
  pub sound : IsSound live.base
  pub partitions : count_of live.base ≡ count
  pub steps : AreSteps flows live.base live.steps.items
  pub younger : (state_of (last_of live.base live.steps.items)).incarnation ≤ live.incarnation
  pub room : (state_of (last_of live.base live.steps.items)).position ≤ 2 ^ 62
  pub low : live.incarnation ≤ 2 ^ 63
  pub base_by : (state_of live.base).stamp ≤ max begin.stamp now
  pub by : AreBy (max begin.stamp now) live.steps.items
  pub within : out ≤ length live.steps.items
  pub indexed : IsIndexed live.waits
  pub waits : All MayWait (waits_of live.waits)
  pub given : StandsAhead (state_of live.base) live.given

-- a cell whose memory ran out has no state
abbrev pub StandsIn : Flows → (count : ℕ) → (begin : Partition) → (mine : List Entry) → (now out : ℕ) → Option Live → Type 0
StandsIn flows count begin mine now out None = Unit {0}
StandsIn flows count begin mine now out (Some live) = Stands flows count begin mine now out live

-- ---- what its clauses say of its states

-- the settled state
abbrev pub IsBase : Flows → (count : ℕ) → (begin : Partition) → CellView → Partition → Type 0
IsBase flows count begin c base = placed flows count begin c.slot.mine ≡ Ok base

-- the state ahead: all entries make it
abbrev pub IsAhead : Flows → (count : ℕ) → (begin : Partition) → CellView → Partition → Type 0
IsAhead flows count begin c ahead = placed flows count begin (c.slot.mine ++ c.entries) ≡ Ok ahead

-- so many timers of the state ahead are due by a moment, counted up to the greatest number that there is
pub record CountsDue (flows : Flows) (count : ℕ) (begin : Partition) (c : CellView) (now found : ℕ) : Type 0 where
  pub ahead : Partition
  pub is_ahead : IsAhead flows count begin c ahead
  pub due : List (Id × ℕ)
  pub are_due : AreDue ahead.timers now due
  pub many : found ≡ min (length due) (2 ^ 64 - 1)

-- where a state's log goes on
abbrev pub next_at : Partition → Next
next_at p = record { position = p.position; incarnation = p.incarnation }

-- What is known of a cell that has a state.
pub record HasFacts (flows : Flows) (count : ℕ) (begin : Partition) (c : CellView) : Type 0 where
  pub base : Partition
  pub ahead : Partition
  -- what its seat has settled makes the settled state
  pub settled : IsBase flows count begin c base
  -- and the entries behind it are accepted there
  pub made : placed flows count base c.entries ≡ Ok ahead
  -- each outcome in them is one that its activity may give
  pub given : AllGiven flows count base c.entries
  -- they stand where the settled state goes on
  pub numbered : IsNumbered (next_at base) c.entries
  -- and are of no later incarnation than the cell
  pub younger : ahead.incarnation ≤ c.incarnation
  -- each of them can be written, and there is room behind them for the number of the next
  pub fit : All FitsEntry c.entries
  pub room : ahead.position ≤ 2 ^ 62
  -- no stamp is later than both the recovered one and the greatest moment that was handed in
  pub by : ahead.stamp ≤ max begin.stamp c.now
  -- those that are out are among them
  pub within : c.out ≤ length c.entries
  -- what waits may wait
  pub waits : All MayWait c.waits

-- ---- how it begins, and goes on

-- nothing is unsettled, nothing waits, no task is out, no moment was handed in, and no frame is out
abbrev pub IsNew : (number : ℕ) → Slot → (owner incarnation : ℕ) → CellView → Type 0
IsNew number slot owner incarnation c =
    (c ≡ record { number = number; slot = slot; going = true; entries = []; incarnation = incarnation; waits = []; given = c.given; now = 0; out = 0; owner = owner; round = rounds.Waits })
    × (given_by c.given ≡ none_out)

-- The settled state moved on by the first so many entries, which the seat has settled by now, and no frame is out. A task whose outcome
-- they have isn't out any more.
abbrev pub HasSettled : (n : ℕ) → Slot → (old new : CellView) → Type 0
HasSettled n slot old new = (new ≡ record old { slot = slot; entries = drop n old.entries; given = new.given; out = 0 })
    × (given_by new.given ≡ without_settled (given_by old.given) (take n old.entries))
