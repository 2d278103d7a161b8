-- What settling a cell's frame leaves of what was read, and of what was settled.
use Rattle.std.proofs.Common.{◌≡◌, ◌⊎◌, inl, inr, true, false, Bool, ℕ, List, ◌++◌, append-nil, Vec, Global, Result, Ok, Some, slice_get, sym, ◌∙◌, ap, subst}
use Rattle.cell_frames.specs.Joined.{StoreView}
use Rattle.cell_frames.specs.Judges.{Judges}
use Rattle.cell_frames.specs.Owns.{Opens}
use Rattle.cell_frames.specs.Settles.{IsOnTrail, SettlesFrame}
use Rattle.cell_frames.specs.declared.owning.Reopened.{Reopened}
use Rattle.cell_frames.specs.declared.owning.Reopened.TheVariants as reopenings
use Rattle.cell_frames.specs.declared.settling.SettleRefusal.{SettleRefusal}
use Rattle.cell_steps.specs.declared.mode.Mode.{Mode}
use Rattle.log_items.specs.declared.items.Packet.{Packet}
use Rattle.many_rules.specs.Rules.{Rules}
use Rattle.spec_cell.specs.Views.{CellView}
use Rattle.spec_cell.specs.declared.moving.CellRewind.{CellRewind}
use Rattle.spec_tracker.specs.declared.marks.Marks.{Marks}
use Rattle.world_steps.specs.Cells.{CellBecomes}
use Rattle.world_core.specs.Reopens.{packets_in, IsReopened}
use Rattle.world_steps.specs.TakesOver.{TakesOver, CantTakeOver, TakenBy}
use Rattle.world_steps.specs.declared.taking_over.Taken.{Taken}
use Rattle.world_steps.specs.declared.taking_over.Taken.TheVariants as takings

-- a call said that it is settled, with these packets
pub settled_becomes : (rules : Rules) (p : ℕ) (mode : Mode) (old new : StoreView) (cells later : List CellView) (r : Result (Vec Packet Global) SettleRefusal) (packets : Vec Packet Global) → r ≡ Ok packets
    → CellBecomes p cells later (λ c after. SettlesFrame rules p mode old new c after r) → CellBecomes p cells later (λ c after. SettlesFrame rules p mode old new c after (Ok packets))
settled_becomes rules p mode old new cells later r packets is says = record { cell = says.cell; after = says.after; there = says.there; becomes = says.becomes; does = subst (SettlesFrame rules p mode old new says.cell says.after) is says.does }

-- a call said this of what it judged
pub judged_becomes : (rules : Rules) (p : ℕ) (marks : Marks) (old new : StoreView) (cells later : List CellView) (r k : CellRewind) → r ≡ k → CellBecomes p cells later (λ c after. Judges rules p marks old new c r after) → CellBecomes p cells later (λ c after. Judges rules p marks old new c k after)
judged_becomes rules p marks old new cells later r k is says = record { cell = says.cell; after = says.after; there = says.there; becomes = says.becomes; does = subst (λ (x : CellRewind). Judges rules p marks old new says.cell x says.after) is says.does }

-- ---- a log that was opened again

module _ (rules : Rules) (p : ℕ) (mode : Mode) (old new : StoreView) (c after : CellView) where
  -- nothing is settled by it, or the frame that was out
  pub opens_one : (r : Reopened) → Opens rules p mode old new c (Ok r) after → (new.trail ≡ old.trail) ⊎ IsOnTrail p old new c
  opens_one (reopenings.Settled packets) is = inr is.0
  opens_one reopenings.Dropped is = inl is.1

-- ---- taking over

module _ (rules : Rules) (mode : Mode) (p node : ℕ) (old new : StoreView) (cells later : List CellView) where
  pub done_becomes : (r : Taken) (reopened : Reopened) → r ≡ takings.Done reopened → CellBecomes p cells later (λ c after. TakenBy rules mode p node old new c r after) → CellBecomes p cells later (TakesOver rules mode p node old new reopened)
  done_becomes r reopened is says = record { cell = says.cell; after = says.after; there = says.there; becomes = says.becomes; does = subst (λ (x : Taken). TakenBy rules mode p node old new says.cell x says.after) is says.does }

  pub spent_becomes : (r : Taken) (reopened : Reopened) (number : ℕ) → r ≡ takings.Spent reopened number → CellBecomes p cells later (λ c after. TakenBy rules mode p node old new c r after) → CellBecomes p cells later (CantTakeOver rules mode p old new reopened number)
  spent_becomes r reopened number is says = record { cell = says.cell; after = says.after; there = says.there; becomes = says.becomes; does = subst (λ (x : Taken). TakenBy rules mode p node old new says.cell x says.after) is says.does }

  pub fault_takes_nothing : (r : Taken) → r ≡ takings.SiteFault → CellBecomes p cells later (λ c after. TakenBy rules mode p node old new c r after) → (new.trail ≡ old.trail) × (new.told ≡ old.told)
  fault_takes_nothing r is says = subst (λ (x : Taken). TakenBy rules mode p node old new says.cell x says.after) is says.does

  -- the frame that was out was settled, or nothing
  abbrev pub MaySettle : Type 0
  MaySettle = (new.trail ≡ old.trail) ⊎ ((c : CellView) × (slice_get cells p ≡ Some c) × IsOnTrail p old new c)

  its : (c : CellView) → slice_get cells p ≡ Some c → (new.trail ≡ old.trail) ⊎ IsOnTrail p old new c → MaySettle
  its c there (inl same) = inl same
  its c there (inr on) = inr (c, there, on)

  by_rest : (between : StoreView) (c : CellView) → new ≡ record between { floors = new.floors } → (between.trail ≡ old.trail) ⊎ IsOnTrail p old between c → (new.trail ≡ old.trail) ⊎ IsOnTrail p old new c
  by_rest between c rest (inl same) = inl (ap (λ (s : StoreView). s.trail) rest ∙ same)
  by_rest between c rest (inr on) = inr (record { at = on.at; trail = ap (λ (s : StoreView). s.trail) rest ∙ on.trail; rests = ap (λ (s : StoreView). s.stage p) rest ∙ on.rests })

  memory_settles : (r : Taken) → r ≡ takings.Memory → CellBecomes p cells later (λ c after. TakenBy rules mode p node old new c r after) → MaySettle
  memory_settles r is says = its says.cell says.there (subst (λ (x : Taken). TakenBy rules mode p node old new says.cell x says.after) is says.does)

  taken_settles : (reopened : Reopened) → CellBecomes p cells later (TakesOver rules mode p node old new reopened) → MaySettle
  taken_settles reopened says = its says.cell says.there (by_rest says.does.between says.cell says.does.rest (opens_one rules p mode old says.does.between says.cell says.does.mid reopened says.does.opens))

  spent_settles : (reopened : Reopened) (number : ℕ) → CellBecomes p cells later (CantTakeOver rules mode p old new reopened number) → MaySettle
  spent_settles reopened number says = its says.cell says.there (by_rest says.does.between says.cell says.does.rest (opens_one rules p mode old says.does.between says.cell says.does.mid reopened says.does.opens))

  -- whatever it came to
  pub may_settle_memory : (r : Taken) → r ≡ takings.Memory → CellBecomes p cells later (λ c after. TakenBy rules mode p node old new c r after) → MaySettle
  may_settle_memory = memory_settles

  pub may_settle_done : (r : Taken) (reopened : Reopened) → r ≡ takings.Done reopened → CellBecomes p cells later (λ c after. TakenBy rules mode p node old new c r after) → MaySettle
  may_settle_done r reopened is says = taken_settles reopened (done_becomes r reopened is says)

  pub may_settle_spent : (r : Taken) (reopened : Reopened) (number : ℕ) → r ≡ takings.Spent reopened number → CellBecomes p cells later (λ c after. TakenBy rules mode p node old new c r after) → MaySettle
  may_settle_spent r reopened number is says = spent_settles reopened number (spent_becomes r reopened number is says)

  -- a frame was settled by it
  pub owned_settled : (sent now : List Packet) (reopened : Reopened) (settled : Bool) → settled ≡ true → IsReopened sent now reopened settled → CellBecomes p cells later (TakesOver rules mode p node old new reopened)
      → (packets : Vec Packet Global) × (now ≡ sent ++ packets.items) × CellBecomes p cells later (TakesOver rules mode p node old new (reopenings.Settled packets))
  owned_settled sent now (reopenings.Settled packets) settled is noted says = (packets, noted.0, says)
  owned_settled sent now reopenings.Dropped settled is noted says = let both = sym is ∙ noted.1 in absurd (cc both)

  -- none was
  pub owned_dropped : (sent now : List Packet) (reopened : Reopened) (settled : Bool) → settled ≡ false → IsReopened sent now reopened settled → CellBecomes p cells later (TakesOver rules mode p node old new reopened)
      → (now ≡ sent) × CellBecomes p cells later (TakesOver rules mode p node old new reopenings.Dropped)
  owned_dropped sent now (reopenings.Settled packets) settled is noted says = let both = sym is ∙ noted.1 in absurd (cc both)
  owned_dropped sent now reopenings.Dropped settled is noted says = (noted.0, says)

-- what goes out by it was sent
pub reopened_packets : (sent now : List Packet) (reopened : Reopened) (settled : Bool) → IsReopened sent now reopened settled → now ≡ sent ++ packets_in reopened
reopened_packets sent now (reopenings.Settled packets) settled noted = noted.0
reopened_packets sent now reopenings.Dropped settled noted = noted.0 ∙ sym (append-nil sent)
