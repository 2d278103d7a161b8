-- What a call leaves of a store, one step after another.
use Rattle.std.proofs.Common.{◌≡◌, ◌∙◌, ℕ, false, List, length, Result, Ok, Err, refl, sym, ap, subst, arith}
use Rattle.cell_frames.specs.Joined.{StoreView, view_of}
use Rattle.client_port.specs.Ports.{Queue}
use Rattle.round_steps.specs.Serving.{GoesOn, HasSaid, IsServing}
use Rattle.gated_store.specs.declared.local.Gated as gated_types
use Rattle.gated_store.specs.declared.refusal.SayRefusal.{SayRefusal}
use Rattle.gated_store.specs.declared.refusal.SayRefusal.TheVariants as refusals
use Rattle.gated_store.specs.declared.store.GatedStore.{GatedStore}
use Rattle.hub_store.specs.Changes.{KeepsAll, trail_in, told_in}
use Rattle.hub_store.specs.Origin.{Origin}
use Rattle.hub_store.specs.Trail.{Said}
use Rattle.hub_store.specs.declared.start.Start as starts
use Rattle.many_rules.specs.Rules.{Rules}
use Rattle.node_core.proofs.Frames.{short_cells}
use Rattle.node_core.proofs.Growing.{grows_on_not, grows_on_then, grows_same}
use Rattle.node_core.proofs.Steps.{cells_run}
use Rattle.node_core.specs.Growing.{GrowsOn}
use Rattle.node_core.specs.Running.{IsRunning, Keeps}
use Rattle.site_model.specs.declared.site.Site as sites
use Rattle.spec_cell.specs.Views.{CellView}
use Rattle.world_steps.specs.Cells.{AllJoined}
use Rattle.world_steps.specs.Says.{KeepsSaying, SaysAs}

module _ {V L : Type 0} {G : sites.Ghosts V} {K : starts.Ghosts (gated_types.Gated L)} (rules : Rules) where
  pub goes_not : (s : GatedStore V L G K) → GoesOn rules s s
  goes_not s = record { tells = λ t. t; segment = refl; latest = omega arith; disk_faults = omega arith; say_faults = omega arith; grows = grows_on_not rules s }

  pub goes_then : (a b c : GatedStore V L G K) → GoesOn rules a b → GoesOn rules b c → GoesOn rules a c
  goes_then a b c first then = record {
    tells = λ t. first.tells (then.tells t);
    segment = then.segment ∙ first.segment;
    latest = let one = first.latest in let two = then.latest in omega (arith, one, two);
    disk_faults = let one = first.disk_faults in let two = then.disk_faults in omega (arith, one, two);
    say_faults = let one = first.say_faults in let two = then.say_faults in omega (arith, one, two);
    grows = grows_on_then rules a b c first.grows then.grows;
  }

  -- a call on frames
  pub goes_kept : (old new : GatedStore V L G K) → KeepsAll old.logs new.logs → GrowsOn rules old new → GoesOn rules old new
  goes_kept old new keeps grows = record {
    tells = keeps.tells;
    segment = keeps.segment;
    latest = let same = keeps.latest in omega (arith, same);
    disk_faults = keeps.later;
    say_faults = let same = keeps.say_faults in omega (arith, same);
    grows = grows;
  }

  -- an answer that is said
  pub goes_saying : (old new : GatedStore V L G K) → KeepsSaying old new → trail_in new.logs ≡ trail_in old.logs → GoesOn rules old new
  goes_saying old new keeps trail = record {
    tells = keeps.tells;
    segment = keeps.segment;
    latest = let same = keeps.latest in omega (arith, same);
    disk_faults = let same = keeps.disk_faults in omega (arith, same);
    say_faults = keeps.later;
    grows = record { grows = grows_same rules old.logs.latest new.logs.latest (trail_in old.logs) (trail_in new.logs) (let same = keeps.latest in omega (arith, same)) trail };
  }

module _ {V L : Type 0} {G : sites.Ghosts V} {K : starts.Ghosts (gated_types.Gated L)} where
  -- nothing is settled by it
  pub said_trail : (rules : Rules) (name : List ℕ) (number : ℕ) (old new : GatedStore V L G K) (result : Result (Unit {0}) SayRefusal) → SaysAs rules name number (view_of old) (view_of new) result → trail_in new.logs ≡ trail_in old.logs
  said_trail rules name number old new (Ok done) says = ap (λ (s : StoreView). s.trail) says.1
  said_trail rules name number old new (Err refusals.NotAnswered) says = ap (λ (s : StoreView). s.trail) says.1
  said_trail rules name number old new (Err refusals.Memory) says = ap (λ (s : StoreView). s.trail) says
  said_trail rules name number old new (Err refusals.SayFault) says = says.0

  -- cells changed that stay joined to the store
  pub cells_serve : (o : Origin) (rules : Rules) (store : GatedStore V L G K) (old new : List CellView) (queues : List Queue) → IsServing o rules store old queues → length new ≡ length old → ((s : StoreView) → AllJoined rules s old → AllJoined rules s new)
      → IsServing o rules store new queues
  cells_serve o rules store old new queues serving many joined = record { running = cells_run o rules store old new serving.running many joined; said = serving.said }

  pub serves_on : (o : Origin) (rules : Rules) (store : GatedStore V L G K) (old new : List CellView) (queues : List Queue) → IsServing o rules store old queues → length new ≡ length old → AllJoined rules (view_of store) new → IsServing o rules store new queues
  serves_on o rules store old new queues serving many joined = record {
    running = let r = serving.running in record { begun = r.begun; serves = r.serves; some = r.some; few = r.few; many = many ∙ r.many; short = short_cells rules (view_of store) old new many r.joined joined r.short; kept = r.kept; still = r.still; whole = r.whole; joined = joined };
    said = serving.said;
  }

  -- nothing was said
  pub still_serve : (o : Origin) (rules : Rules) (old new : GatedStore V L G K) (cells later : List CellView) (queues : List Queue) → told_in new.logs ≡ told_in old.logs → IsServing o rules old cells queues → IsRunning o rules new later → IsServing o rules new later queues
  still_serve o rules old new cells later queues told serving running = record { running = running; said = subst (λ (told : List Said). HasSaid rules.requests told queues) (sym told) serving.said }

-- ---- an answer that is said

module _ {V L : Type 0} {G : sites.Ghosts V} {K : starts.Ghosts (gated_types.Gated L)} where
  -- the port has said what was told by then
  pub said_serve : (o : Origin) (rules : Rules) (old new : GatedStore V L G K) (cells : List CellView) (queues later : List Queue) → IsServing o rules old cells queues → Keeps o rules new → new.logs.halted ≡ false → new.logs.cut ≡ old.logs.cut → AllJoined rules (view_of new) cells
      → HasSaid rules.requests (told_in new.logs) later → IsServing o rules new cells later
  said_serve o rules old new cells queues later serving kept still cut joined said =
      let r = serving.running in
      record { running = record { begun = r.begun; serves = r.serves; some = r.some; few = r.few; many = r.many; short = r.short; kept = kept; still = still; whole = cut ∙ r.whole; joined = joined }; said = said }

  -- nothing was said
  pub unsaid_serve : (o : Origin) (rules : Rules) (old new : GatedStore V L G K) (cells : List CellView) (queues : List Queue) → IsServing o rules old cells queues → Keeps o rules new → new.logs.halted ≡ false → new.logs.cut ≡ old.logs.cut → AllJoined rules (view_of new) cells
      → told_in new.logs ≡ told_in old.logs → IsServing o rules new cells queues
  unsaid_serve o rules old new cells queues serving kept still cut joined told =
      said_serve o rules old new cells queues queues serving kept still cut joined (subst (λ (l : List Said). HasSaid rules.requests l queues) (sym told) serving.said)
