-- What saying an answer makes of the world.
use Rattle.std.proofs.Common.{◌≡◌, Bool, List, Result, Ok, Err, ap, subst, sym, ◌∙◌}
use Rattle.cell_frames.specs.Joined.{StoreView, view_of}
use Rattle.gated_store.specs.declared.local.Gated as gated_types
use Rattle.gated_store.specs.declared.refusal.SayRefusal.{SayRefusal}
use Rattle.gated_store.specs.declared.refusal.SayRefusal.TheVariants as refusals
use Rattle.gated_store.specs.declared.store.GatedStore.{GatedStore}
use Rattle.hub_store.specs.Ways.{way_of}
use Rattle.hub_store.specs.declared.start.Start as starts
use Rattle.log_items.specs.declared.items.Packet.{Packet}
use Rattle.many_rules.specs.Rules.{Rules}
use Rattle.site_model.specs.declared.site.Site as sites
use Rattle.spec_cell.specs.Views.{CellView}
use Rattle.spec_tracker.specs.declared.marks.Marks.{Marks}
use Rattle.world_core.specs.World.{world}
use Rattle.world_steps.specs.Says.{SaysAs, KeepsSaying}

module _ {V L : Type 0} {G : sites.Ghosts V} {K : starts.Ghosts (gated_types.Gated L)} (old new : GatedStore V L G K) (keeps : KeepsSaying old new) (cells : List CellView) (packets : List Packet) (marks : List Marks) (ended : Bool) where
  -- nothing but what the store shows is another
  pub said_world : (view : StoreView) → view_of new ≡ view → new.logs.halted ≡ old.logs.halted → new.logs.cut ≡ old.logs.cut → world new cells packets marks ended ≡ record (world old cells packets marks ended) { store = view }
  said_world view is halted cut = λ i. record {
    store = is i;
    halted = halted i;
    cut = cut i;
    segment = keeps.segment i;
    way = way_of (keeps.ways i).items;
    cells = cells;
    packets = packets;
    marks = marks;
    ended = ended;
  }

-- nothing is settled by it
pub says_trail : (rules : Rules) (name : List _) (number : _) (old new : StoreView) (r : Result (Unit {0}) SayRefusal) → SaysAs rules name number old new r → new.trail ≡ old.trail
says_trail rules name number old new (Ok done) says = ap (λ (s : StoreView). s.trail) says.1
says_trail rules name number old new (Err refusals.NotAnswered) says = ap (λ (s : StoreView). s.trail) says.1
says_trail rules name number old new (Err refusals.Memory) says = ap (λ (s : StoreView). s.trail) says
says_trail rules name number old new (Err refusals.SayFault) says = says.0

-- a call said this
pub says_by : (rules : Rules) (name : List _) (number : _) (old new : StoreView) (r : Result (Unit {0}) SayRefusal) (why this : SayRefusal) → r ≡ Err why → why ≡ this → SaysAs rules name number old new r → SaysAs rules name number old new (Err this)
says_by rules name number old new r why this is named says = subst (SaysAs rules name number old new) (is ∙ ap Err named) says

pub not_fault : (r : Result (Unit {0}) SayRefusal) (why : SayRefusal) → r ≡ Err why → why ≡ refusals.NotAnswered → r ≡ Err refusals.SayFault → ⊥
not_fault r why is named fault = cc (sym (is ∙ ap Err named) ∙ fault)
