-- What saying an answer leaves of the store.
use Rattle.std.specs.Prelude.{◌≡◌, ◌≤◌, ℕ, List, [], ◌∷◌, ◌++◌, Some, None, Ok, Err, Result}
use Rattle.cell_frames.specs.Joined.{StoreView}
use Rattle.gated_store.specs.declared.local.Gated as gated_types
use Rattle.gated_store.specs.declared.refusal.SayRefusal.{SayRefusal}
use Rattle.gated_store.specs.declared.refusal.SayRefusal.TheVariants as refusals
use Rattle.gated_store.specs.declared.store.GatedStore.{GatedStore}
use Rattle.hub_store.specs.Changes.{asked}
use Rattle.hub_store.specs.declared.start.Start as starts
use Rattle.many_rules.specs.Answering.{answer}
use Rattle.many_rules.specs.Rules.{Rules}
use Rattle.site_model.specs.declared.site.Site as sites

-- The line is said that answers the request as what is settled has it; or nothing has; or nothing is said for another cause.
abbrev pub SaysAs : Rules → (name : List ℕ) → (number : ℕ) → (old new : StoreView) → Result (Unit {0}) SayRefusal → Type 0
SaysAs rules name number old new (Ok done) =
    ((line : List ℕ) × (answer rules old.trail (asked name number) ≡ Some line)) × (new ≡ record old { told = old.told ++ asked name number ∷ [] })
SaysAs rules name number old new (Err refusals.NotAnswered) = (answer rules old.trail (asked name number) ≡ None) × (new ≡ old)
SaysAs rules name number old new (Err refusals.Memory) = new ≡ old
SaysAs rules name number old new (Err refusals.SayFault) = (new.trail ≡ old.trail) × (new.told ≡ old.told)

-- What saying an answer keeps, whatever it comes to: the length below which logs stay, how far each frame has come, and the latest moment. A site
-- that tells told before, and no count of faults falls: that of the tape may rise, and that of the disk stays.
pub record KeepsSaying {V L : Type 0} {G : sites.Ghosts V} {K : starts.Ghosts (gated_types.Gated L)} (old new : GatedStore V L G K) : Type 0 where
  pub tells : G.tells new.logs.site → G.tells old.logs.site
  pub segment : new.logs.segment ≡ old.logs.segment
  pub ways : new.logs.ways ≡ old.logs.ways
  pub latest : new.logs.latest ≡ old.logs.latest
  pub disk_faults : G.disk_faults new.logs.site ≡ G.disk_faults old.logs.site
  pub later : G.say_faults old.logs.site ≤ G.say_faults new.logs.site
