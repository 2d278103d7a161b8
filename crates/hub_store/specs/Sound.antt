-- What holds of a store between its calls.
use Rattle.std.specs.Prelude.{◌≡◌, ◌≢◌, ℕ, ◌+◌, ◌<◌, ◌≤◌, Bool, false, List, [], length}
use Rattle.std.specs.List.{sum_by}
use Rattle.std.specs.Vec.{vec_len, vec_capacity}
use Rattle.site_model.specs.History.{Step, changes_of}
use Rattle.site_model.specs.declared.site.Site as sites
use Rattle.dura_value.specs.Items.{Entry}
use Rattle.hub_store.specs.Origin.{Origin, AreApart}
use Rattle.hub_store.specs.Trail.{Settled, Said, of_part}
use Rattle.hub_store.specs.Plain.{trail_of, told_of}
use Rattle.hub_store.specs.Moments.{StoreStands, StandsWith}
use Rattle.hub_store.specs.Runs.{Runs}
use Rattle.hub_store.specs.Short.{KeepsShort}
use Rattle.hub_store.specs.Ways.{way_of, due_in, LogFits}
use Rattle.hub_store.specs.declared.start.Start as starts
use Rattle.hub_store.specs.declared.way.Way.{Way}
use Rattle.hub_store.specs.declared.way.Way.TheVariants.{Away}
use Rattle.hub_store.specs.declared.store.Store.{Store}

module _ (MayFollow : List Settled → List Said → ℕ → List Entry → Type 0) (MaySay : List Settled → List Said → Said → List ℕ → Type 0) (o : Origin) where
  -- History and trail grew together, and each log stands as its way says. Where no line was cut, whole lines were said.
  pub record IsTold (now : List Step) (ways : List Way) (trail : List Settled) (told : List Said) (cut : Bool) : Type 0 where
    pub runs : Runs (StoreStands MayFollow MaySay o) o.steps now trail
    pub logs : (partition : ℕ) → partition < o.count → LogFits (o.logs partition) (of_part partition trail) (changes_of (o.logs partition).file now) (way_of ways partition)
    pub rests : cut ≡ false → StandsWith MayFollow MaySay o now trail told []

-- Each partition has a log of its own, none of which is taken out, the trail has room for the frames under way, no line was cut before a
-- call failed, and where the site tells, logs that were written stay below the segment's length, and all is told.
pub record IsSound {V N : Type 0} {G : sites.Ghosts V} {H : starts.Ghosts N} (store : Store V N G H) : Type 0 where
  pub count : length store.ways.items ≡ H.origin.count
  pub there : (partition : ℕ) → partition < H.origin.count → way_of store.ways.items partition ≢ Away
  pub apart : AreApart H.origin
  pub headers : (partition : ℕ) → partition < H.origin.count → (H.origin.logs partition).header.partition ≡ partition
  pub due : sum_by due_in store.ways.items ≡ store.due
  pub room : vec_len store.trail + store.due ≤ vec_capacity store.trail
  pub uncut : store.halted ≡ false → store.cut ≡ false
  pub short : G.tells store.site → (partition : ℕ) → partition < H.origin.count → KeepsShort store.segment (of_part partition (trail_of store.trail.items)) (way_of store.ways.items partition)
  pub told : G.tells store.site → IsTold (H.may_follow store.latest) H.may_say H.origin (G.history store.site) store.ways.items (trail_of store.trail.items) (told_of store.told.items) store.cut
