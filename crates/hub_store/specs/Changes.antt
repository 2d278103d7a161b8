-- What a call changes of a store.
use Rattle.std.specs.Prelude.{◌≡◌, ◌≢◌, ℕ, ◌≤◌, Bool, true, false, Option, Some, List, ◌++◌}
use Rattle.site_model.specs.Calls.{HasRisen}
use Rattle.site_model.specs.declared.site.Site as sites
use Rattle.dura_value.specs.Items.{Entry}
use Rattle.hub_store.specs.Trail.{Settled, Said, settling}
use Rattle.hub_store.specs.Plain.{trail_of, told_of}
use Rattle.hub_store.specs.Ways.{way_of, stage_of, going_in}
use Rattle.hub_store.specs.declared.start.Start as starts
use Rattle.hub_store.specs.declared.store.Store.{Store}
use Rattle.hub_store.specs.declared.way.Stage.{Stage}

-- a request by its client's name and its number
abbrev pub asked : List ℕ → ℕ → Said
asked client number = record { client = client; number = number }

module _ {V N : Type 0} {G : sites.Ghosts V} {H : starts.Ghosts N} where
  -- what was settled, and which requests were answered
  abbrev pub trail_in : Store V N G H → List Settled
  trail_in store = trail_of store.trail.items

  abbrev pub told_in : Store V N G H → List Said
  told_in store = told_of store.told.items

  -- how far the frame of a partition has come, and what it has
  abbrev pub stage_at : Store V N G H → ℕ → Stage
  stage_at store partition = stage_of (way_of store.ways.items partition)

  abbrev pub going_at : Store V N G H → ℕ → Option (List Entry)
  going_at store partition = going_in (way_of store.ways.items partition)

  -- the frames of the other partitions stay
  abbrev pub KeepsOthers : ℕ → Store V N G H → Store V N G H → Type 0
  KeepsOthers partition old new = (other : ℕ) → other ≢ partition → way_of new.ways.items other ≡ way_of old.ways.items other

  -- What a call on the frame of a partition keeps, whatever it answers: the frames of the others, what was said, the length that no log
  -- reaches, the latest moment, and whether a line was cut. A site that tells told before, and no count of faults falls: that of the disk
  -- may rise, and that of the tape stays.
  pub record KeepsStore (partition : ℕ) (old new : Store V N G H) : Type 0 where
    pub tells : G.tells new.site → G.tells old.site
    pub others : KeepsOthers partition old new
    pub said : told_in new ≡ told_in old
    pub segment : new.segment ≡ old.segment
    pub latest : new.latest ≡ old.latest
    pub whole : new.cut ≡ old.cut
    pub later : G.disk_faults old.site ≤ G.disk_faults new.site
    pub say_faults : G.say_faults new.site ≡ G.say_faults old.site

  -- What a call on all frames keeps, whatever it answers.
  pub record KeepsAll (old new : Store V N G H) : Type 0 where
    pub tells : G.tells new.site → G.tells old.site
    pub said : told_in new ≡ told_in old
    pub segment : new.segment ≡ old.segment
    pub latest : new.latest ≡ old.latest
    pub whole : new.cut ≡ old.cut
    pub later : G.disk_faults old.site ≤ G.disk_faults new.site
    pub say_faults : G.say_faults new.site ≡ G.say_faults old.site

-- the frame that was under way was settled at this moment
pub record Settles (tells : Type 0) (moment partition : ℕ) (going : Option (List Entry)) (old new : List Settled) : Type 0 where
  pub entries : List Entry
  pub at : ℕ
  pub frame : going ≡ Some entries
  pub now : tells → at ≡ moment
  pub trail : new ≡ old ++ settling partition at entries

-- the count of the disk's faults rose where the call failed, and only there
pub record HasHalted (before now : ℕ) (halted : Bool) : Type 0 where
  pub later : before ≤ now
  pub same : halted ≡ false → now ≡ before
  pub risen : halted ≡ true → HasRisen before now
