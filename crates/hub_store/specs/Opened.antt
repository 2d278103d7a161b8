-- What a call begins with.
use Rattle.std.specs.Prelude.{◌≡◌, ℕ, ◌<◌, List, Some, Ok, slice_get}
use Rattle.site_model.specs.History.{Step, changes_of}
use Rattle.commit_log.specs.declared.states.Resting.{Resting}
use Rattle.commit_log.specs.Segment.{first_gate}
use Rattle.commit_log.specs.States.{IsResting}
use Rattle.part_items.specs.Kept.{first_of, decoded}
use Rattle.hub_store.specs.Origin.{Origin, AreApart}

-- each partition has a log of its own, whose payloads keep its entries
pub record IsOrigin (o : Origin) : Type 0 where
  pub apart : AreApart o
  pub headers : (partition : ℕ) → partition < o.count → (o.logs partition).header.partition ≡ partition
  pub kept : (partition : ℕ) → partition < o.count → decoded first_gate (first_of (o.logs partition).header) (o.logs partition).payloads ≡ Ok (o.logs partition).entries

-- this happened so far, and these logs rest as they were opened
pub record HasBegun (o : Origin) (steps : List Step) (logs : List Resting) : Type 0 where
  pub now : steps ≡ o.steps
  pub rests : (partition : ℕ) (log : Resting) → slice_get logs partition ≡ Some log
      → (log.file ≡ (o.logs partition).file) × IsResting (changes_of (o.logs partition).file steps) (o.logs partition).header (o.logs partition).payloads log.gate
