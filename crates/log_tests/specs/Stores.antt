-- Stores of the one partition, where any frame and any line may follow.
use Rattle.std.specs.Prelude.{◌≡◌, ℕ, false, List, [], ◌∷◌, Option, Some, None, Result, Ok, Err}
use Rattle.site_model.specs.declared.site.Site as sites
use Rattle.commit_log.specs.declared.header.Header.{Header}
use Rattle.dura_value.specs.Items.{Item, trim, Entry}
use Rattle.part_items.specs.Numbered.{Next}
use Rattle.hub_store.specs.declared.start.Start as starts
use Rattle.hub_store.specs.declared.store.Store.{Store}
use Rattle.hub_store.specs.Trail.{Settled, Said, of_part}
use Rattle.hub_store.specs.Changes.{trail_in, going_at}
use Rattle.hub_store.specs.Frames.{goes_on}
use Rattle.hub_store.specs.Sound.{IsSound}

-- an empty segment of partition 0 of 1, whose flows file holds `{}`
abbrev pub header : Header
header = record { partition = 0; partitions = 1; digest = 0x08F44B07B5901A25; base = 0 }

-- the stream to partition 2 is let go before number 5: the entry 4 of its incarnation 3 has the one before that
abbrev pub letting_go : Item
letting_go = trim (record { partition = 2; incarnation = 3; position = 4 }) 5

-- the entry at this position that does so
abbrev pub trimming : (position : ℕ) → Entry
trimming position = record { position = position; incarnation = 0; items = letting_go ∷ [] }

abbrev pub next_at : (position : ℕ) → Next
next_at position = record { position = position; incarnation = 0 }

-- any frame and any line may follow, no line was cut, and the log goes on at this position: a frame under way has the entry there
pub record Goes {V N : Type 0} {G : sites.Ghosts V} {H : starts.Ghosts N} (store : Store V N G H) (position : ℕ) : Type 0 where
  pub one : H.origin.count ≡ 1
  pub follow : (latest : ℕ) (trail : List Settled) (told : List Said) (partition : ℕ) (going : List Entry) → H.may_follow latest trail told partition going
  pub say : (trail : List Settled) (told : List Said) (one : Said) (line : List ℕ) → H.may_say trail told one line
  pub whole : store.cut ≡ false
  pub next : goes_on (H.origin.logs 0) (of_part 0 (trail_in store)) ≡ next_at position
  pub frame : (going : List Entry) → going_at store 0 ≡ Some going → going ≡ trimming position ∷ []

-- a call on the frame there may have failed
pub record HasFailed {V N : Type 0} {G : sites.Ghosts V} {H : starts.Ghosts N} (store : Store V N G H) (position : ℕ) : Type 0 where
  pub sound : IsSound store
  pub goes : Goes store position

-- none did
pub record IsGoing {V N : Type 0} {G : sites.Ghosts V} {H : starts.Ghosts N} (store : Store V N G H) (position : ℕ) : Type 0 where
  pub sound : IsSound store
  pub unhalted : store.halted ≡ false
  pub goes : Goes store position

-- the place in a transcript: calls go on, one failed, or it is over
abbrev pub IsAt : {V N : Type 0} {G : sites.Ghosts V} {H : starts.Ghosts N} → Store V N G H → Result ℕ (Option ℕ) → Type 0
IsAt store (Ok position) = IsGoing store position
IsAt store (Err (Some position)) = HasFailed store position
IsAt store (Err None) = IsSound store
