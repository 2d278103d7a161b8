-- Which entries an entry depends on, and which of them are lost.
use Rattle.std.specs.Prelude.{◌≡◌, ◌⊎◌, ℕ, ◌+◌, ◌<◌, ◌≤◌, ◌==◌, List, [], ◌∷◌, ◌++◌, map, if◌then◌else◌, Option, Some, None, MatchOption}
use Rattle.std.specs.List.{All, Contains}
use Rattle.dura_value.specs.Items.{Identity, Item, got, trim, Floor}

-- an entry that is committed: who it is, and its items
pub record Committed : Type 0 where
  pub name : Identity
  pub items : List Item

abbrev pub names_of : List Committed → List Identity
names_of = map (λ e. e.name)

-- the entries that items name: the one whose message came in, and the one that has what is let go
abbrev pub named_by : List Item → List Identity
named_by [] = []
named_by (got source number message ∷ items) = source ∷ named_by items
named_by (trim reader number ∷ items) = reader ∷ named_by items
named_by (other ∷ items) = named_by items

abbrev pub or_later : Option Identity → Identity → Option Identity
or_later None one = Some one
or_later (Some later) one = Some later

-- the newest entry of a partition among these, of which the last is the newest
abbrev pub newest_of : ℕ → List Identity → Option Identity
newest_of partition [] = None
newest_of partition (one ∷ names) = if one.partition == partition then or_later (newest_of partition names) one else newest_of partition names

-- An entry is right before another in its partition: one position earlier, and of no later incarnation.
pub record IsRightBefore (before e : Identity) : Type 0 where
  pub partition : e.partition ≡ before.partition
  pub position : e.position ≡ before.position + 1
  pub incarnation : before.incarnation ≤ e.incarnation

-- An entry is the first of its partition, or the newest one there so far is right before it.
abbrev pub FollowsIn : List Identity → Identity → Type 0
FollowsIn known e = MatchOption (newest_of e.partition known) (e.position ≡ 0) (λ before. IsRightBefore before e)

-- An entry's dependencies are among these, each by its identity: the one right before it, and all that its items name.
pub record IsFounded (known : List Identity) (e : Committed) : Type 0 where
  pub follows : FollowsIn known e.name
  pub named : All (Contains known) (named_by e.items)

-- Each of these entries is founded on those that were recovered and those before it.
pub data Founded (recovered : List Identity) : List Committed → Type 0 where
  none : Founded recovered []
  one_more : {entries : List Committed} (e : Committed) → Founded recovered entries → IsFounded (recovered ++ names_of entries) e → Founded recovered (entries ++ e ∷ [])

-- an entry was given up by a later incarnation of its partition
pub record Lost (floors : List Floor) (e : Identity) : Type 0 where
  pub floor : Floor
  pub there : Contains floors floor
  pub partition : floor.partition ≡ e.partition
  pub later : e.incarnation < floor.incarnation
  pub below : floor.from ≤ e.position

-- an entry is settled, by the lengths of the partitions' logs, and wasn't given up
pub record Ready (lengths : ℕ → ℕ) (floors : List Floor) (e : Identity) : Type 0 where
  pub settled : e.position < lengths e.partition
  pub kept : Lost floors e → ⊥
