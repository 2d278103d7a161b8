-- The four kinds of message that sections see.
use Rattle.std.proofs.Common.{ℕ, List}
use Rattle.dura_value.specs.Ids.{Id}
use Rattle.dura_value.specs.Messages.{Spot, Body, lock, granted, release}

pub data Kind : Type 0 where
  is_lock : (id : Id) → (task : ℕ) → (set : List Spot) → (index : ℕ) → Kind
  is_grant : (task : ℕ) → Kind
  is_release : Kind
  is_other : Kind

abbrev pub kind_of : Body → Kind
kind_of (lock id task set index) = is_lock id task set index
kind_of (granted task) = is_grant task
kind_of release = is_release
kind_of other = is_other
