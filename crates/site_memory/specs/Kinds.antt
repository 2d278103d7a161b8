-- The counts of calls.
use Rattle.std.specs.Prelude.{ℕ}
use Rattle.site_memory.specs.declared.plan.Kind.{Kind}
use Rattle.site_memory.specs.declared.plan.Kind.TheVariants.{Length, Read, Write, Sync, Device, Say}

-- where the count of a kind stands
abbrev pub slot_of : Kind → ℕ
slot_of Length = 0
slot_of Read = 1
slot_of Write = 2
slot_of Sync = 3
slot_of Device = 4
slot_of Say = 5
