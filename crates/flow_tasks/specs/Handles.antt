-- When a value names a task.
use Rattle.std.specs.Prelude.{◌≡◌, ℕ, List, codes, Result, Ok, Err}
use Rattle.flow_tasks.specs.declared.handles.HandleFault.{HandleFault}
use Rattle.flow_tasks.specs.declared.handles.HandleFault.TheVariants as faults

-- the fault is the one that was thrown, unless memory ran out
abbrev pub HandleFails : {Y : Type 0} → HandleFault → Result Y (List ℕ) → Type 0
HandleFails faults.Handle wanted = wanted ≡ Err (codes "handle")
HandleFails faults.Type wanted = wanted ≡ Err (codes "type")
HandleFails faults.Memory wanted = Unit {0}

-- what was answered, seen by a view, is what is named, unless memory ran out
abbrev pub Names : {X Y : Type 0} → (X → Y) → Result X HandleFault → Result Y (List ℕ) → Type 0
Names view (Ok x) wanted = wanted ≡ Ok (view x)
Names view (Err fault) wanted = HandleFails fault wanted
