-- What the parts of the reader answer.
use Rattle.std.specs.Prelude.{◌≡◌, Result, Ok, Err}
use Rattle.move_plan.specs.declared.error.Place.{Place}
use Rattle.move_plan.specs.declared.error.PlanError.{PlanError}
use Rattle.move_plan.specs.declared.error.PlanError.TheVariants as errors

-- what was read, seen by view, or the place that is wrong, is what is wanted, unless memory ran out
abbrev pub PlanGives : {X Y : Type 0} → (X → Y) → Result X PlanError → Result Y Place → Type 0
PlanGives view (Ok x) wanted = wanted ≡ Ok (view x)
PlanGives view (Err (errors.BadPlan place)) wanted = wanted ≡ Err place
PlanGives view (Err errors.Memory) wanted = Unit {0}
