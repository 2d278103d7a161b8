-- When what was answered is what the definitions give.
use Rattle.std.specs.Prelude.{◌≡◌, ℕ, List, Result, Ok, Err}
use Rattle.flow_eval.specs.declared.fault.EvalError.{EvalError}
use Rattle.flow_eval.specs.declared.fault.EvalError.TheVariants.{Thrown, Memory}
use Rattle.flow_eval.specs.Faults.{fault_text}

-- the fault is the one that was thrown, unless memory ran out
abbrev pub EvalFails : {Y : Type 0} → EvalError → Result Y (List ℕ) → Type 0
EvalFails Memory given = Unit {0}
EvalFails (Thrown fault) given = given ≡ Err (fault_text fault)

-- what was answered, seen by a view, is what is given, unless memory ran out
abbrev pub EvalGives : {X Y : Type 0} → (X → Y) → Result X EvalError → Result Y (List ℕ) → Type 0
EvalGives view (Ok x) given = given ≡ Ok (view x)
EvalGives view (Err error) given = EvalFails error given
