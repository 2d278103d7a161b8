-- When an expression names tasks.
use Rattle.std.specs.Prelude.{◌≡◌, ℕ, List, Result, Ok, Err}
use Rattle.flow_syntax.specs.Machine as plain
use Rattle.flow_eval.specs.Gives.{EvalFails}
use Rattle.flow_tasks.specs.Handles.{HandleFails}
use Rattle.flow_machine.specs.declared.machine.Machine.{Machine}
use Rattle.flow_messages.specs.declared.made.Made.{Made}
use Rattle.flow_machine.specs.declared.several.AwaitError.{AwaitError}
use Rattle.flow_machine.specs.declared.several.AwaitError.TheVariants.{Eval, Handle}
use Rattle.flow_machine.specs.Steps.{Throws, ThrowsHandle}

abbrev pub AwaitFails : {Y : Type 0} → AwaitError → Result Y (List ℕ) → Type 0
AwaitFails (Eval error) wanted = EvalFails error wanted
AwaitFails (Handle fault) wanted = HandleFails fault wanted

-- what was answered, seen by a view, is what is named, unless memory ran out
abbrev pub NamesTasks : {X Y : Type 0} → (X → Y) → Result X AwaitError → Result Y (List ℕ) → Type 0
NamesTasks view (Ok x) wanted = wanted ≡ Ok (view x)
NamesTasks view (Err error) wanted = AwaitFails error wanted

-- Why it names none is thrown.
abbrev pub ThrowsAwait : Made → Made → Machine → plain.Machine → AwaitError → Type 0
ThrowsAwait was now m old (Eval error) = Throws was now m old error
ThrowsAwait was now m old (Handle fault) = ThrowsHandle was now m old fault
