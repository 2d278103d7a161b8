-- The statements that have the same parts, by their words.
use Rattle.std.specs.Prelude.{ℕ, List, Result, Ok}
use Rattle.serde_json.specs.Data.{Items}
use Rattle.flow_syntax.specs.Syntax.{Statement, let_be, spawn, call, timer, await, await_all, await_any, return, fail, Expression}
use Rattle.flow_values.specs.Faults.{Path, ◌>>=◌}
use Rattle.flow_reader.specs.declared.words.Word.{Word}
use Rattle.flow_reader.specs.declared.words.Word.TheVariants as words
use Rattle.flow_reader.specs.Statements.{only_value, variable_and_value, activity_in}

-- of an expression alone
abbrev pub of_value : Word → Expression → Statement
of_value words.Return value = return value
of_value other value = fail value

abbrev pub value_statement : Word → Items → Result Statement Path
value_statement word parts = only_value parts >>= λ e. Ok (of_value word e)

-- of a variable and an expression
abbrev pub of_variable : Word → (variable : List ℕ) → Expression → Statement
of_variable words.Let variable value = let_be variable value
of_variable words.Timer variable value = timer variable value
of_variable words.Await variable value = await variable value
of_variable words.All variable value = await_all variable value
of_variable other variable value = await_any variable value

abbrev pub variable_statement : Word → Items → Result Statement Path
variable_statement word parts = variable_and_value parts >>= λ p. Ok (of_variable word p.0 p.1)

-- of a variable, an activity and its argument
abbrev pub of_activity : Word → (variable activity : List ℕ) → Expression → Statement
of_activity words.Spawn variable activity argument = spawn variable activity argument
of_activity other variable activity argument = call variable activity argument

abbrev pub activity_statement : Word → Items → Result Statement Path
activity_statement word parts = activity_in parts >>= λ p. Ok (of_activity word p.0 p.1 p.2)
