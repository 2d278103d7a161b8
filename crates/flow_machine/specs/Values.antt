-- What statements look at.
use Rattle.std.specs.Prelude.{ℕ, ℤ, List, Bool, Result, Ok}
use Rattle.dura_value.specs.declared.data.Value.{Value}
use Rattle.dura_value.specs.Messages.{Spot}
use Rattle.flow_syntax.specs.Syntax.{Expression, Locked}
use Rattle.flow_syntax.specs.Machine.{Task, to_handle, to_handles, spot_of}
use Rattle.flow_syntax.specs.Eval.{◌>>=◌, Variables, eval, to_truth, to_text, to_key, to_integer, to_scalars, list_of}

-- a truth value that an expression gives
abbrev pub truth_in : Variables → Expression → Result Bool (List ℕ)
truth_in variables test = eval variables test >>= to_truth

-- a text
abbrev pub text_in : Variables → Expression → Result (List ℕ) (List ℕ)
text_in variables text = eval variables text >>= to_text

-- a key, and then an argument
abbrev pub pair_in : Variables → (key argument : Expression) → Result (List ℕ × Value) (List ℕ)
pair_in variables key argument = (eval variables key >>= to_key) >>= λ k. eval variables argument >>= λ a. Ok (k, a)

-- an integer
abbrev pub integer_in : Variables → Expression → Result ℤ (List ℕ)
integer_in variables e = eval variables e >>= to_integer

-- the list of values
abbrev pub list_given : List Value → Result Value (List ℕ)
list_given given = to_scalars given >>= list_of

-- a task by its number
abbrev pub handle_in : Variables → List Task → Expression → Result ℕ (List ℕ)
handle_in variables tasks handle = eval variables handle >>= to_handle tasks

-- tasks by their numbers
abbrev pub handles_in : Variables → List Task → Expression → Result (List ℕ) (List ℕ)
handles_in variables tasks handles = eval variables handles >>= to_handles tasks

-- an entity that is to be locked
abbrev pub spot_in : Variables → Locked → Result Spot (List ℕ)
spot_in variables one = (eval variables one.key >>= to_key) >>= λ key. Ok (spot_of one.class key)
