-- Made by tools/theorems from tools/runs/values.json.
use Rattle.std.specs.Prelude.{◌≡◌, Bool, true, false, ℕ, List, [], ◌∷◌, codes, pos, negsuc, is_some, is_none, Option, Some, None, option_map}
use Rattle.dura_value.specs.declared.data.Scalar.TheVariants as scalars
use Rattle.dura_value.specs.declared.data.Value.TheVariants as values
use Rattle.dura_value.specs.declared.outcome.Outcome.TheVariants as outcomes
use Rattle.dura_value.specs.Ids.{Id, orchestration, entity, client}
use Rattle.dura_value.specs.Messages.{Answer, is_done, has_failed, was_started, was_there, is_unknown, was_raised, has_ended, is_missing, is_running, is_value, start, raise, query, wait, to_request}
use Rattle.flow_syntax.specs.Syntax.{not_of, length_of, text_of, add, sub, mul, div, rem, equal, less, both, either, join, at, push, scalar, variable, list, unary, binary, no_parts, part, let_be, spawn, call, Expression, Block, subflow, ask, timer, event, await, await_all, await_any, signal, lock_in, if_then, while, try, return, fail, nothing, first_then, Flows}
use Rattle.dura_model.specs.Steps.{Label, take, deliver, finish, fire}
use Rattle.dura_model.specs.Legal.{after, is_due}
use Rattle.worked_rows.specs.Made.{named, class_with, locked, message, answers_in, stands_in}
use Rattle.std.specs.Prelude.{Result, Ok, Err}
use Rattle.dura_value.specs.declared.data.Value.{Value}
use Rattle.flow_syntax.specs.Machine.{Progress, running, done, failed}
use Rattle.worked_rows.specs.Made.{values_of, ends_of, ends_inside}

abbrev pub given : List Expression
given =
    (binary add (scalar (scalars.Int (pos 2))) (scalar (scalars.Int (pos 3)))) ∷
    (binary add (scalar (scalars.Int (pos 9223372036854775807))) (scalar (scalars.Int (pos 1)))) ∷
    (binary add (scalar (scalars.Int (negsuc 9223372036854775807))) (scalar (scalars.Int (negsuc 0)))) ∷
    (binary add (scalar (scalars.Int (pos 9223372036854775807))) (scalar (scalars.Int (negsuc 0)))) ∷
    (binary add (scalar (scalars.Int (pos 1))) (scalar (scalars.Text (codes "a")))) ∷
    (binary add (scalar scalars.Null) (scalar (scalars.Int (pos 1)))) ∷
    (binary sub (scalar (scalars.Int (pos 2))) (scalar (scalars.Int (pos 5)))) ∷
    (binary sub (scalar (scalars.Int (negsuc 9223372036854775807))) (scalar (scalars.Int (pos 1)))) ∷
    (binary sub (scalar (scalars.Int (negsuc 9223372036854775807))) (scalar (scalars.Int (negsuc 0)))) ∷
    (binary sub (scalar scalars.True) (scalar (scalars.Int (pos 1)))) ∷
    (binary mul (scalar (scalars.Int (pos 3))) (scalar (scalars.Int (negsuc 3)))) ∷
    (binary mul (scalar (scalars.Int (negsuc 2))) (scalar (scalars.Int (negsuc 3)))) ∷
    (binary mul (scalar (scalars.Int (pos 4611686018427387904))) (scalar (scalars.Int (pos 2)))) ∷
    (binary mul (scalar (scalars.Int (pos 4611686018427387904))) (scalar (scalars.Int (negsuc 1)))) ∷
    (binary mul (scalar (scalars.Int (negsuc 9223372036854775807))) (scalar (scalars.Int (negsuc 0)))) ∷
    (binary mul (scalar (scalars.Text (codes "a"))) (scalar (scalars.Int (pos 1)))) ∷
    (binary div (scalar (scalars.Int (pos 7))) (scalar (scalars.Int (pos 2)))) ∷
    (binary div (scalar (scalars.Int (negsuc 6))) (scalar (scalars.Int (pos 2)))) ∷
    (binary div (scalar (scalars.Int (pos 7))) (scalar (scalars.Int (negsuc 1)))) ∷
    (binary div (scalar (scalars.Int (negsuc 6))) (scalar (scalars.Int (negsuc 1)))) ∷
    (binary div (scalar (scalars.Int (pos 1))) (scalar (scalars.Int (pos 0)))) ∷
    (binary div (scalar (scalars.Int (negsuc 9223372036854775807))) (scalar (scalars.Int (negsuc 0)))) ∷
    (binary div (scalar (scalars.Int (pos 1))) (scalar (scalars.Text (codes "0")))) ∷
    (binary rem (scalar (scalars.Int (pos 7))) (scalar (scalars.Int (pos 2)))) ∷
    (binary rem (scalar (scalars.Int (negsuc 6))) (scalar (scalars.Int (pos 2)))) ∷
    (binary rem (scalar (scalars.Int (pos 7))) (scalar (scalars.Int (negsuc 1)))) ∷
    (binary rem (scalar (scalars.Int (negsuc 6))) (scalar (scalars.Int (negsuc 1)))) ∷
    (binary rem (scalar (scalars.Int (pos 1))) (scalar (scalars.Int (pos 0)))) ∷
    (binary rem (scalar (scalars.Int (negsuc 9223372036854775807))) (scalar (scalars.Int (negsuc 0)))) ∷
    (binary rem (list no_parts) (scalar (scalars.Int (pos 1)))) ∷
    (binary equal (scalar (scalars.Int (pos 1))) (scalar (scalars.Int (pos 1)))) ∷
    (binary equal (scalar (scalars.Int (pos 1))) (scalar (scalars.Int (pos 2)))) ∷
    (binary equal (scalar (scalars.Int (pos 1))) (scalar (scalars.Text (codes "1")))) ∷
    (binary equal (scalar scalars.Null) (scalar scalars.Null)) ∷
    (binary equal (scalar scalars.Null) (scalar scalars.False)) ∷
    (binary equal (scalar scalars.True) (scalar scalars.True)) ∷
    (binary equal (list (part (scalar (scalars.Int (pos 1))) (part (scalar (scalars.Text (codes "a"))) no_parts))) (list (part (scalar (scalars.Int (pos 1))) (part (scalar (scalars.Text (codes "a"))) no_parts)))) ∷
    (binary equal (list (part (scalar (scalars.Int (pos 1))) no_parts)) (list (part (scalar (scalars.Int (pos 1))) (part (scalar (scalars.Int (pos 1))) no_parts)))) ∷
    (binary equal (scalar (scalars.Text (codes "a"))) (scalar (scalars.Text (codes "a")))) ∷
    (binary equal (scalar (scalars.Int (pos 1))) (scalar (scalars.Int (negsuc 0)))) ∷
    (binary less (scalar (scalars.Int (pos 1))) (scalar (scalars.Int (pos 2)))) ∷
    (binary less (scalar (scalars.Int (pos 2))) (scalar (scalars.Int (pos 2)))) ∷
    (binary less (scalar (scalars.Int (negsuc 0))) (scalar (scalars.Int (pos 0)))) ∷
    (binary less (scalar (scalars.Int (pos 0))) (scalar (scalars.Int (negsuc 0)))) ∷
    (binary less (scalar (scalars.Int (negsuc 1))) (scalar (scalars.Int (negsuc 0)))) ∷
    (binary less (scalar (scalars.Text (codes "a"))) (scalar (scalars.Text (codes "b")))) ∷
    (binary less (scalar (scalars.Text (codes "a"))) (scalar (scalars.Text (codes "ab")))) ∷
    (binary less (scalar (scalars.Text (codes "ab"))) (scalar (scalars.Text (codes "a")))) ∷
    (binary less (scalar (scalars.Text (codes "B"))) (scalar (scalars.Text (codes "a")))) ∷
    (binary less (scalar (scalars.Text ([]))) (scalar (scalars.Text (codes "a")))) ∷
    (binary less (scalar (scalars.Text (codes "a"))) (scalar (scalars.Text (codes "a")))) ∷
    (binary less (scalar (scalars.Int (pos 1))) (scalar (scalars.Text (codes "a")))) ∷
    (binary less (scalar scalars.Null) (scalar scalars.Null)) ∷
    (binary less (scalar scalars.False) (scalar scalars.True)) ∷
    (binary less (list no_parts) (list no_parts)) ∷
    (unary not_of (scalar scalars.True)) ∷
    (unary not_of (scalar scalars.False)) ∷
    (unary not_of (scalar (scalars.Int (pos 1)))) ∷
    (unary not_of (scalar scalars.Null)) ∷
    (binary both (scalar scalars.True) (scalar scalars.True)) ∷
    (binary both (scalar scalars.True) (scalar scalars.False)) ∷
    (binary both (scalar scalars.False) (scalar scalars.True)) ∷
    (binary both (scalar scalars.False) (scalar (scalars.Int (pos 1)))) ∷
    (binary both (scalar scalars.False) (variable (codes "none"))) ∷
    (binary either (scalar scalars.False) (scalar scalars.False)) ∷
    (binary either (scalar scalars.False) (scalar scalars.True)) ∷
    (binary either (scalar scalars.True) (scalar scalars.False)) ∷
    (binary either (scalar scalars.True) (scalar (scalars.Int (pos 1)))) ∷
    (binary either (scalar scalars.True) (variable (codes "none"))) ∷
    (binary join (scalar (scalars.Text (codes "a"))) (scalar (scalars.Text (codes "b")))) ∷
    (binary join (scalar (scalars.Text ([]))) (scalar (scalars.Text ([])))) ∷
    (binary join (scalar (scalars.Text (codes "a"))) (scalar (scalars.Int (pos 1)))) ∷
    (binary join (scalar (scalars.Int (pos 1))) (scalar (scalars.Text (codes "a")))) ∷
    (binary join (variable (codes "long")) (scalar (scalars.Text (codes "a")))) ∷
    (binary join (variable (codes "long")) (scalar (scalars.Text (codes "ab")))) ∷
    (unary length_of (scalar (scalars.Text (195 ∷ 169 ∷ [])))) ∷
    (unary length_of (scalar (scalars.Text ([])))) ∷
    (unary length_of (list (part (scalar (scalars.Int (pos 1))) (part (scalar (scalars.Text (codes "x"))) (part (scalar scalars.Null) no_parts))))) ∷
    (unary length_of (list no_parts)) ∷
    (unary length_of (scalar (scalars.Int (pos 1)))) ∷
    (unary length_of (scalar scalars.Null)) ∷
    (binary at (list (part (scalar (scalars.Int (pos 1))) (part (scalar (scalars.Text (codes "x"))) no_parts))) (scalar (scalars.Int (pos 1)))) ∷
    (binary at (list (part (scalar (scalars.Int (pos 1))) (part (scalar (scalars.Text (codes "x"))) no_parts))) (scalar (scalars.Int (pos 0)))) ∷
    (binary at (list (part (scalar (scalars.Int (pos 1))) no_parts)) (scalar (scalars.Int (pos 1)))) ∷
    (binary at (list (part (scalar (scalars.Int (pos 1))) no_parts)) (scalar (scalars.Int (negsuc 0)))) ∷
    (binary at (list no_parts) (scalar (scalars.Int (pos 0)))) ∷
    (binary at (scalar (scalars.Int (pos 1))) (scalar (scalars.Int (pos 0)))) ∷
    (binary at (list (part (scalar (scalars.Int (pos 1))) no_parts)) (scalar (scalars.Text (codes "0")))) ∷
    (binary at (scalar (scalars.Text (codes "abc"))) (scalar (scalars.Int (pos 0)))) ∷
    (binary push (list (part (scalar (scalars.Int (pos 1))) no_parts)) (scalar (scalars.Int (pos 2)))) ∷
    (binary push (list no_parts) (scalar scalars.Null)) ∷
    (binary push (list (part (scalar (scalars.Int (pos 1))) no_parts)) (list (part (scalar (scalars.Int (pos 2))) no_parts))) ∷
    (binary push (scalar (scalars.Int (pos 1))) (scalar (scalars.Int (pos 2)))) ∷
    (unary length_of (binary push (variable (codes "most_less_one")) (scalar (scalars.Int (pos 1))))) ∷
    (binary push (variable (codes "most")) (scalar (scalars.Int (pos 1)))) ∷
    (unary text_of (scalar (scalars.Int (negsuc 4)))) ∷
    (unary text_of (scalar (scalars.Int (pos 0)))) ∷
    (unary text_of (scalar (scalars.Int (negsuc 9223372036854775807)))) ∷
    (unary text_of (scalar (scalars.Int (pos 9223372036854775807)))) ∷
    (unary text_of (scalar (scalars.Text (codes "a")))) ∷
    (unary text_of (scalar scalars.True)) ∷
    (variable (codes "none")) ∷
    (variable (codes "arg")) ∷
    (list no_parts) ∷
    (list (part (scalar (scalars.Int (pos 1))) (part (variable (codes "arg")) (part (scalar (scalars.Text (codes "x"))) no_parts)))) ∷
    (list (part (scalar (scalars.Int (pos 1))) (part (list no_parts) no_parts))) ∷
    (list (part (variable (codes "none")) (part (binary div (scalar (scalars.Int (pos 1))) (scalar (scalars.Int (pos 0)))) no_parts))) ∷
    (list (part (binary div (scalar (scalars.Int (pos 1))) (scalar (scalars.Int (pos 0)))) (part (variable (codes "none")) no_parts))) ∷
    (list (part (list no_parts) (part (variable (codes "none")) no_parts))) ∷
    (binary add (binary div (scalar (scalars.Int (pos 1))) (scalar (scalars.Int (pos 0)))) (variable (codes "none"))) ∷
    (binary add (scalar (scalars.Text (codes "a"))) (variable (codes "none"))) ∷
    []

abbrev pub wanted : List (Result Value (List ℕ))
wanted =
    (Ok (values.Int (pos 5))) ∷
    (Err (codes "overflow")) ∷
    (Err (codes "overflow")) ∷
    (Ok (values.Int (pos 9223372036854775806))) ∷
    (Err (codes "type")) ∷
    (Err (codes "type")) ∷
    (Ok (values.Int (negsuc 2))) ∷
    (Err (codes "overflow")) ∷
    (Ok (values.Int (negsuc 9223372036854775806))) ∷
    (Err (codes "type")) ∷
    (Ok (values.Int (negsuc 11))) ∷
    (Ok (values.Int (pos 12))) ∷
    (Err (codes "overflow")) ∷
    (Ok (values.Int (negsuc 9223372036854775807))) ∷
    (Err (codes "overflow")) ∷
    (Err (codes "type")) ∷
    (Ok (values.Int (pos 3))) ∷
    (Ok (values.Int (negsuc 2))) ∷
    (Ok (values.Int (negsuc 2))) ∷
    (Ok (values.Int (pos 3))) ∷
    (Err (codes "divzero")) ∷
    (Err (codes "overflow")) ∷
    (Err (codes "type")) ∷
    (Ok (values.Int (pos 1))) ∷
    (Ok (values.Int (negsuc 0))) ∷
    (Ok (values.Int (pos 1))) ∷
    (Ok (values.Int (negsuc 0))) ∷
    (Err (codes "divzero")) ∷
    (Err (codes "overflow")) ∷
    (Err (codes "type")) ∷
    (Ok values.True) ∷
    (Ok values.False) ∷
    (Ok values.False) ∷
    (Ok values.True) ∷
    (Ok values.False) ∷
    (Ok values.True) ∷
    (Ok values.True) ∷
    (Ok values.False) ∷
    (Ok values.True) ∷
    (Ok values.False) ∷
    (Ok values.True) ∷
    (Ok values.False) ∷
    (Ok values.True) ∷
    (Ok values.False) ∷
    (Ok values.True) ∷
    (Ok values.True) ∷
    (Ok values.True) ∷
    (Ok values.False) ∷
    (Ok values.True) ∷
    (Ok values.True) ∷
    (Ok values.False) ∷
    (Err (codes "type")) ∷
    (Err (codes "type")) ∷
    (Err (codes "type")) ∷
    (Err (codes "type")) ∷
    (Ok values.False) ∷
    (Ok values.True) ∷
    (Err (codes "type")) ∷
    (Err (codes "type")) ∷
    (Ok values.True) ∷
    (Ok values.False) ∷
    (Ok values.False) ∷
    (Err (codes "type")) ∷
    (Err (codes "unset")) ∷
    (Ok values.False) ∷
    (Ok values.True) ∷
    (Ok values.True) ∷
    (Err (codes "type")) ∷
    (Err (codes "unset")) ∷
    (Ok (values.Text (codes "ab"))) ∷
    (Ok (values.Text ([]))) ∷
    (Err (codes "type")) ∷
    (Err (codes "type")) ∷
    (Ok (values.Text (codes "llllllllllllllllllllllllllllllllllllllllllllllllllllllllllllllllllllllllllllllllllllllllllllllllllllllllllllllllllllllllllllllllllllllllllllllllllllllllllllllllllllllllllllllllllllllllllllllllllllllllllllllllllllllllllllllllllllllllllllllllllllllllllllllllllllllllllllllllllllllllllllllllllllllllllllllllllllllllllllllllllllllllllllllllllllllllllllllllllllllllllllllllllllllllllllllllllllllllllllllllllllllllllllllllllllllllllllllllllllllllllllllllllllllllllllllllllllllllllllllllllllllllllllllllllllllllllllllllllllllllllllllllllllllllllllllllllllllllllllllllllllllllllllllllllllllllllllllllllllllllllllllllllllllllllllllllllllllllllllllllllllllllllllllllllllllllllllllllllllllllllllllllllllllllllllllllllllllllllllllllllllllllllllllllllllllllllllllllllllllllllllllllllllllllllllllllllllllllllllllllllllllllllllllllllllllllllllllllllllllllllllllllllllllllllllllllllllllllllllllllllllllllllllllllllllllllllllllllllllllllllllllllllllllllllllllllllllllllllllllllllllllllllllllllllllllllllllllllllllllllllllllllllllllllllllllllllllllllllllllllllllllllllllllllllllllllllllllllllllllllllllllllllllllllllllllllllllllllllllllllllllllllllllllllllllllllllllllllllllllllllllllllllllllllllllllllllllllllllllllllllllllllllllllllllllllllllllllllllllllllllllllllllllllllllllllllllllllllllllllllllllllllllllllllllllllllllllllllllllllllllllllllllllllllllllllllllllllllllllllllllllllllllllllllllllllllllllllllllllllllllllllllllllllllllllllllllllllllllllllllllllllllllllllllllllllllllllllllllllllllllllllllllllllllllllllllllllllllllllllllllllllllllllllllllllllllllllllllllllllllllllllllllllllllllllllllllllllllllllllllllllllllllllllllllllllllllllllllllllllllllllllllllllllllllllllllllllllllllllllllllllllllllllllllllllllllllllllllllllllllllllllllllllllllllllllllllllllllllllllllllllllllllllllllllllllllllllllllllllllllllllllllllllllllllllllllllllllllllllllllllllllllllllllllllllllllllllllllllllllllllllllllllllllllllllllllllllllllllllllllllllllllllllllllllllllllllllllllllllllllllllllllllllllllllllllllllllllllllllllllllllllllllllllllllllllllllllllllllllllllllllllllllllllllllllllllllllllllllllllllllllllllllllllllllllllllllllllllllllllllllllllllllllllllllllllllllllllllllllllllllllllllllllllllllllllllllllllllllllllllllllllllllllllllllllllllllllllllllllllllllllllllllllllllllllllllllllllllllllllllllllllllllllllllllllllllllllllllllllllllllllllllllllllllllllllllllllllllllllllllllllllllllllllllllllllllllllllllllllllllllllllllllllllllllllllllllllllllllllllllllllllllllllllllllllllllllllllllllllllllllllllllllllllllllllllllllllllllllllllllllllllllllllllllllllllllllllllllllllllllllllllllllllllllllllllllllllllllllllllllllllllllllllllllllllllllllllllllllllllllllllllllllllllllllllllllllllllllllllllllllllllllllllllllllllllllllllllllllllllllllllllllllllllllllllllllllllllllllllllllllllllllllllllllllllllllllllllllllllllllllllllllllllllllllllllllllllllllllllllllllllllllllllllllllllllllllllllllllllllllllllllllllllllllllllllllllllllllllllllllllllllllllllllllllllllllllllllllllllllllllllllllllllllllllllllllllllllllllllllllllllllllllllllllllllllllllllllllllllllllllllllllllllllllllllllllllllllllllllllllllllllllllllllllllllllllllllllllllllllllllllllllllllllllllllllllllllllllllllllllllllllllllllllllllllllllllllllllllllllllllllllllllllllllllllllllllllllllllllllllllllllllllllllllllllllllllllllllllllllllllllllllllllllllllllllllllllllllllllllllllllllllllllllllllllllllllllllllllllllllllllllllllllllllllllllllllllllllllllllllllllllllllllllllllllllllllllllllllllllllllllllllllllllllllllllllllllllllllllllllllllllllllllllllllllllllllllllllllllllllllllllllllllllllllllllllllllllllllllllllllllllllllllllllllllllllllllllllllllllllllllllllllllllllllllllllllllllllllllllllllllllllllllllllllllllllllllllllllllllllllllllllllllllllllllllllllllllllllllllllllllllllllllllllllllllllllllllllllllllllllllllllllllllllllllllllllllllllllllllllllllllllllllllllllllllllllllllllllllllllllllllllllllllllllllllllllllllllllllllllllllllllllllllllllllllllllllllllllllllllllllllllllllllllllllllllllllllllllllllllllllllllllllllllllllllllllllllllllllllllllllllllllllllllllllllllllllllllllllllllllllllllllllllllllllllllllllllllllllllllllllllllllllllla"))) ∷
    (Err (codes "size")) ∷
    (Ok (values.Int (pos 2))) ∷
    (Ok (values.Int (pos 0))) ∷
    (Ok (values.Int (pos 3))) ∷
    (Ok (values.Int (pos 0))) ∷
    (Err (codes "type")) ∷
    (Err (codes "type")) ∷
    (Ok (values.Text (codes "x"))) ∷
    (Ok (values.Int (pos 1))) ∷
    (Err (codes "range")) ∷
    (Err (codes "range")) ∷
    (Err (codes "range")) ∷
    (Err (codes "type")) ∷
    (Err (codes "type")) ∷
    (Err (codes "type")) ∷
    (Ok (values.List ((scalars.Int (pos 1)) ∷ (scalars.Int (pos 2)) ∷ []))) ∷
    (Ok (values.List (scalars.Null ∷ []))) ∷
    (Err (codes "type")) ∷
    (Err (codes "type")) ∷
    (Ok (values.Int (pos 1024))) ∷
    (Err (codes "size")) ∷
    (Ok (values.Text (codes "-5"))) ∷
    (Ok (values.Text (codes "0"))) ∷
    (Ok (values.Text (codes "-9223372036854775808"))) ∷
    (Ok (values.Text (codes "9223372036854775807"))) ∷
    (Err (codes "type")) ∷
    (Err (codes "type")) ∷
    (Err (codes "unset")) ∷
    (Ok values.Null) ∷
    (Ok (values.List ([]))) ∷
    (Ok (values.List ((scalars.Int (pos 1)) ∷ scalars.Null ∷ (scalars.Text (codes "x")) ∷ []))) ∷
    (Err (codes "type")) ∷
    (Err (codes "unset")) ∷
    (Err (codes "divzero")) ∷
    (Err (codes "unset")) ∷
    (Err (codes "divzero")) ∷
    (Err (codes "unset")) ∷
    []

-- each gives what is wanted
abbrev pub Agrees : Type 0
Agrees = values_of given ≡ wanted
