-- Made by tools/theorems from tools/runs/ends.json.
use Rattle.std.specs.Prelude.{◌≡◌, Bool, true, false, ℕ, List, [], ◌∷◌, codes, pos, negsuc, is_some, is_none, Option, Some, None, option_map}
use Rattle.dura_value.specs.declared.data.Scalar.TheVariants as scalars
use Rattle.dura_value.specs.declared.data.Value.TheVariants as values
use Rattle.dura_value.specs.declared.outcome.Outcome.TheVariants as outcomes
use Rattle.dura_value.specs.Ids.{Id, orchestration, entity, client}
use Rattle.dura_value.specs.Messages.{Answer, is_done, has_failed, was_started, was_there, is_unknown, was_raised, has_ended, is_missing, is_running, is_value, start, raise, query, wait, to_request}
use Rattle.flow_syntax.specs.Syntax.{not_of, length_of, text_of, add, sub, mul, div, rem, equal, less, both, either, join, at, push, scalar, variable, list, unary, binary, no_parts, part, let_be, spawn, call, Expression, Block, subflow, ask, timer, event, await, await_all, await_any, signal, lock_in, if_then, while, try, return, fail, nothing, first_then, Flows}
use Rattle.dura_model.specs.Steps.{Label, take, deliver, finish, fire}
use Rattle.dura_model.specs.Legal.{after, is_due}
use Rattle.worked_rows.specs.Made.{named, class_with, locked, message, answers_in, stands_in}
use Rattle.std.specs.Prelude.{Result, Ok, Err}
use Rattle.dura_value.specs.declared.data.Value.{Value}
use Rattle.flow_syntax.specs.Machine.{Progress, running, done, failed}
use Rattle.worked_rows.specs.Made.{values_of, ends_of, ends_inside}

abbrev pub given : List Block
given =
    nothing ∷
    (first_then (return (scalar (scalars.Int (pos 5)))) nothing) ∷
    (first_then (return (variable (codes "none"))) nothing) ∷
    (first_then (let_be (codes "x") (scalar (scalars.Int (pos 1)))) (first_then (let_be (codes "x") (scalar (scalars.Int (pos 2)))) (first_then (return (variable (codes "x"))) nothing))) ∷
    (first_then (return (scalar (scalars.Int (pos 1)))) (first_then (return (scalar (scalars.Int (pos 2)))) nothing)) ∷
    (first_then (fail (scalar (scalars.Text (codes "no")))) nothing) ∷
    (first_then (fail (scalar (scalars.Int (pos 1)))) nothing) ∷
    (first_then (fail (variable (codes "none"))) nothing) ∷
    (first_then (return (variable (codes "arg"))) nothing) ∷
    (first_then (if_then (scalar scalars.True) (first_then (return (scalar (scalars.Int (pos 1)))) nothing) (first_then (return (scalar (scalars.Int (pos 2)))) nothing)) nothing) ∷
    (first_then (if_then (scalar scalars.False) (first_then (return (scalar (scalars.Int (pos 1)))) nothing) (first_then (return (scalar (scalars.Int (pos 2)))) nothing)) nothing) ∷
    (first_then (if_then (scalar (scalars.Int (pos 1))) nothing nothing) nothing) ∷
    (first_then (if_then (scalar scalars.True) nothing nothing) (first_then (return (scalar (scalars.Int (pos 3)))) nothing)) ∷
    (first_then (while (scalar scalars.False) (first_then (fail (scalar (scalars.Text (codes "in")))) nothing)) nothing) ∷
    (first_then (while (scalar (scalars.Text (codes "x"))) nothing) nothing) ∷
    (first_then (let_be (codes "i") (scalar (scalars.Int (pos 0)))) (first_then (while (binary less (variable (codes "i")) (scalar (scalars.Int (pos 3)))) (first_then (let_be (codes "i") (binary add (variable (codes "i")) (scalar (scalars.Int (pos 1))))) nothing)) (first_then (return (variable (codes "i"))) nothing))) ∷
    (first_then (while (scalar scalars.True) nothing) nothing) ∷
    (first_then (try (first_then (while (scalar scalars.True) nothing) nothing) (codes "e") (first_then (return (scalar (scalars.Int (pos 1)))) nothing)) nothing) ∷
    (first_then (try (first_then (fail (scalar (scalars.Text (codes "a")))) (first_then (return (scalar (scalars.Int (pos 1)))) nothing)) (codes "e") (first_then (return (variable (codes "e"))) nothing)) (first_then (return (scalar (scalars.Int (pos 2)))) nothing)) ∷
    (first_then (try (first_then (let_be (codes "x") (scalar (scalars.Int (pos 1)))) nothing) (codes "e") (first_then (return (variable (codes "e"))) nothing)) (first_then (return (variable (codes "x"))) nothing)) ∷
    (first_then (try (first_then (try (first_then (fail (scalar (scalars.Text (codes "a")))) nothing) (codes "e") (first_then (fail (scalar (scalars.Text (codes "b")))) nothing)) nothing) (codes "f") (first_then (return (binary join (variable (codes "e")) (variable (codes "f")))) nothing)) nothing) ∷
    (first_then (try nothing (codes "e") (first_then (return (scalar (scalars.Int (pos 1)))) nothing)) (first_then (fail (scalar (scalars.Text (codes "late")))) nothing)) ∷
    (first_then (try (first_then (return (scalar (scalars.Int (pos 1)))) nothing) (codes "e") (first_then (return (scalar (scalars.Int (pos 2)))) nothing)) nothing) ∷
    (first_then (try (first_then (let_be (codes "x") (variable (codes "none"))) nothing) (codes "e") nothing) (first_then (return (variable (codes "e"))) nothing)) ∷
    (first_then (try (first_then (if_then (scalar scalars.True) (first_then (fail (scalar (scalars.Text (codes "a")))) nothing) nothing) (first_then (return (scalar (scalars.Int (pos 1)))) nothing)) (codes "e") nothing) (first_then (return (scalar (scalars.Int (pos 2)))) nothing)) ∷
    (first_then (spawn (codes "h") (codes "echo") (scalar (scalars.Int (pos 1)))) (first_then (return (variable (codes "h"))) nothing)) ∷
    (first_then (spawn (codes "h") (codes "echo") (scalar (scalars.Int (pos 1)))) (first_then (spawn (codes "k") (codes "echo") (scalar (scalars.Int (pos 2)))) (first_then (return (variable (codes "k"))) nothing))) ∷
    (first_then (call (codes "x") (codes "echo") (scalar (scalars.Int (pos 1)))) (first_then (return (variable (codes "x"))) nothing)) ∷
    (first_then (spawn (codes "h") (codes "echo") (variable (codes "none"))) nothing) ∷
    (first_then (call (codes "x") (codes "echo") (variable (codes "none"))) nothing) ∷
    (first_then (subflow (codes "h") (codes "F") (scalar (scalars.Text (codes "k"))) (scalar (scalars.Int (pos 1)))) (first_then (return (variable (codes "h"))) nothing)) ∷
    (first_then (subflow (codes "h") (codes "F") (scalar (scalars.Text (97 ∷ 47 ∷ 98 ∷ []))) (scalar (scalars.Int (pos 1)))) nothing) ∷
    (first_then (subflow (codes "h") (codes "F") (scalar (scalars.Text ([]))) (scalar (scalars.Int (pos 1)))) nothing) ∷
    (first_then (subflow (codes "h") (codes "F") (scalar (scalars.Int (pos 1))) (scalar (scalars.Int (pos 1)))) nothing) ∷
    (first_then (subflow (codes "h") (codes "F") (variable (codes "none")) (scalar (scalars.Int (pos 1)))) nothing) ∷
    (first_then (subflow (codes "h") (codes "F") (scalar (scalars.Text (codes "a b"))) (variable (codes "none"))) nothing) ∷
    (first_then (subflow (codes "h") (codes "F") (scalar (scalars.Text (codes "k"))) (variable (codes "none"))) nothing) ∷
    (first_then (ask (codes "h") (codes "C") (scalar (scalars.Text (codes "k"))) (codes "op") (scalar (scalars.Int (pos 1)))) (first_then (return (variable (codes "h"))) nothing)) ∷
    (first_then (ask (codes "h") (codes "C") (scalar (scalars.Text (codes "a b"))) (codes "op") (scalar (scalars.Int (pos 1)))) nothing) ∷
    (first_then (ask (codes "h") (codes "C") (scalar scalars.Null) (codes "op") (scalar (scalars.Int (pos 1)))) nothing) ∷
    (first_then (ask (codes "h") (codes "C") (scalar (scalars.Text (codes "k"))) (codes "op") (variable (codes "none"))) nothing) ∷
    (first_then (ask (codes "h") (codes "C") (scalar (scalars.Text (codes "k"))) (codes "op") (scalar (scalars.Int (pos 1)))) (first_then (ask (codes "h") (codes "C") (scalar (scalars.Text (codes "k"))) (codes "op") (scalar (scalars.Int (pos 1)))) (first_then (return (variable (codes "h"))) nothing))) ∷
    (first_then (signal (codes "C") (scalar (scalars.Text (codes "k"))) (codes "op") (scalar (scalars.Int (pos 1)))) (first_then (return (scalar (scalars.Int (pos 1)))) nothing)) ∷
    (first_then (signal (codes "C") (scalar (scalars.Text (codes "a b"))) (codes "op") (scalar (scalars.Int (pos 1)))) nothing) ∷
    (first_then (signal (codes "C") (scalar (scalars.Text (codes "k"))) (codes "op") (variable (codes "none"))) nothing) ∷
    (first_then (timer (codes "h") (scalar (scalars.Int (pos 0)))) (first_then (return (variable (codes "h"))) nothing)) ∷
    (first_then (timer (codes "h") (scalar (scalars.Int (negsuc 0)))) nothing) ∷
    (first_then (timer (codes "h") (scalar (scalars.Text (codes "1")))) nothing) ∷
    (first_then (timer (codes "h") (scalar (scalars.Int (pos 9223372036854775807)))) nothing) ∷
    (first_then (timer (codes "h") (scalar (scalars.Int (pos 9223372036854775800)))) (first_then (return (scalar (scalars.Int (pos 1)))) nothing)) ∷
    (first_then (timer (codes "h") (scalar (scalars.Int (pos 9223372036854775801)))) nothing) ∷
    (first_then (timer (codes "h") (variable (codes "none"))) nothing) ∷
    (first_then (timer (codes "h") (scalar (scalars.Int (pos 0)))) (first_then (await (codes "x") (variable (codes "h"))) nothing)) ∷
    (first_then (event (codes "h") (codes "go")) (first_then (return (variable (codes "h"))) nothing)) ∷
    (first_then (event (codes "h") (codes "go")) (first_then (await (codes "x") (variable (codes "h"))) nothing)) ∷
    (first_then (await (codes "x") (scalar (scalars.Int (pos 0)))) nothing) ∷
    (first_then (await (codes "x") (scalar (scalars.Int (negsuc 0)))) nothing) ∷
    (first_then (await (codes "x") (scalar (scalars.Text (codes "0")))) nothing) ∷
    (first_then (await (codes "x") (scalar scalars.Null)) nothing) ∷
    (first_then (spawn (codes "h") (codes "echo") (scalar (scalars.Int (pos 1)))) (first_then (await (codes "x") (scalar (scalars.Int (pos 1)))) nothing)) ∷
    (first_then (spawn (codes "h") (codes "echo") (scalar (scalars.Int (pos 1)))) (first_then (await (codes "x") (scalar (scalars.Int (pos 0)))) nothing)) ∷
    (first_then (await_all (codes "x") (list no_parts)) (first_then (return (variable (codes "x"))) nothing)) ∷
    (first_then (await_all (codes "x") (scalar (scalars.Int (pos 0)))) nothing) ∷
    (first_then (await_all (codes "x") (list (part (scalar (scalars.Int (pos 0))) no_parts))) nothing) ∷
    (first_then (await_all (codes "x") (list (part (scalar (scalars.Text (codes "0"))) (part (scalar (scalars.Int (pos 0))) no_parts)))) nothing) ∷
    (first_then (await_all (codes "x") (list (part (scalar (scalars.Int (pos 0))) (part (scalar (scalars.Text (codes "0"))) no_parts)))) nothing) ∷
    (first_then (spawn (codes "h") (codes "echo") (scalar (scalars.Int (pos 1)))) (first_then (await_all (codes "x") (list (part (scalar (scalars.Int (pos 0))) (part (scalar (scalars.Text (codes "0"))) no_parts)))) nothing)) ∷
    (first_then (spawn (codes "h") (codes "echo") (scalar (scalars.Int (pos 1)))) (first_then (await_all (codes "x") (list (part (scalar (scalars.Int (pos 0))) (part (scalar (scalars.Int (pos 0))) no_parts)))) nothing)) ∷
    (first_then (await_any (codes "x") (list no_parts)) nothing) ∷
    (first_then (await_any (codes "x") (scalar (scalars.Int (pos 0)))) nothing) ∷
    (first_then (await_any (codes "x") (list (part (scalar (scalars.Int (pos 0))) no_parts))) nothing) ∷
    (first_then (spawn (codes "h") (codes "echo") (scalar (scalars.Int (pos 1)))) (first_then (await_any (codes "x") (list (part (scalar (scalars.Int (pos 0))) no_parts))) nothing)) ∷
    (first_then (spawn (codes "h") (codes "echo") (scalar (scalars.Int (pos 1)))) (first_then (await_any (codes "x") (list (part (scalar (scalars.Int (pos 0))) (part (scalar (scalars.Int (negsuc 0))) no_parts)))) nothing)) ∷
    (first_then (lock_in (locked (codes "C") (scalar (scalars.Text (codes "a b"))) ∷ []) nothing) nothing) ∷
    (first_then (lock_in (locked (codes "C") (scalar (scalars.Text (codes "k"))) ∷ locked (codes "C") (scalar (scalars.Int (pos 1))) ∷ []) nothing) nothing) ∷
    (first_then (lock_in (locked (codes "C") (variable (codes "none")) ∷ locked (codes "C") (scalar (scalars.Int (pos 1))) ∷ []) nothing) nothing) ∷
    (first_then (lock_in (locked (codes "C") (scalar (scalars.Text (codes "k"))) ∷ []) nothing) nothing) ∷
    (first_then (ask (codes "h") (codes "C") (scalar (scalars.Text (codes "k"))) (codes "op") (scalar (scalars.Int (pos 1)))) (first_then (lock_in (locked (codes "C") (scalar (scalars.Text (codes "k"))) ∷ []) nothing) nothing)) ∷
    (first_then (subflow (codes "h") (codes "F") (scalar (scalars.Text (codes "k"))) (scalar (scalars.Int (pos 1)))) (first_then (lock_in (locked (codes "C") (scalar (scalars.Text (codes "k"))) ∷ []) nothing) nothing)) ∷
    (first_then (ask (codes "h") (codes "C") (scalar (scalars.Text (codes "k"))) (codes "op") (scalar (scalars.Int (pos 1)))) (first_then (lock_in (locked (codes "C") (scalar (scalars.Text (codes "a b"))) ∷ []) nothing) nothing)) ∷
    (first_then (spawn (codes "h") (codes "echo") (scalar (scalars.Int (pos 1)))) (first_then (lock_in (locked (codes "C") (scalar (scalars.Text (codes "k"))) ∷ []) nothing) nothing)) ∷
    (first_then (signal (codes "C") (scalar (scalars.Text (codes "k"))) (codes "op") (scalar (scalars.Int (pos 1)))) (first_then (lock_in (locked (codes "C") (scalar (scalars.Text (codes "k"))) ∷ []) nothing) nothing)) ∷
    (first_then (timer (codes "h") (scalar (scalars.Int (pos 0)))) (first_then (event (codes "e") (codes "go")) (first_then (lock_in (locked (codes "C") (scalar (scalars.Text (codes "k"))) ∷ []) nothing) nothing))) ∷
    []

abbrev pub wanted : List (Progress)
wanted =
    (done values.Null) ∷
    (done (values.Int (pos 5))) ∷
    (failed (codes "unset")) ∷
    (done (values.Int (pos 2))) ∷
    (done (values.Int (pos 1))) ∷
    (failed (codes "no")) ∷
    (failed (codes "type")) ∷
    (failed (codes "unset")) ∷
    (done values.Null) ∷
    (done (values.Int (pos 1))) ∷
    (done (values.Int (pos 2))) ∷
    (failed (codes "type")) ∷
    (done (values.Int (pos 3))) ∷
    (done values.Null) ∷
    (failed (codes "type")) ∷
    (done (values.Int (pos 3))) ∷
    (failed (codes "budget")) ∷
    (failed (codes "budget")) ∷
    (done (values.Text (codes "a"))) ∷
    (done (values.Int (pos 1))) ∷
    (done (values.Text (codes "ab"))) ∷
    (failed (codes "late")) ∷
    (done (values.Int (pos 1))) ∷
    (done (values.Text (codes "unset"))) ∷
    (done (values.Int (pos 2))) ∷
    (done (values.Int (pos 0))) ∷
    (done (values.Int (pos 1))) ∷
    (running) ∷
    (failed (codes "unset")) ∷
    (failed (codes "unset")) ∷
    (done (values.Int (pos 0))) ∷
    (failed (codes "key")) ∷
    (failed (codes "key")) ∷
    (failed (codes "key")) ∷
    (failed (codes "unset")) ∷
    (failed (codes "key")) ∷
    (failed (codes "unset")) ∷
    (done (values.Int (pos 0))) ∷
    (failed (codes "key")) ∷
    (failed (codes "key")) ∷
    (failed (codes "unset")) ∷
    (done (values.Int (pos 1))) ∷
    (done (values.Int (pos 1))) ∷
    (failed (codes "key")) ∷
    (failed (codes "unset")) ∷
    (done (values.Int (pos 0))) ∷
    (failed (codes "range")) ∷
    (failed (codes "type")) ∷
    (failed (codes "overflow")) ∷
    (done (values.Int (pos 1))) ∷
    (failed (codes "overflow")) ∷
    (failed (codes "unset")) ∷
    (running) ∷
    (done (values.Int (pos 0))) ∷
    (running) ∷
    (failed (codes "handle")) ∷
    (failed (codes "handle")) ∷
    (failed (codes "type")) ∷
    (failed (codes "type")) ∷
    (failed (codes "handle")) ∷
    (running) ∷
    (done (values.List ([]))) ∷
    (failed (codes "type")) ∷
    (failed (codes "handle")) ∷
    (failed (codes "type")) ∷
    (failed (codes "handle")) ∷
    (failed (codes "type")) ∷
    (running) ∷
    (failed (codes "empty")) ∷
    (failed (codes "type")) ∷
    (failed (codes "handle")) ∷
    (running) ∷
    (failed (codes "handle")) ∷
    (failed (codes "key")) ∷
    (failed (codes "key")) ∷
    (failed (codes "unset")) ∷
    (running) ∷
    (failed (codes "lockrule")) ∷
    (failed (codes "lockrule")) ∷
    (failed (codes "key")) ∷
    (running) ∷
    (running) ∷
    (running) ∷
    []

-- each gives what is wanted
abbrev pub Agrees : Type 0
Agrees = ends_of given ≡ wanted
