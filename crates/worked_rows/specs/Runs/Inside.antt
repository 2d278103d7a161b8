-- Made by tools/theorems from tools/runs/inside.json.
use Rattle.std.specs.Prelude.{◌≡◌, Bool, true, false, ℕ, List, [], ◌∷◌, codes, pos, negsuc, is_some, is_none, Option, Some, None, option_map}
use Rattle.dura_value.specs.declared.data.Scalar.TheVariants as scalars
use Rattle.dura_value.specs.declared.data.Value.TheVariants as values
use Rattle.dura_value.specs.declared.outcome.Outcome.TheVariants as outcomes
use Rattle.dura_value.specs.Ids.{Id, orchestration, entity, client}
use Rattle.dura_value.specs.Messages.{Answer, is_done, has_failed, was_started, was_there, is_unknown, was_raised, has_ended, is_missing, is_running, is_value, start, raise, query, wait, to_request}
use Rattle.flow_syntax.specs.Syntax.{not_of, length_of, text_of, add, sub, mul, div, rem, equal, less, both, either, join, at, push, scalar, variable, list, unary, binary, no_parts, part, let_be, spawn, call, Expression, Block, subflow, ask, timer, event, await, await_all, await_any, signal, lock_in, if_then, while, try, return, fail, nothing, first_then, Flows}
use Rattle.dura_model.specs.Steps.{Label, take, deliver, finish, fire}
use Rattle.dura_model.specs.Legal.{after, is_due}
use Rattle.worked_rows.specs.Made.{named, class_with, locked, message, answers_in, stands_in}
use Rattle.std.specs.Prelude.{Result, Ok, Err}
use Rattle.dura_value.specs.declared.data.Value.{Value}
use Rattle.flow_syntax.specs.Machine.{Progress, running, done, failed}
use Rattle.worked_rows.specs.Made.{values_of, ends_of, ends_inside}

abbrev pub given : List Block
given =
    nothing ∷
    (first_then (ask (codes "h") (codes "C") (scalar (scalars.Text (codes "k"))) (codes "op") (scalar (scalars.Int (pos 1)))) (first_then (return (variable (codes "h"))) nothing)) ∷
    (first_then (ask (codes "h") (codes "C") (scalar (scalars.Text (codes "other"))) (codes "op") (scalar (scalars.Int (pos 1)))) nothing) ∷
    (first_then (ask (codes "h") (codes "D") (scalar (scalars.Text (codes "k"))) (codes "op") (scalar (scalars.Int (pos 1)))) nothing) ∷
    (first_then (ask (codes "h") (codes "C") (scalar (scalars.Text (codes "k"))) (codes "op") (scalar (scalars.Int (pos 1)))) (first_then (ask (codes "h") (codes "C") (scalar (scalars.Text (codes "k"))) (codes "op") (scalar (scalars.Int (pos 1)))) nothing)) ∷
    (first_then (ask (codes "h") (codes "C") (scalar (scalars.Text (codes "k"))) (codes "op") (scalar (scalars.Int (pos 1)))) (first_then (ask (codes "g") (codes "C") (scalar (scalars.Text (codes "m"))) (codes "op") (scalar (scalars.Int (pos 1)))) (first_then (return (variable (codes "g"))) nothing))) ∷
    (first_then (signal (codes "C") (scalar (scalars.Text (codes "k"))) (codes "op") (scalar (scalars.Int (pos 1)))) nothing) ∷
    (first_then (signal (codes "C") (scalar (scalars.Text (codes "other"))) (codes "op") (scalar (scalars.Int (pos 1)))) nothing) ∷
    (first_then (subflow (codes "h") (codes "F") (scalar (scalars.Text (codes "k"))) (scalar (scalars.Int (pos 1)))) nothing) ∷
    (first_then (lock_in (locked (codes "C") (scalar (scalars.Text (codes "z"))) ∷ []) nothing) nothing) ∷
    (first_then (lock_in (locked (codes "C") (scalar (scalars.Text (codes "k"))) ∷ []) nothing) nothing) ∷
    (first_then (spawn (codes "h") (codes "echo") (scalar (scalars.Int (pos 1)))) (first_then (timer (codes "t") (scalar (scalars.Int (pos 1)))) (first_then (event (codes "e") (codes "go")) (first_then (return (variable (codes "e"))) nothing)))) ∷
    (first_then (call (codes "x") (codes "echo") (scalar (scalars.Int (pos 1)))) nothing) ∷
    (first_then (fail (scalar (scalars.Text (codes "in")))) nothing) ∷
    (first_then (ask (codes "h") (codes "C") (scalar (scalars.Text (codes "a b"))) (codes "op") (scalar (scalars.Int (pos 1)))) nothing) ∷
    (first_then (subflow (codes "h") (codes "F") (scalar (scalars.Text (codes "k"))) (variable (codes "none"))) nothing) ∷
    []

abbrev pub wanted : List (Progress)
wanted =
    (done values.Null) ∷
    (done (values.Int (pos 1))) ∷
    (failed (codes "lockrule")) ∷
    (failed (codes "lockrule")) ∷
    (failed (codes "lockrule")) ∷
    (done (values.Int (pos 2))) ∷
    (failed (codes "lockrule")) ∷
    (done values.Null) ∷
    (failed (codes "lockrule")) ∷
    (failed (codes "lockrule")) ∷
    (failed (codes "lockrule")) ∷
    (done (values.Int (pos 3))) ∷
    (running) ∷
    (failed (codes "in")) ∷
    (failed (codes "key")) ∷
    (failed (codes "unset")) ∷
    []

-- each gives what is wanted
abbrev pub Agrees : Type 0
Agrees = ends_inside given ≡ wanted
