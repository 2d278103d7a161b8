-- Made by tools/theorems from a run that was written down.
use Rattle.std.specs.Prelude.{◌≡◌, Bool, true, false, ℕ, List, [], ◌∷◌, codes, pos, negsuc, is_some, is_none, Option, Some, None, option_map}
use Rattle.dura_value.specs.declared.data.Scalar.TheVariants as scalars
use Rattle.dura_value.specs.declared.data.Value.TheVariants as values
use Rattle.dura_value.specs.declared.outcome.Outcome.TheVariants as outcomes
use Rattle.dura_value.specs.Ids.{Id, orchestration, entity, client}
use Rattle.dura_value.specs.Messages.{Answer, is_done, has_failed, was_started, was_there, is_unknown, was_raised, has_ended, is_missing, is_running, is_value, start, raise, query, wait, to_request}
use Rattle.flow_syntax.specs.Syntax.{not_of, length_of, text_of, add, sub, mul, div, rem, equal, less, both, either, join, at, push, scalar, variable, list, unary, binary, no_parts, part, let_be, spawn, call, subflow, ask, timer, event, await, await_all, await_any, signal, lock_in, if_then, while, try, return, fail, nothing, first_then, Flows}
use Rattle.dura_model.specs.Steps.{Label, take, deliver, finish, fire}
use Rattle.dura_model.specs.Legal.{after, is_due}
use Rattle.worked_rows.specs.Made.{named, class_with, locked, message, answers_in, stands_in}

abbrev pub flows : Flows
flows = record { flows = (named (codes "F0") (first_then (let_be (codes "x") (scalar (scalars.Int (pos 0)))) (first_then (let_be (codes "y") (unary text_of (unary length_of (scalar (scalars.Text (codes "a")))))) (first_then (signal (codes "C0") (scalar (scalars.Text (codes "A"))) (codes "op2") (scalar (scalars.Int (pos 5)))) (first_then (ask (codes "q1") (codes "C0") (scalar (scalars.Text (codes "B"))) (codes "op1") (variable (codes "arg"))) (first_then (await (codes "a") (variable (codes "q1"))) (first_then (let_be (codes "x") (scalar (scalars.Text (codes "none")))) (first_then (try (first_then (let_be (codes "a") (scalar (scalars.Text (codes "none")))) (first_then (try (first_then (spawn (codes "h2") (codes "concat") (list (part (scalar (scalars.Text (codes "got "))) (part (scalar (scalars.Text (codes "k1"))) (part (scalar (scalars.Text (codes "x.y"))) no_parts))))) (first_then (spawn (codes "h3") (codes "echo") (variable (codes "y"))) (first_then (await_all (codes "y") (list (part (variable (codes "h2")) (part (variable (codes "h3")) no_parts)))) (first_then (let_be (codes "y") (list (part (scalar (scalars.Text (240 ∷ 159 ∷ 152 ∷ 128 ∷ []))) (part (scalar (scalars.Text (codes "B_"))) (part (variable (codes "a")) (part (scalar (scalars.Text (116 ∷ 97 ∷ 98 ∷ 9 ∷ 34 ∷ 113 ∷ 34 ∷ 92 ∷ []))) no_parts)))))) (first_then (call (codes "b") (codes "fail") (variable (codes "x"))) nothing))))) (codes "a") (first_then (spawn (codes "h4") (codes "add") (list (part (variable (codes "arg")) (part (binary div (list no_parts) (scalar (scalars.Int (pos 3)))) no_parts)))) (first_then (await (codes "d") (variable (codes "h4"))) nothing))) nothing)) (codes "x") nothing) (first_then (ask (codes "q5") (codes "C0") (scalar (scalars.Text (codes "B"))) (codes "op2") (scalar (scalars.Int (pos 9)))) (first_then (await (codes "c") (variable (codes "q5"))) (first_then (return (variable (codes "x"))) nothing)))))))))) ∷ []); classes = (named (codes "C0") (class_with (values.Int (pos 100)) (named (codes "op0") (first_then (let_be (codes "self") (binary add (variable (codes "self")) (variable (codes "arg")))) (first_then (return (variable (codes "self"))) nothing)) ∷ named (codes "op1") (first_then (try (first_then (let_be (codes "self") (binary div (variable (codes "self")) (variable (codes "arg")))) nothing) (codes "e") (first_then (return (variable (codes "e"))) nothing)) (first_then (return (variable (codes "self"))) nothing)) ∷ named (codes "op2") (first_then (try (first_then (let_be (codes "self") (binary div (variable (codes "self")) (variable (codes "arg")))) nothing) (codes "e") (first_then (return (variable (codes "e"))) nothing)) (first_then (return (variable (codes "self"))) nothing)) ∷ [])) ∷ []) }

abbrev pub run : List Label
run =
    take (client (codes "a")) 1 (message (client (codes "a")) (orchestration (codes "F0") (codes "x")) (start (values.Int (pos 40)) (to_request 1))) ∷
    deliver (client (codes "a")) (orchestration (codes "F0") (codes "x")) 0 ∷
    take (client (codes "b")) 1 (message (client (codes "b")) (orchestration (codes "Nosuch") (codes "k")) (wait 1)) ∷
    deliver (orchestration (codes "F0") (codes "x")) (entity (codes "C0") (codes "B")) 0 ∷
    deliver (entity (codes "C0") (codes "B")) (orchestration (codes "F0") (codes "x")) 0 ∷
    deliver (orchestration (codes "F0") (codes "x")) (entity (codes "C0") (codes "A")) 0 ∷
    finish (orchestration (codes "F0") (codes "x")) 2 (outcomes.Done (values.Text (codes "1"))) ∷
    finish (orchestration (codes "F0") (codes "x")) 1 (outcomes.Done (values.Text (codes "got k1x.y"))) ∷
    finish (orchestration (codes "F0") (codes "x")) 3 (outcomes.Failed (codes "none")) ∷
    deliver (orchestration (codes "F0") (codes "x")) (entity (codes "C0") (codes "B")) 0 ∷
    deliver (orchestration (codes "F0") (codes "x")) (client (codes "a")) 0 ∷
    deliver (entity (codes "C0") (codes "B")) (orchestration (codes "F0") (codes "x")) 0 ∷
    take (client (codes "a")) 2 (message (client (codes "a")) (orchestration (codes "F0") (codes "y")) (start (values.List ((scalars.Int (pos 1)) ∷ (scalars.Int (pos 2)) ∷ [])) (to_request 2))) ∷
    deliver (client (codes "a")) (orchestration (codes "F0") (codes "y")) 1 ∷
    deliver (orchestration (codes "F0") (codes "y")) (entity (codes "C0") (codes "A")) 1 ∷
    deliver (orchestration (codes "F0") (codes "y")) (entity (codes "C0") (codes "B")) 1 ∷
    deliver (entity (codes "C0") (codes "B")) (orchestration (codes "F0") (codes "y")) 1 ∷
    finish (orchestration (codes "F0") (codes "y")) 1 (outcomes.Done (values.Text (codes "got k1x.y"))) ∷
    deliver (client (codes "b")) (orchestration (codes "Nosuch") (codes "k")) 1 ∷
    deliver (orchestration (codes "Nosuch") (codes "k")) (client (codes "b")) 1 ∷
    finish (orchestration (codes "F0") (codes "y")) 2 (outcomes.Done (values.Text (codes "1"))) ∷
    finish (orchestration (codes "F0") (codes "y")) 3 (outcomes.Failed (codes "none")) ∷
    deliver (orchestration (codes "F0") (codes "y")) (entity (codes "C0") (codes "B")) 4 ∷
    deliver (entity (codes "C0") (codes "B")) (orchestration (codes "F0") (codes "y")) 4 ∷
    deliver (orchestration (codes "F0") (codes "y")) (client (codes "a")) 4 ∷
    take (client (codes "a")) 3 (message (client (codes "a")) (orchestration (codes "F0") (codes "x")) (wait 3)) ∷
    deliver (client (codes "a")) (orchestration (codes "F0") (codes "x")) 4 ∷
    deliver (orchestration (codes "F0") (codes "x")) (client (codes "a")) 4 ∷
    take (client (codes "a")) 4 (message (client (codes "a")) (orchestration (codes "F0") (codes "y")) (wait 4)) ∷
    deliver (client (codes "a")) (orchestration (codes "F0") (codes "y")) 5 ∷
    deliver (orchestration (codes "F0") (codes "y")) (client (codes "a")) 5 ∷
    take (client (codes "a")) 5 (message (client (codes "a")) (entity (codes "C0") (codes "B")) (query 5)) ∷
    deliver (client (codes "a")) (entity (codes "C0") (codes "B")) 5 ∷
    deliver (entity (codes "C0") (codes "B")) (client (codes "a")) 5 ∷
    []

abbrev pub good_front : List Label
good_front =
    take (client (codes "a")) 1 (message (client (codes "a")) (orchestration (codes "F0") (codes "x")) (start (values.Int (pos 40)) (to_request 1))) ∷
    take (client (codes "b")) 1 (message (client (codes "b")) (orchestration (codes "Nosuch") (codes "k")) (wait 1)) ∷
    []

abbrev pub bad_front : List Label
bad_front =
    take (client (codes "a")) 1 (message (client (codes "a")) (orchestration (codes "F0") (codes "x")) (start (values.Int (pos 40)) (to_request 1))) ∷
    take (client (codes "b")) 1 (message (client (codes "b")) (orchestration (codes "Nosuch") (codes "k")) (wait 1)) ∷
    deliver (orchestration (codes "F0") (codes "x")) (entity (codes "C0") (codes "B")) 0 ∷
    []

-- the requests, and their answers
abbrev pub asked : List (Id × ℕ)
asked = ((client (codes "a"), 1) ∷ (client (codes "a"), 2) ∷ (client (codes "a"), 3) ∷ (client (codes "a"), 4) ∷ (client (codes "a"), 5) ∷ (client (codes "b"), 1) ∷ [])

abbrev pub answers : List (Option Answer)
answers = (Some was_started ∷ Some was_started ∷ Some (is_done (values.Text (codes "type"))) ∷ Some (is_done (values.Text (codes "type"))) ∷ Some (is_value (values.Int (pos 0))) ∷ Some is_missing ∷ [])

-- what the run answers, and how all stand after it, and where the other one stops
abbrev pub Agrees : Type 0
Agrees =
    (option_map (answers_in asked) (after flows run) ≡ Some answers)
    × (option_map (stands_in flows ((entity (codes "C0") (codes "A")) ∷ (entity (codes "C0") (codes "B")) ∷ (orchestration (codes "F0") (codes "x")) ∷ (orchestration (codes "F0") (codes "y")) ∷ [])) (after flows run) ≡ Some (Some (is_value (values.Int (pos 4))) ∷ Some (is_value (values.Int (pos 0))) ∷ Some (is_done (values.Text (codes "type"))) ∷ Some (is_done (values.Text (codes "type"))) ∷ []))
    × (is_some (after flows good_front) ≡ true)
    × (is_none (after flows bad_front) ≡ true)
