-- Made by tools/theorems from a run that was written down.
use Rattle.std.specs.Prelude.{◌≡◌, Bool, true, false, ℕ, List, [], ◌∷◌, codes, pos, negsuc, is_some, is_none, Option, Some, None, option_map}
use Rattle.dura_value.specs.declared.data.Scalar.TheVariants as scalars
use Rattle.dura_value.specs.declared.data.Value.TheVariants as values
use Rattle.dura_value.specs.declared.outcome.Outcome.TheVariants as outcomes
use Rattle.dura_value.specs.Ids.{Id, orchestration, entity, client}
use Rattle.dura_value.specs.Messages.{Answer, is_done, has_failed, was_started, was_there, is_unknown, was_raised, has_ended, is_missing, is_running, is_value, start, raise, query, wait, to_request}
use Rattle.flow_syntax.specs.Syntax.{not_of, length_of, text_of, add, sub, mul, div, rem, equal, less, both, either, join, at, push, scalar, variable, list, unary, binary, no_parts, part, let_be, spawn, call, subflow, ask, timer, event, await, await_all, await_any, signal, lock_in, if_then, while, try, return, fail, nothing, first_then, Flows}
use Rattle.dura_model.specs.Steps.{Label, take, deliver, finish, fire}
use Rattle.dura_model.specs.Legal.{after, is_due}
use Rattle.worked_rows.specs.Made.{named, class_with, locked, message, answers_in, stands_in}

abbrev pub flows : Flows
flows = record { flows = (named (codes "F0") (first_then (call (codes "y") (codes "add") (list (part (binary add (scalar (scalars.Int (negsuc 1))) (variable (codes "arg"))) (part (variable (codes "arg")) no_parts)))) nothing) ∷ named (codes "F1") (first_then (let_be (codes "x") (scalar (scalars.Int (pos 0)))) (first_then (let_be (codes "n") (scalar (scalars.Int (pos 1)))) (first_then (let_be (codes "b") (scalar (scalars.Int (pos 0)))) (first_then (let_be (codes "x") (scalar (scalars.Text (codes "none")))) (first_then (subflow (codes "s1") (codes "F2") (binary join (scalar (scalars.Text (codes "w"))) (unary text_of (variable (codes "n")))) (variable (codes "arg"))) (first_then (try (first_then (await (codes "b") (variable (codes "s1"))) nothing) (codes "x") nothing) (first_then (return (variable (codes "arg"))) nothing))))))) ∷ named (codes "F2") (first_then (spawn (codes "h2") (codes "concat") (list (part (scalar (scalars.Text (codes "got "))) no_parts))) (first_then (await (codes "c") (variable (codes "h2"))) (first_then (let_be (codes "b") (scalar (scalars.Text (codes "none")))) (first_then (try (first_then (if_then (scalar (scalars.Int (pos 1))) nothing nothing) nothing) (codes "b") nothing) nothing)))) ∷ []); classes = ([]) }

abbrev pub run : List Label
run =
    take (client (codes "a")) 1 (message (client (codes "a")) (orchestration (codes "F1") (codes "x")) (start (values.Int (pos 7)) (to_request 1))) ∷
    deliver (client (codes "a")) (orchestration (codes "F1") (codes "x")) 0 ∷
    deliver (orchestration (codes "F1") (codes "x")) (client (codes "a")) 0 ∷
    take (client (codes "a")) 2 (message (client (codes "a")) (orchestration (codes "F1") (codes "y")) (start (values.Int (pos 40)) (to_request 2))) ∷
    deliver (orchestration (codes "F1") (codes "x")) (orchestration (codes "F2") (codes "w1")) 0 ∷
    deliver (client (codes "a")) (orchestration (codes "F1") (codes "y")) 0 ∷
    finish (orchestration (codes "F2") (codes "w1")) 0 (outcomes.Done (values.Text (codes "got "))) ∷
    deliver (orchestration (codes "F2") (codes "w1")) (orchestration (codes "F1") (codes "x")) 0 ∷
    deliver (orchestration (codes "F1") (codes "y")) (orchestration (codes "F2") (codes "w1")) 0 ∷
    deliver (orchestration (codes "F1") (codes "y")) (client (codes "a")) 0 ∷
    take (client (codes "a")) 3 (message (client (codes "a")) (orchestration (codes "F0") (codes "x")) (start (values.Int (negsuc 0)) (to_request 3))) ∷
    deliver (client (codes "a")) (orchestration (codes "F0") (codes "x")) 3 ∷
    deliver (orchestration (codes "F2") (codes "w1")) (orchestration (codes "F1") (codes "y")) 3 ∷
    deliver (orchestration (codes "F0") (codes "x")) (client (codes "a")) 3 ∷
    finish (orchestration (codes "F0") (codes "x")) 0 (outcomes.Done (values.Int (negsuc 3))) ∷
    take (client (codes "a")) 6 (message (client (codes "a")) (orchestration (codes "F1") (codes "x")) (start (values.Int (pos 2)) (to_request 6))) ∷
    deliver (client (codes "a")) (orchestration (codes "F1") (codes "x")) 3 ∷
    deliver (orchestration (codes "F1") (codes "x")) (client (codes "a")) 3 ∷
    take (client (codes "a")) 9 (message (client (codes "a")) (orchestration (codes "F1") (codes "x")) (wait 9)) ∷
    deliver (client (codes "a")) (orchestration (codes "F1") (codes "x")) 3 ∷
    deliver (orchestration (codes "F1") (codes "x")) (client (codes "a")) 3 ∷
    take (client (codes "a")) 10 (message (client (codes "a")) (orchestration (codes "F1") (codes "y")) (wait 10)) ∷
    deliver (client (codes "a")) (orchestration (codes "F1") (codes "y")) 3 ∷
    deliver (orchestration (codes "F1") (codes "y")) (client (codes "a")) 3 ∷
    take (client (codes "a")) 11 (message (client (codes "a")) (orchestration (codes "F0") (codes "x")) (wait 11)) ∷
    deliver (client (codes "a")) (orchestration (codes "F0") (codes "x")) 3 ∷
    deliver (orchestration (codes "F0") (codes "x")) (client (codes "a")) 3 ∷
    take (client (codes "a")) 12 (message (client (codes "a")) (orchestration (codes "F1") (codes "x")) (wait 12)) ∷
    deliver (client (codes "a")) (orchestration (codes "F1") (codes "x")) 3 ∷
    deliver (orchestration (codes "F1") (codes "x")) (client (codes "a")) 3 ∷
    []

abbrev pub good_front : List Label
good_front =
    take (client (codes "a")) 1 (message (client (codes "a")) (orchestration (codes "F1") (codes "x")) (start (values.Int (pos 7)) (to_request 1))) ∷
    deliver (client (codes "a")) (orchestration (codes "F1") (codes "x")) 0 ∷
    deliver (orchestration (codes "F1") (codes "x")) (client (codes "a")) 0 ∷
    take (client (codes "a")) 2 (message (client (codes "a")) (orchestration (codes "F1") (codes "y")) (start (values.Int (pos 40)) (to_request 2))) ∷
    deliver (orchestration (codes "F1") (codes "x")) (orchestration (codes "F2") (codes "w1")) 0 ∷
    deliver (client (codes "a")) (orchestration (codes "F1") (codes "y")) 0 ∷
    finish (orchestration (codes "F2") (codes "w1")) 0 (outcomes.Done (values.Text (codes "got "))) ∷
    deliver (orchestration (codes "F2") (codes "w1")) (orchestration (codes "F1") (codes "x")) 0 ∷
    deliver (orchestration (codes "F1") (codes "y")) (client (codes "a")) 0 ∷
    take (client (codes "a")) 3 (message (client (codes "a")) (orchestration (codes "F0") (codes "x")) (start (values.Int (negsuc 0)) (to_request 3))) ∷
    deliver (client (codes "a")) (orchestration (codes "F0") (codes "x")) 3 ∷
    []

abbrev pub bad_front : List Label
bad_front =
    take (client (codes "a")) 1 (message (client (codes "a")) (orchestration (codes "F1") (codes "x")) (start (values.Int (pos 7)) (to_request 1))) ∷
    deliver (client (codes "a")) (orchestration (codes "F1") (codes "x")) 0 ∷
    deliver (orchestration (codes "F1") (codes "x")) (client (codes "a")) 0 ∷
    take (client (codes "a")) 2 (message (client (codes "a")) (orchestration (codes "F1") (codes "y")) (start (values.Int (pos 40)) (to_request 2))) ∷
    deliver (orchestration (codes "F1") (codes "x")) (orchestration (codes "F2") (codes "w1")) 0 ∷
    deliver (client (codes "a")) (orchestration (codes "F1") (codes "y")) 0 ∷
    finish (orchestration (codes "F2") (codes "w1")) 0 (outcomes.Done (values.Text (codes "got "))) ∷
    deliver (orchestration (codes "F2") (codes "w1")) (orchestration (codes "F1") (codes "x")) 0 ∷
    deliver (orchestration (codes "F1") (codes "y")) (client (codes "a")) 0 ∷
    take (client (codes "a")) 3 (message (client (codes "a")) (orchestration (codes "F0") (codes "x")) (start (values.Int (negsuc 0)) (to_request 3))) ∷
    deliver (client (codes "a")) (orchestration (codes "F0") (codes "x")) 3 ∷
    deliver (orchestration (codes "F2") (codes "w1")) (orchestration (codes "F1") (codes "y")) 3 ∷
    []

-- the requests, and their answers
abbrev pub asked : List (Id × ℕ)
asked = ((client (codes "a"), 1) ∷ (client (codes "a"), 2) ∷ (client (codes "a"), 3) ∷ (client (codes "a"), 6) ∷ (client (codes "a"), 9) ∷ (client (codes "a"), 10) ∷ (client (codes "a"), 11) ∷ (client (codes "a"), 12) ∷ [])

abbrev pub answers : List (Option Answer)
answers = (Some was_started ∷ Some was_started ∷ Some was_started ∷ Some was_there ∷ Some (is_done (values.Int (pos 7))) ∷ Some (is_done (values.Int (pos 40))) ∷ Some (is_done values.Null) ∷ Some (is_done (values.Int (pos 7))) ∷ [])

-- what the run answers, and how all stand after it, and where the other one stops
abbrev pub Agrees : Type 0
Agrees =
    (option_map (answers_in asked) (after flows run) ≡ Some answers)
    × (option_map (stands_in flows ((orchestration (codes "F0") (codes "x")) ∷ (orchestration (codes "F1") (codes "x")) ∷ (orchestration (codes "F1") (codes "y")) ∷ (orchestration (codes "F2") (codes "w1")) ∷ [])) (after flows run) ≡ Some (Some (is_done values.Null) ∷ Some (is_done (values.Int (pos 7))) ∷ Some (is_done (values.Int (pos 40))) ∷ Some (is_done values.Null) ∷ []))
    × (is_some (after flows good_front) ≡ true)
    × (is_none (after flows bad_front) ≡ true)
