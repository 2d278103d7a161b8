-- Made by tools/theorems from a run that was written down.
use Rattle.std.specs.Prelude.{◌≡◌, Bool, true, false, ℕ, List, [], ◌∷◌, codes, pos, negsuc, is_some, is_none, Option, Some, None, option_map}
use Rattle.dura_value.specs.declared.data.Scalar.TheVariants as scalars
use Rattle.dura_value.specs.declared.data.Value.TheVariants as values
use Rattle.dura_value.specs.declared.outcome.Outcome.TheVariants as outcomes
use Rattle.dura_value.specs.Ids.{Id, orchestration, entity, client}
use Rattle.dura_value.specs.Messages.{Answer, is_done, has_failed, was_started, was_there, is_unknown, was_raised, has_ended, is_missing, is_running, is_value, start, raise, query, wait, to_request}
use Rattle.flow_syntax.specs.Syntax.{not_of, length_of, text_of, add, sub, mul, div, rem, equal, less, both, either, join, at, push, scalar, variable, list, unary, binary, no_parts, part, let_be, spawn, call, subflow, ask, timer, event, await, await_all, await_any, signal, lock_in, if_then, while, try, return, fail, nothing, first_then, Flows}
use Rattle.dura_model.specs.Steps.{Label, take, deliver, finish, fire}
use Rattle.dura_model.specs.Legal.{after, is_due}
use Rattle.worked_rows.specs.Made.{named, class_with, locked, message, answers_in, stands_in}

abbrev pub flows : Flows
flows = record { flows = (named (codes "F0") (first_then (let_be (codes "x") (scalar (scalars.Int (pos 0)))) (first_then (return (binary join (scalar (scalars.Text ([]))) (unary text_of (variable (codes "arg"))))) (first_then (if_then (binary less (binary join (scalar (scalars.Text (codes "B_"))) (scalar (scalars.Text (codes "no")))) (scalar (scalars.Text ([])))) (first_then (spawn (codes "h1") (codes "concat") (list (part (scalar (scalars.Text (codes "zz-9"))) (part (scalar (scalars.Text (codes "no"))) (part (scalar (scalars.Text (1 ∷ []))) no_parts))))) (first_then (await (codes "a") (variable (codes "h1"))) nothing)) nothing) (first_then (return (variable (codes "x"))) nothing)))) ∷ named (codes "F1") (first_then (let_be (codes "y") (scalar (scalars.Int (pos 0)))) (first_then (let_be (codes "c") (list (part (scalar (scalars.Int (pos 0))) no_parts))) (first_then (let_be (codes "x") (scalar (scalars.Text (codes "none")))) (first_then (try (first_then (timer (codes "x") (scalar (scalars.Int (negsuc 0)))) nothing) (codes "x") nothing) (first_then (let_be (codes "a") (scalar (scalars.Text (codes "none")))) (first_then (try (first_then (spawn (codes "h2") (codes "add") (list (part (binary div (variable (codes "arg")) (scalar (scalars.Int (negsuc 0)))) (part (scalar (scalars.Int (pos 0))) no_parts)))) (first_then (await_any (codes "d") (list (part (variable (codes "h2")) no_parts))) (first_then (let_be (codes "i3") (scalar (scalars.Int (pos 0)))) (first_then (while (binary less (variable (codes "i3")) (scalar (scalars.Int (pos 2)))) (first_then (spawn (codes "h4") (codes "echo") (binary mul (scalar (scalars.Int (pos 7))) (scalar (scalars.Int (pos 7))))) (first_then (spawn (codes "h5") (codes "add") (list (part (variable (codes "d")) (part (binary add (variable (codes "arg")) (variable (codes "d"))) no_parts)))) (first_then (await_any (codes "x") (list (part (variable (codes "h4")) (part (variable (codes "h5")) no_parts)))) (first_then (let_be (codes "i3") (binary add (variable (codes "i3")) (scalar (scalars.Int (pos 1))))) nothing))))) (first_then (let_be (codes "c") (variable (codes "d"))) nothing))))) (codes "a") nothing) (first_then (return (variable (codes "y"))) nothing))))))) ∷ []); classes = ([]) }

abbrev pub run : List Label
run =
    take (client (codes "a")) 1 (message (client (codes "a")) (orchestration (codes "F0") (codes "k")) (start (values.Int (negsuc 0)) (to_request 1))) ∷
    deliver (client (codes "a")) (orchestration (codes "F0") (codes "k")) 0 ∷
    deliver (orchestration (codes "F0") (codes "k")) (client (codes "a")) 0 ∷
    take (client (codes "a")) 2 (message (client (codes "a")) (orchestration (codes "F1") (codes "x")) (start (values.Int (pos 40)) (to_request 2))) ∷
    deliver (client (codes "a")) (orchestration (codes "F1") (codes "x")) 0 ∷
    deliver (orchestration (codes "F1") (codes "x")) (client (codes "a")) 0 ∷
    finish (orchestration (codes "F1") (codes "x")) 0 (outcomes.Done (values.Int (negsuc 39))) ∷
    finish (orchestration (codes "F1") (codes "x")) 2 (outcomes.Done (values.Int (pos 40))) ∷
    finish (orchestration (codes "F1") (codes "x")) 3 (outcomes.Done (values.Int (pos 49))) ∷
    take (client (codes "a")) 3 (message (client (codes "a")) (orchestration (codes "F1") (codes "sub1")) (start (values.Int (negsuc 0)) (to_request 3))) ∷
    deliver (client (codes "a")) (orchestration (codes "F1") (codes "sub1")) 2 ∷
    deliver (orchestration (codes "F1") (codes "sub1")) (client (codes "a")) 2 ∷
    finish (orchestration (codes "F1") (codes "sub1")) 0 (outcomes.Done (values.Int (pos 1))) ∷
    take (client (codes "a")) 4 (message (client (codes "a")) (orchestration (codes "F0") (codes "k")) (wait 4)) ∷
    finish (orchestration (codes "F1") (codes "sub1")) 1 (outcomes.Done (values.Int (pos 49))) ∷
    finish (orchestration (codes "F1") (codes "sub1")) 3 (outcomes.Done (values.Int (pos 49))) ∷
    deliver (client (codes "a")) (orchestration (codes "F0") (codes "k")) 2 ∷
    deliver (orchestration (codes "F0") (codes "k")) (client (codes "a")) 5 ∷
    take (client (codes "a")) 5 (message (client (codes "a")) (orchestration (codes "F1") (codes "x")) (wait 5)) ∷
    deliver (client (codes "a")) (orchestration (codes "F1") (codes "x")) 5 ∷
    deliver (orchestration (codes "F1") (codes "x")) (client (codes "a")) 5 ∷
    take (client (codes "a")) 6 (message (client (codes "a")) (orchestration (codes "F1") (codes "sub1")) (wait 6)) ∷
    deliver (client (codes "a")) (orchestration (codes "F1") (codes "sub1")) 5 ∷
    deliver (orchestration (codes "F1") (codes "sub1")) (client (codes "a")) 5 ∷
    []

abbrev pub good_front : List Label
good_front =
    take (client (codes "a")) 1 (message (client (codes "a")) (orchestration (codes "F0") (codes "k")) (start (values.Int (negsuc 0)) (to_request 1))) ∷
    deliver (client (codes "a")) (orchestration (codes "F0") (codes "k")) 0 ∷
    deliver (orchestration (codes "F0") (codes "k")) (client (codes "a")) 0 ∷
    take (client (codes "a")) 2 (message (client (codes "a")) (orchestration (codes "F1") (codes "x")) (start (values.Int (pos 40)) (to_request 2))) ∷
    deliver (client (codes "a")) (orchestration (codes "F1") (codes "x")) 0 ∷
    deliver (orchestration (codes "F1") (codes "x")) (client (codes "a")) 0 ∷
    finish (orchestration (codes "F1") (codes "x")) 0 (outcomes.Done (values.Int (negsuc 39))) ∷
    finish (orchestration (codes "F1") (codes "x")) 2 (outcomes.Done (values.Int (pos 40))) ∷
    finish (orchestration (codes "F1") (codes "x")) 3 (outcomes.Done (values.Int (pos 49))) ∷
    take (client (codes "a")) 3 (message (client (codes "a")) (orchestration (codes "F1") (codes "sub1")) (start (values.Int (negsuc 0)) (to_request 3))) ∷
    deliver (client (codes "a")) (orchestration (codes "F1") (codes "sub1")) 2 ∷
    deliver (orchestration (codes "F1") (codes "sub1")) (client (codes "a")) 2 ∷
    finish (orchestration (codes "F1") (codes "sub1")) 0 (outcomes.Done (values.Int (pos 1))) ∷
    take (client (codes "a")) 4 (message (client (codes "a")) (orchestration (codes "F0") (codes "k")) (wait 4)) ∷
    finish (orchestration (codes "F1") (codes "sub1")) 1 (outcomes.Done (values.Int (pos 49))) ∷
    finish (orchestration (codes "F1") (codes "sub1")) 3 (outcomes.Done (values.Int (pos 49))) ∷
    []

abbrev pub bad_front : List Label
bad_front =
    take (client (codes "a")) 1 (message (client (codes "a")) (orchestration (codes "F0") (codes "k")) (start (values.Int (negsuc 0)) (to_request 1))) ∷
    deliver (client (codes "a")) (orchestration (codes "F0") (codes "k")) 0 ∷
    deliver (orchestration (codes "F0") (codes "k")) (client (codes "a")) 0 ∷
    take (client (codes "a")) 2 (message (client (codes "a")) (orchestration (codes "F1") (codes "x")) (start (values.Int (pos 40)) (to_request 2))) ∷
    deliver (client (codes "a")) (orchestration (codes "F1") (codes "x")) 0 ∷
    deliver (orchestration (codes "F1") (codes "x")) (client (codes "a")) 0 ∷
    finish (orchestration (codes "F1") (codes "x")) 0 (outcomes.Done (values.Int (negsuc 39))) ∷
    finish (orchestration (codes "F1") (codes "x")) 2 (outcomes.Done (values.Int (pos 40))) ∷
    finish (orchestration (codes "F1") (codes "x")) 3 (outcomes.Done (values.Int (pos 49))) ∷
    take (client (codes "a")) 3 (message (client (codes "a")) (orchestration (codes "F1") (codes "sub1")) (start (values.Int (negsuc 0)) (to_request 3))) ∷
    deliver (client (codes "a")) (orchestration (codes "F1") (codes "sub1")) 2 ∷
    deliver (orchestration (codes "F1") (codes "sub1")) (client (codes "a")) 2 ∷
    finish (orchestration (codes "F1") (codes "sub1")) 0 (outcomes.Done (values.Int (pos 1))) ∷
    take (client (codes "a")) 4 (message (client (codes "a")) (orchestration (codes "F0") (codes "k")) (wait 4)) ∷
    finish (orchestration (codes "F1") (codes "sub1")) 1 (outcomes.Done (values.Int (pos 49))) ∷
    finish (orchestration (codes "F1") (codes "sub1")) 3 (outcomes.Done (values.Int (pos 49))) ∷
    deliver (orchestration (codes "F0") (codes "k")) (client (codes "a")) 5 ∷
    []

-- the requests, and their answers
abbrev pub asked : List (Id × ℕ)
asked = ((client (codes "a"), 1) ∷ (client (codes "a"), 2) ∷ (client (codes "a"), 3) ∷ (client (codes "a"), 4) ∷ (client (codes "a"), 5) ∷ (client (codes "a"), 6) ∷ [])

abbrev pub answers : List (Option Answer)
answers = (Some was_started ∷ Some was_started ∷ Some was_started ∷ Some (is_done (values.Text (codes "-1"))) ∷ Some (is_done (values.Int (pos 0))) ∷ Some (is_done (values.Int (pos 0))) ∷ [])

-- what the run answers, and how all stand after it, and where the other one stops
abbrev pub Agrees : Type 0
Agrees =
    (option_map (answers_in asked) (after flows run) ≡ Some answers)
    × (option_map (stands_in flows ((orchestration (codes "F0") (codes "k")) ∷ (orchestration (codes "F1") (codes "sub1")) ∷ (orchestration (codes "F1") (codes "x")) ∷ [])) (after flows run) ≡ Some (Some (is_done (values.Text (codes "-1"))) ∷ Some (is_done (values.Int (pos 0))) ∷ Some (is_done (values.Int (pos 0))) ∷ []))
    × (is_some (after flows good_front) ≡ true)
    × (is_none (after flows bad_front) ≡ true)
