-- Made by tools/theorems from a run that was written down.
use Rattle.std.specs.Prelude.{◌≡◌, Bool, true, false, ℕ, List, [], ◌∷◌, codes, pos, negsuc, is_some, is_none, Option, Some, None, option_map}
use Rattle.dura_value.specs.declared.data.Scalar.TheVariants as scalars
use Rattle.dura_value.specs.declared.data.Value.TheVariants as values
use Rattle.dura_value.specs.declared.outcome.Outcome.TheVariants as outcomes
use Rattle.dura_value.specs.Ids.{Id, orchestration, entity, client}
use Rattle.dura_value.specs.Messages.{Answer, is_done, has_failed, was_started, was_there, is_unknown, was_raised, has_ended, is_missing, is_running, is_value, start, raise, query, wait, to_request}
use Rattle.flow_syntax.specs.Syntax.{not_of, length_of, text_of, add, sub, mul, div, rem, equal, less, both, either, join, at, push, scalar, variable, list, unary, binary, no_parts, part, let_be, spawn, call, subflow, ask, timer, event, await, await_all, await_any, signal, lock_in, if_then, while, try, return, fail, nothing, first_then, Flows}
use Rattle.dura_model.specs.Steps.{Label, take, deliver, finish, fire}
use Rattle.dura_model.specs.Legal.{after, is_due}
use Rattle.worked_rows.specs.Made.{named, class_with, locked, message, answers_in, stands_in}

abbrev pub flows : Flows
flows = record { flows = (named (codes "F1") (first_then (let_be (codes "c") (scalar (scalars.Int (pos 0)))) (first_then (let_be (codes "c") (variable (codes "arg"))) (first_then (let_be (codes "n") (scalar (scalars.Int (pos 3)))) (first_then (let_be (codes "b") (scalar (scalars.Int (pos 0)))) (first_then (let_be (codes "a") (scalar (scalars.Text (codes "none")))) (first_then (subflow (codes "s1") (codes "F2") (binary join (scalar (scalars.Text (codes "w"))) (unary text_of (variable (codes "n")))) (scalar (scalars.Int (pos 3)))) (first_then (await (codes "b") (variable (codes "s1"))) (first_then (spawn (codes "h2") (codes "echo") (scalar (scalars.Int (negsuc 0)))) (first_then (spawn (codes "h3") (codes "concat") (list (part (scalar (scalars.Text (codes "no"))) no_parts))) (first_then (await_all (codes "d") (list (part (variable (codes "h2")) (part (variable (codes "h3")) no_parts)))) (first_then (return (variable (codes "arg"))) nothing))))))))))) ∷ named (codes "F2") (first_then (let_be (codes "x") (scalar (scalars.Int (pos 0)))) (first_then (spawn (codes "h4") (codes "echo") (list (part (variable (codes "arg")) (part (scalar (scalars.Int (pos 7))) (part (variable (codes "arg")) no_parts))))) (first_then (await_all (codes "x") (list (part (variable (codes "h4")) no_parts))) (first_then (let_be (codes "x") (scalar (scalars.Text (codes "none")))) (first_then (try (first_then (spawn (codes "h5") (codes "echo") (binary mul (scalar (scalars.Int (negsuc 3))) (scalar (scalars.Int (pos 6))))) (first_then (spawn (codes "h6") (codes "add") (list (part (scalar (scalars.Int (pos 0))) (part (variable (codes "arg")) no_parts)))) (first_then (spawn (codes "h7") (codes "echo") (variable (codes "arg"))) (first_then (await_all (codes "c") (list (part (variable (codes "h5")) (part (variable (codes "h6")) (part (variable (codes "h7")) no_parts))))) (first_then (let_be (codes "a") (unary text_of (variable (codes "arg")))) nothing))))) (codes "x") nothing) (first_then (return (binary mul (scalar (scalars.Int (pos 10))) (variable (codes "arg")))) nothing)))))) ∷ []); classes = ([]) }

abbrev pub run : List Label
run =
    take (client (codes "a")) 1 (message (client (codes "a")) (orchestration (codes "F2") (codes "x")) (start values.True (to_request 1))) ∷
    deliver (client (codes "a")) (orchestration (codes "F2") (codes "x")) 0 ∷
    deliver (orchestration (codes "F2") (codes "x")) (client (codes "a")) 0 ∷
    finish (orchestration (codes "F2") (codes "x")) 0 (outcomes.Done (values.List (scalars.True ∷ (scalars.Int (pos 7)) ∷ scalars.True ∷ []))) ∷
    take (client (codes "a")) 2 (message (client (codes "a")) (orchestration (codes "F2") (codes "sub1")) (start (values.Int (negsuc 0)) (to_request 2))) ∷
    deliver (client (codes "a")) (orchestration (codes "F2") (codes "sub1")) 1 ∷
    deliver (orchestration (codes "F2") (codes "sub1")) (client (codes "a")) 1 ∷
    finish (orchestration (codes "F2") (codes "sub1")) 0 (outcomes.Done (values.List ((scalars.Int (negsuc 0)) ∷ (scalars.Int (pos 7)) ∷ (scalars.Int (negsuc 0)) ∷ []))) ∷
    take (client (codes "a")) 3 (message (client (codes "a")) (orchestration (codes "F2") (codes "x")) (start values.True (to_request 3))) ∷
    deliver (client (codes "a")) (orchestration (codes "F2") (codes "x")) 1 ∷
    deliver (orchestration (codes "F2") (codes "x")) (client (codes "a")) 1 ∷
    take (client (codes "a")) 4 (message (client (codes "a")) (orchestration (codes "F1") (codes "k")) (start (values.Text (codes "t")) (to_request 4))) ∷
    deliver (client (codes "a")) (orchestration (codes "F1") (codes "k")) 1 ∷
    deliver (orchestration (codes "F1") (codes "k")) (orchestration (codes "F2") (codes "w3")) 1 ∷
    finish (orchestration (codes "F2") (codes "w3")) 0 (outcomes.Done (values.List ((scalars.Int (pos 3)) ∷ (scalars.Int (pos 7)) ∷ (scalars.Int (pos 3)) ∷ []))) ∷
    deliver (orchestration (codes "F2") (codes "w3")) (orchestration (codes "F1") (codes "k")) 1 ∷
    deliver (orchestration (codes "F1") (codes "k")) (client (codes "a")) 1 ∷
    take (client (codes "a")) 5 (message (client (codes "a")) (orchestration (codes "F2") (codes "x")) (wait 5)) ∷
    deliver (client (codes "a")) (orchestration (codes "F2") (codes "x")) 2 ∷
    deliver (orchestration (codes "F2") (codes "x")) (client (codes "a")) 2 ∷
    take (client (codes "a")) 6 (message (client (codes "a")) (orchestration (codes "F2") (codes "sub1")) (wait 6)) ∷
    deliver (client (codes "a")) (orchestration (codes "F2") (codes "sub1")) 2 ∷
    deliver (orchestration (codes "F2") (codes "sub1")) (client (codes "a")) 2 ∷
    take (client (codes "a")) 7 (message (client (codes "a")) (orchestration (codes "F2") (codes "x")) (wait 7)) ∷
    deliver (client (codes "a")) (orchestration (codes "F2") (codes "x")) 2 ∷
    deliver (orchestration (codes "F2") (codes "x")) (client (codes "a")) 2 ∷
    take (client (codes "a")) 8 (message (client (codes "a")) (orchestration (codes "F1") (codes "k")) (wait 8)) ∷
    deliver (client (codes "a")) (orchestration (codes "F1") (codes "k")) 2 ∷
    deliver (orchestration (codes "F1") (codes "k")) (client (codes "a")) 2 ∷
    take (client (codes "a")) 9 (message (client (codes "a")) (orchestration (codes "Nosuch") (codes "k")) (start values.Null (to_request 9))) ∷
    deliver (client (codes "a")) (orchestration (codes "Nosuch") (codes "k")) 2 ∷
    deliver (orchestration (codes "Nosuch") (codes "k")) (client (codes "a")) 2 ∷
    []

abbrev pub good_front : List Label
good_front =
    take (client (codes "a")) 1 (message (client (codes "a")) (orchestration (codes "F2") (codes "x")) (start values.True (to_request 1))) ∷
    deliver (client (codes "a")) (orchestration (codes "F2") (codes "x")) 0 ∷
    deliver (orchestration (codes "F2") (codes "x")) (client (codes "a")) 0 ∷
    finish (orchestration (codes "F2") (codes "x")) 0 (outcomes.Done (values.List (scalars.True ∷ (scalars.Int (pos 7)) ∷ scalars.True ∷ []))) ∷
    []

abbrev pub bad_front : List Label
bad_front =
    take (client (codes "a")) 1 (message (client (codes "a")) (orchestration (codes "F2") (codes "x")) (start values.True (to_request 1))) ∷
    deliver (client (codes "a")) (orchestration (codes "F2") (codes "x")) 0 ∷
    deliver (orchestration (codes "F2") (codes "x")) (client (codes "a")) 0 ∷
    finish (orchestration (codes "F2") (codes "x")) 0 (outcomes.Done (values.List (scalars.True ∷ (scalars.Int (pos 7)) ∷ scalars.True ∷ []))) ∷
    deliver (client (codes "a")) (orchestration (codes "F2") (codes "sub1")) 1 ∷
    []

-- the requests, and their answers
abbrev pub asked : List (Id × ℕ)
asked = ((client (codes "a"), 1) ∷ (client (codes "a"), 2) ∷ (client (codes "a"), 3) ∷ (client (codes "a"), 4) ∷ (client (codes "a"), 5) ∷ (client (codes "a"), 6) ∷ (client (codes "a"), 7) ∷ (client (codes "a"), 8) ∷ (client (codes "a"), 9) ∷ [])

abbrev pub answers : List (Option Answer)
answers = (Some was_started ∷ Some was_started ∷ Some was_there ∷ Some was_started ∷ Some (has_failed (codes "type")) ∷ Some (has_failed (codes "type")) ∷ Some (has_failed (codes "type")) ∷ Some (has_failed (codes "type")) ∷ Some is_unknown ∷ [])

-- what the run answers, and how all stand after it, and where the other one stops
abbrev pub Agrees : Type 0
Agrees =
    (option_map (answers_in asked) (after flows run) ≡ Some answers)
    × (option_map (stands_in flows ((orchestration (codes "F1") (codes "k")) ∷ (orchestration (codes "F2") (codes "sub1")) ∷ (orchestration (codes "F2") (codes "w3")) ∷ (orchestration (codes "F2") (codes "x")) ∷ [])) (after flows run) ≡ Some (Some (has_failed (codes "type")) ∷ Some (has_failed (codes "type")) ∷ Some (has_failed (codes "type")) ∷ Some (has_failed (codes "type")) ∷ []))
    × (is_some (after flows good_front) ≡ true)
    × (is_none (after flows bad_front) ≡ true)
