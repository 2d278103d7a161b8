-- Made by tools/theorems from a run that was written down.
use Rattle.std.specs.Prelude.{◌≡◌, Bool, true, false, ℕ, List, [], ◌∷◌, codes, pos, negsuc, is_some, is_none, Option, Some, None, option_map}
use Rattle.dura_value.specs.declared.data.Scalar.TheVariants as scalars
use Rattle.dura_value.specs.declared.data.Value.TheVariants as values
use Rattle.dura_value.specs.declared.outcome.Outcome.TheVariants as outcomes
use Rattle.dura_value.specs.Ids.{Id, orchestration, entity, client}
use Rattle.dura_value.specs.Messages.{Answer, is_done, has_failed, was_started, was_there, is_unknown, was_raised, has_ended, is_missing, is_running, is_value, start, raise, query, wait, to_request}
use Rattle.flow_syntax.specs.Syntax.{not_of, length_of, text_of, add, sub, mul, div, rem, equal, less, both, either, join, at, push, scalar, variable, list, unary, binary, no_parts, part, let_be, spawn, call, subflow, ask, timer, event, await, await_all, await_any, signal, lock_in, if_then, while, try, return, fail, nothing, first_then, Flows}
use Rattle.dura_model.specs.Steps.{Label, take, deliver, finish, fire}
use Rattle.dura_model.specs.Legal.{after, is_due}
use Rattle.worked_rows.specs.Made.{named, class_with, locked, message, answers_in, stands_in}

abbrev pub flows : Flows
flows = record { flows = (named (codes "F0") (first_then (let_be (codes "a") (scalar (scalars.Text (codes "none")))) (first_then (try (first_then (let_be (codes "a") (binary mul (scalar (scalars.Int (pos 4611686018427387904))) (scalar (scalars.Int (pos 2))))) nothing) (codes "a") nothing) (first_then (spawn (codes "h1") (codes "add") (list (part (binary sub (variable (codes "arg")) (variable (codes "arg"))) (part (variable (codes "arg")) no_parts)))) (first_then (spawn (codes "h2") (codes "echo") (scalar (scalars.Int (negsuc 1)))) (first_then (spawn (codes "h3") (codes "echo") (binary at (list (part (variable (codes "arg")) (part (variable (codes "arg")) no_parts))) (scalar (scalars.Int (pos 1))))) (first_then (await_all (codes "x") (list (part (variable (codes "h1")) (part (variable (codes "h2")) (part (variable (codes "h3")) no_parts))))) (first_then (call (codes "d") (codes "nosuch") (variable (codes "arg"))) (first_then (let_be (codes "y") (list (part (scalar scalars.Null) (part (scalar scalars.Null) (part (scalar scalars.Null) no_parts))))) (first_then (let_be (codes "a") (scalar (scalars.Text (codes "none")))) (first_then (try (first_then (while (scalar scalars.True) nothing) (first_then (let_be (codes "i4") (scalar (scalars.Int (pos 0)))) (first_then (while (binary less (variable (codes "i4")) (scalar (scalars.Int (pos 2)))) (first_then (event (codes "e5") (codes "stop")) (first_then (await (codes "y") (variable (codes "e5"))) (first_then (call (codes "x") (codes "fail") (binary join (scalar (scalars.Text (codes "k2"))) (variable (codes "a")))) (first_then (let_be (codes "i4") (binary add (variable (codes "i4")) (scalar (scalars.Int (pos 1))))) nothing))))) nothing))) (codes "a") nothing) nothing)))))))))) ∷ []); classes = ([]) }

abbrev pub run : List Label
run =
    take (client (codes "a")) 1 (message (client (codes "a")) (orchestration (codes "F0") (codes "sub1")) (start (values.Int (pos 40)) (to_request 1))) ∷
    deliver (client (codes "a")) (orchestration (codes "F0") (codes "sub1")) 0 ∷
    finish (orchestration (codes "F0") (codes "sub1")) 0 (outcomes.Done (values.Int (pos 40))) ∷
    finish (orchestration (codes "F0") (codes "sub1")) 2 (outcomes.Done (values.Int (pos 40))) ∷
    finish (orchestration (codes "F0") (codes "sub1")) 1 (outcomes.Done (values.Int (negsuc 1))) ∷
    finish (orchestration (codes "F0") (codes "sub1")) 3 (outcomes.Failed (codes "unknown")) ∷
    deliver (orchestration (codes "F0") (codes "sub1")) (client (codes "a")) 3 ∷
    take (client (codes "a")) 2 (message (client (codes "a")) (orchestration (codes "F0") (codes "k")) (start (values.Int (pos 3)) (to_request 2))) ∷
    deliver (client (codes "a")) (orchestration (codes "F0") (codes "k")) 3 ∷
    deliver (orchestration (codes "F0") (codes "k")) (client (codes "a")) 3 ∷
    take (client (codes "a")) 5 (message (client (codes "a")) (orchestration (codes "F0") (codes "k")) (start (values.Int (pos 7)) (to_request 5))) ∷
    finish (orchestration (codes "F0") (codes "k")) 2 (outcomes.Done (values.Int (pos 3))) ∷
    deliver (client (codes "a")) (orchestration (codes "F0") (codes "k")) 3 ∷
    finish (orchestration (codes "F0") (codes "k")) 0 (outcomes.Done (values.Int (pos 3))) ∷
    finish (orchestration (codes "F0") (codes "k")) 1 (outcomes.Done (values.Int (negsuc 1))) ∷
    finish (orchestration (codes "F0") (codes "k")) 3 (outcomes.Failed (codes "unknown")) ∷
    deliver (orchestration (codes "F0") (codes "k")) (client (codes "a")) 3 ∷
    take (client (codes "a")) 6 (message (client (codes "a")) (orchestration (codes "F0") (codes "k")) (start (values.Int (pos 5)) (to_request 6))) ∷
    deliver (client (codes "a")) (orchestration (codes "F0") (codes "k")) 3 ∷
    deliver (orchestration (codes "F0") (codes "k")) (client (codes "a")) 3 ∷
    take (client (codes "a")) 7 (message (client (codes "a")) (orchestration (codes "F0") (codes "sub1")) (raise (codes "stop") (values.Int (pos 9)) 7)) ∷
    deliver (client (codes "a")) (orchestration (codes "F0") (codes "sub1")) 3 ∷
    deliver (orchestration (codes "F0") (codes "sub1")) (client (codes "a")) 5 ∷
    take (client (codes "a")) 10 (message (client (codes "a")) (orchestration (codes "F0") (codes "k")) (raise (codes "stop") (values.Int (pos 3)) 10)) ∷
    deliver (client (codes "a")) (orchestration (codes "F0") (codes "k")) 5 ∷
    deliver (orchestration (codes "F0") (codes "k")) (client (codes "a")) 6 ∷
    take (client (codes "a")) 11 (message (client (codes "a")) (orchestration (codes "F0") (codes "k")) (raise (codes "stop") (values.Int (pos 2)) 11)) ∷
    deliver (client (codes "a")) (orchestration (codes "F0") (codes "k")) 6 ∷
    deliver (orchestration (codes "F0") (codes "k")) (client (codes "a")) 6 ∷
    take (client (codes "a")) 12 (message (client (codes "a")) (orchestration (codes "F0") (codes "k")) (raise (codes "stop") (values.Int (pos 0)) 12)) ∷
    deliver (client (codes "a")) (orchestration (codes "F0") (codes "k")) 6 ∷
    deliver (orchestration (codes "F0") (codes "k")) (client (codes "a")) 6 ∷
    take (client (codes "a")) 13 (message (client (codes "a")) (orchestration (codes "F0") (codes "sub1")) (wait 13)) ∷
    deliver (client (codes "a")) (orchestration (codes "F0") (codes "sub1")) 8 ∷
    deliver (orchestration (codes "F0") (codes "sub1")) (client (codes "a")) 8 ∷
    take (client (codes "a")) 14 (message (client (codes "a")) (orchestration (codes "F0") (codes "k")) (wait 14)) ∷
    deliver (client (codes "a")) (orchestration (codes "F0") (codes "k")) 8 ∷
    deliver (orchestration (codes "F0") (codes "k")) (client (codes "a")) 8 ∷
    take (client (codes "a")) 15 (message (client (codes "a")) (orchestration (codes "F0") (codes "k")) (wait 15)) ∷
    deliver (client (codes "a")) (orchestration (codes "F0") (codes "k")) 9 ∷
    deliver (orchestration (codes "F0") (codes "k")) (client (codes "a")) 9 ∷
    take (client (codes "a")) 16 (message (client (codes "a")) (orchestration (codes "Nosuch") (codes "k")) (start values.Null (to_request 16))) ∷
    deliver (client (codes "a")) (orchestration (codes "Nosuch") (codes "k")) 9 ∷
    deliver (orchestration (codes "Nosuch") (codes "k")) (client (codes "a")) 9 ∷
    []

abbrev pub good_front : List Label
good_front =
    take (client (codes "a")) 1 (message (client (codes "a")) (orchestration (codes "F0") (codes "sub1")) (start (values.Int (pos 40)) (to_request 1))) ∷
    deliver (client (codes "a")) (orchestration (codes "F0") (codes "sub1")) 0 ∷
    finish (orchestration (codes "F0") (codes "sub1")) 0 (outcomes.Done (values.Int (pos 40))) ∷
    finish (orchestration (codes "F0") (codes "sub1")) 2 (outcomes.Done (values.Int (pos 40))) ∷
    finish (orchestration (codes "F0") (codes "sub1")) 1 (outcomes.Done (values.Int (negsuc 1))) ∷
    finish (orchestration (codes "F0") (codes "sub1")) 3 (outcomes.Failed (codes "unknown")) ∷
    deliver (orchestration (codes "F0") (codes "sub1")) (client (codes "a")) 3 ∷
    take (client (codes "a")) 2 (message (client (codes "a")) (orchestration (codes "F0") (codes "k")) (start (values.Int (pos 3)) (to_request 2))) ∷
    deliver (client (codes "a")) (orchestration (codes "F0") (codes "k")) 3 ∷
    deliver (orchestration (codes "F0") (codes "k")) (client (codes "a")) 3 ∷
    take (client (codes "a")) 5 (message (client (codes "a")) (orchestration (codes "F0") (codes "k")) (start (values.Int (pos 7)) (to_request 5))) ∷
    finish (orchestration (codes "F0") (codes "k")) 2 (outcomes.Done (values.Int (pos 3))) ∷
    deliver (client (codes "a")) (orchestration (codes "F0") (codes "k")) 3 ∷
    finish (orchestration (codes "F0") (codes "k")) 0 (outcomes.Done (values.Int (pos 3))) ∷
    finish (orchestration (codes "F0") (codes "k")) 1 (outcomes.Done (values.Int (negsuc 1))) ∷
    finish (orchestration (codes "F0") (codes "k")) 3 (outcomes.Failed (codes "unknown")) ∷
    deliver (orchestration (codes "F0") (codes "k")) (client (codes "a")) 3 ∷
    take (client (codes "a")) 6 (message (client (codes "a")) (orchestration (codes "F0") (codes "k")) (start (values.Int (pos 5)) (to_request 6))) ∷
    deliver (client (codes "a")) (orchestration (codes "F0") (codes "k")) 3 ∷
    deliver (orchestration (codes "F0") (codes "k")) (client (codes "a")) 3 ∷
    take (client (codes "a")) 7 (message (client (codes "a")) (orchestration (codes "F0") (codes "sub1")) (raise (codes "stop") (values.Int (pos 9)) 7)) ∷
    deliver (client (codes "a")) (orchestration (codes "F0") (codes "sub1")) 3 ∷
    deliver (orchestration (codes "F0") (codes "sub1")) (client (codes "a")) 5 ∷
    take (client (codes "a")) 10 (message (client (codes "a")) (orchestration (codes "F0") (codes "k")) (raise (codes "stop") (values.Int (pos 3)) 10)) ∷
    deliver (client (codes "a")) (orchestration (codes "F0") (codes "k")) 5 ∷
    deliver (orchestration (codes "F0") (codes "k")) (client (codes "a")) 6 ∷
    take (client (codes "a")) 11 (message (client (codes "a")) (orchestration (codes "F0") (codes "k")) (raise (codes "stop") (values.Int (pos 2)) 11)) ∷
    deliver (client (codes "a")) (orchestration (codes "F0") (codes "k")) 6 ∷
    deliver (orchestration (codes "F0") (codes "k")) (client (codes "a")) 6 ∷
    []

abbrev pub bad_front : List Label
bad_front =
    take (client (codes "a")) 1 (message (client (codes "a")) (orchestration (codes "F0") (codes "sub1")) (start (values.Int (pos 40)) (to_request 1))) ∷
    deliver (client (codes "a")) (orchestration (codes "F0") (codes "sub1")) 0 ∷
    finish (orchestration (codes "F0") (codes "sub1")) 0 (outcomes.Done (values.Int (pos 40))) ∷
    finish (orchestration (codes "F0") (codes "sub1")) 2 (outcomes.Done (values.Int (pos 40))) ∷
    finish (orchestration (codes "F0") (codes "sub1")) 1 (outcomes.Done (values.Int (negsuc 1))) ∷
    finish (orchestration (codes "F0") (codes "sub1")) 3 (outcomes.Failed (codes "unknown")) ∷
    deliver (orchestration (codes "F0") (codes "sub1")) (client (codes "a")) 3 ∷
    take (client (codes "a")) 2 (message (client (codes "a")) (orchestration (codes "F0") (codes "k")) (start (values.Int (pos 3)) (to_request 2))) ∷
    deliver (client (codes "a")) (orchestration (codes "F0") (codes "k")) 3 ∷
    deliver (orchestration (codes "F0") (codes "k")) (client (codes "a")) 3 ∷
    take (client (codes "a")) 5 (message (client (codes "a")) (orchestration (codes "F0") (codes "k")) (start (values.Int (pos 7)) (to_request 5))) ∷
    finish (orchestration (codes "F0") (codes "k")) 2 (outcomes.Done (values.Int (pos 3))) ∷
    deliver (client (codes "a")) (orchestration (codes "F0") (codes "k")) 3 ∷
    finish (orchestration (codes "F0") (codes "k")) 0 (outcomes.Done (values.Int (pos 3))) ∷
    finish (orchestration (codes "F0") (codes "k")) 1 (outcomes.Done (values.Int (negsuc 1))) ∷
    finish (orchestration (codes "F0") (codes "k")) 3 (outcomes.Failed (codes "unknown")) ∷
    deliver (orchestration (codes "F0") (codes "k")) (client (codes "a")) 3 ∷
    take (client (codes "a")) 6 (message (client (codes "a")) (orchestration (codes "F0") (codes "k")) (start (values.Int (pos 5)) (to_request 6))) ∷
    deliver (client (codes "a")) (orchestration (codes "F0") (codes "k")) 3 ∷
    deliver (orchestration (codes "F0") (codes "k")) (client (codes "a")) 3 ∷
    take (client (codes "a")) 7 (message (client (codes "a")) (orchestration (codes "F0") (codes "sub1")) (raise (codes "stop") (values.Int (pos 9)) 7)) ∷
    deliver (client (codes "a")) (orchestration (codes "F0") (codes "sub1")) 3 ∷
    deliver (orchestration (codes "F0") (codes "sub1")) (client (codes "a")) 5 ∷
    take (client (codes "a")) 10 (message (client (codes "a")) (orchestration (codes "F0") (codes "k")) (raise (codes "stop") (values.Int (pos 3)) 10)) ∷
    deliver (client (codes "a")) (orchestration (codes "F0") (codes "k")) 5 ∷
    deliver (orchestration (codes "F0") (codes "k")) (client (codes "a")) 6 ∷
    take (client (codes "a")) 11 (message (client (codes "a")) (orchestration (codes "F0") (codes "k")) (raise (codes "stop") (values.Int (pos 2)) 11)) ∷
    deliver (client (codes "a")) (orchestration (codes "F0") (codes "k")) 6 ∷
    deliver (orchestration (codes "F0") (codes "k")) (client (codes "a")) 6 ∷
    deliver (client (codes "a")) (orchestration (codes "F0") (codes "k")) 6 ∷
    []

-- the requests, and their answers
abbrev pub asked : List (Id × ℕ)
asked = ((client (codes "a"), 1) ∷ (client (codes "a"), 2) ∷ (client (codes "a"), 5) ∷ (client (codes "a"), 6) ∷ (client (codes "a"), 7) ∷ (client (codes "a"), 10) ∷ (client (codes "a"), 11) ∷ (client (codes "a"), 12) ∷ (client (codes "a"), 13) ∷ (client (codes "a"), 14) ∷ (client (codes "a"), 15) ∷ (client (codes "a"), 16) ∷ [])

abbrev pub answers : List (Option Answer)
answers = (Some was_started ∷ Some was_started ∷ Some was_there ∷ Some was_there ∷ Some has_ended ∷ Some has_ended ∷ Some has_ended ∷ Some has_ended ∷ Some (has_failed (codes "unknown")) ∷ Some (has_failed (codes "unknown")) ∷ Some (has_failed (codes "unknown")) ∷ Some is_unknown ∷ [])

-- what the run answers, and how all stand after it, and where the other one stops
abbrev pub Agrees : Type 0
Agrees =
    (option_map (answers_in asked) (after flows run) ≡ Some answers)
    × (option_map (stands_in flows ((orchestration (codes "F0") (codes "k")) ∷ (orchestration (codes "F0") (codes "sub1")) ∷ [])) (after flows run) ≡ Some (Some (has_failed (codes "unknown")) ∷ Some (has_failed (codes "unknown")) ∷ []))
    × (is_some (after flows good_front) ≡ true)
    × (is_none (after flows bad_front) ≡ true)
