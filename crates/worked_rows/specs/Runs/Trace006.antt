-- Made by tools/theorems from a run that was written down.
use Rattle.std.specs.Prelude.{◌≡◌, Bool, true, false, ℕ, List, [], ◌∷◌, codes, pos, negsuc, is_some, is_none, Option, Some, None, option_map}
use Rattle.dura_value.specs.declared.data.Scalar.TheVariants as scalars
use Rattle.dura_value.specs.declared.data.Value.TheVariants as values
use Rattle.dura_value.specs.declared.outcome.Outcome.TheVariants as outcomes
use Rattle.dura_value.specs.Ids.{Id, orchestration, entity, client}
use Rattle.dura_value.specs.Messages.{Answer, is_done, has_failed, was_started, was_there, is_unknown, was_raised, has_ended, is_missing, is_running, is_value, start, raise, query, wait, to_request}
use Rattle.flow_syntax.specs.Syntax.{not_of, length_of, text_of, add, sub, mul, div, rem, equal, less, both, either, join, at, push, scalar, variable, list, unary, binary, no_parts, part, let_be, spawn, call, subflow, ask, timer, event, await, await_all, await_any, signal, lock_in, if_then, while, try, return, fail, nothing, first_then, Flows}
use Rattle.dura_model.specs.Steps.{Label, take, deliver, finish, fire}
use Rattle.dura_model.specs.Legal.{after, is_due}
use Rattle.worked_rows.specs.Made.{named, class_with, locked, message, answers_in, stands_in}

abbrev pub flows : Flows
flows = record { flows = (named (codes "F0") (first_then (let_be (codes "y") (scalar (scalars.Int (pos 0)))) (first_then (try (first_then (fail (binary join (scalar (scalars.Text (codes "k2"))) (scalar (scalars.Text (codes "k2"))))) nothing) (codes "y") nothing) (first_then (return (variable (codes "y"))) nothing))) ∷ named (codes "F2") (first_then (let_be (codes "x") (scalar (scalars.Int (pos 0)))) (first_then (let_be (codes "i4") (scalar (scalars.Int (pos 0)))) (first_then (while (binary less (variable (codes "i4")) (scalar (scalars.Int (pos 2)))) (first_then (call (codes "c") (codes "add") (list (part (variable (codes "arg")) (part (scalar (scalars.Int (negsuc 2))) no_parts)))) (first_then (let_be (codes "y") (binary rem (scalar (scalars.Int (pos 2))) (scalar (scalars.Int (pos 3))))) (first_then (let_be (codes "i4") (binary add (variable (codes "i4")) (scalar (scalars.Int (pos 1))))) nothing)))) (first_then (return (variable (codes "x"))) nothing)))) ∷ []); classes = ([]) }

abbrev pub run : List Label
run =
    take (client (codes "a")) 1 (message (client (codes "a")) (orchestration (codes "F2") (codes "y")) (start (values.Int (negsuc 0)) (to_request 1))) ∷
    deliver (client (codes "a")) (orchestration (codes "F2") (codes "y")) 0 ∷
    finish (orchestration (codes "F2") (codes "y")) 0 (outcomes.Done (values.Int (negsuc 3))) ∷
    deliver (orchestration (codes "F2") (codes "y")) (client (codes "a")) 0 ∷
    finish (orchestration (codes "F2") (codes "y")) 1 (outcomes.Done (values.Int (negsuc 3))) ∷
    take (client (codes "a")) 2 (message (client (codes "a")) (orchestration (codes "F0") (codes "k")) (start (values.Int (pos 7)) (to_request 2))) ∷
    deliver (client (codes "a")) (orchestration (codes "F0") (codes "k")) 5 ∷
    deliver (orchestration (codes "F0") (codes "k")) (client (codes "a")) 5 ∷
    take (client (codes "a")) 5 (message (client (codes "a")) (orchestration (codes "F0") (codes "y")) (start (values.Int (pos 1)) (to_request 5))) ∷
    deliver (client (codes "a")) (orchestration (codes "F0") (codes "y")) 5 ∷
    deliver (orchestration (codes "F0") (codes "y")) (client (codes "a")) 5 ∷
    take (client (codes "a")) 6 (message (client (codes "a")) (orchestration (codes "F0") (codes "x")) (start (values.List ((scalars.Int (pos 1)) ∷ (scalars.Int (pos 2)) ∷ [])) (to_request 6))) ∷
    deliver (client (codes "a")) (orchestration (codes "F0") (codes "x")) 5 ∷
    deliver (orchestration (codes "F0") (codes "x")) (client (codes "a")) 5 ∷
    take (client (codes "a")) 7 (message (client (codes "a")) (orchestration (codes "F2") (codes "y")) (wait 7)) ∷
    deliver (client (codes "a")) (orchestration (codes "F2") (codes "y")) 5 ∷
    deliver (orchestration (codes "F2") (codes "y")) (client (codes "a")) 5 ∷
    take (client (codes "a")) 8 (message (client (codes "a")) (orchestration (codes "F0") (codes "y")) (wait 8)) ∷
    deliver (client (codes "a")) (orchestration (codes "F0") (codes "y")) 5 ∷
    deliver (orchestration (codes "F0") (codes "y")) (client (codes "a")) 5 ∷
    take (client (codes "a")) 9 (message (client (codes "a")) (orchestration (codes "F0") (codes "x")) (wait 9)) ∷
    deliver (client (codes "a")) (orchestration (codes "F0") (codes "x")) 5 ∷
    deliver (orchestration (codes "F0") (codes "x")) (client (codes "a")) 5 ∷
    []

abbrev pub good_front : List Label
good_front =
    take (client (codes "a")) 1 (message (client (codes "a")) (orchestration (codes "F2") (codes "y")) (start (values.Int (negsuc 0)) (to_request 1))) ∷
    deliver (client (codes "a")) (orchestration (codes "F2") (codes "y")) 0 ∷
    finish (orchestration (codes "F2") (codes "y")) 0 (outcomes.Done (values.Int (negsuc 3))) ∷
    deliver (orchestration (codes "F2") (codes "y")) (client (codes "a")) 0 ∷
    finish (orchestration (codes "F2") (codes "y")) 1 (outcomes.Done (values.Int (negsuc 3))) ∷
    take (client (codes "a")) 2 (message (client (codes "a")) (orchestration (codes "F0") (codes "k")) (start (values.Int (pos 7)) (to_request 2))) ∷
    deliver (client (codes "a")) (orchestration (codes "F0") (codes "k")) 5 ∷
    []

abbrev pub bad_front : List Label
bad_front =
    take (client (codes "a")) 1 (message (client (codes "a")) (orchestration (codes "F2") (codes "y")) (start (values.Int (negsuc 0)) (to_request 1))) ∷
    deliver (client (codes "a")) (orchestration (codes "F2") (codes "y")) 0 ∷
    finish (orchestration (codes "F2") (codes "y")) 0 (outcomes.Done (values.Int (negsuc 3))) ∷
    deliver (orchestration (codes "F2") (codes "y")) (client (codes "a")) 0 ∷
    finish (orchestration (codes "F2") (codes "y")) 1 (outcomes.Done (values.Int (negsuc 3))) ∷
    take (client (codes "a")) 2 (message (client (codes "a")) (orchestration (codes "F0") (codes "k")) (start (values.Int (pos 7)) (to_request 2))) ∷
    deliver (client (codes "a")) (orchestration (codes "F0") (codes "k")) 5 ∷
    take (client (codes "a")) 5 (message (client (codes "a")) (orchestration (codes "F0") (codes "y")) (start (values.Int (pos 1)) (to_request 5))) ∷
    []

-- the requests, and their answers
abbrev pub asked : List (Id × ℕ)
asked = ((client (codes "a"), 1) ∷ (client (codes "a"), 2) ∷ (client (codes "a"), 5) ∷ (client (codes "a"), 6) ∷ (client (codes "a"), 7) ∷ (client (codes "a"), 8) ∷ (client (codes "a"), 9) ∷ [])

abbrev pub answers : List (Option Answer)
answers = (Some was_started ∷ Some was_started ∷ Some was_started ∷ Some was_started ∷ Some (is_done (values.Int (pos 0))) ∷ Some (is_done (values.Text (codes "k2k2"))) ∷ Some (is_done (values.Text (codes "k2k2"))) ∷ [])

-- what the run answers, and how all stand after it, and where the other one stops
abbrev pub Agrees : Type 0
Agrees =
    (option_map (answers_in asked) (after flows run) ≡ Some answers)
    × (option_map (stands_in flows ((orchestration (codes "F0") (codes "k")) ∷ (orchestration (codes "F0") (codes "x")) ∷ (orchestration (codes "F0") (codes "y")) ∷ (orchestration (codes "F2") (codes "y")) ∷ [])) (after flows run) ≡ Some (Some (is_done (values.Text (codes "k2k2"))) ∷ Some (is_done (values.Text (codes "k2k2"))) ∷ Some (is_done (values.Text (codes "k2k2"))) ∷ Some (is_done (values.Int (pos 0))) ∷ []))
    × (is_some (after flows good_front) ≡ true)
    × (option_map (λ w. is_due w ((message (client (codes "a")) (orchestration (codes "F2") (codes "y")) (start (values.Int (negsuc 0)) (to_request 1))) ∷ (message (client (codes "a")) (orchestration (codes "F0") (codes "k")) (start (values.Int (pos 7)) (to_request 2))) ∷ []) (message (client (codes "a")) (orchestration (codes "F0") (codes "y")) (start (values.Int (pos 1)) (to_request 5)))) (after flows good_front) ≡ Some false)
