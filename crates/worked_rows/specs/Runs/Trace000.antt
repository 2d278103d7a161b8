-- Made by tools/theorems from a run that was written down.
use Rattle.std.specs.Prelude.{◌≡◌, Bool, true, false, ℕ, List, [], ◌∷◌, codes, pos, negsuc, is_some, is_none, Option, Some, None, option_map}
use Rattle.dura_value.specs.declared.data.Scalar.TheVariants as scalars
use Rattle.dura_value.specs.declared.data.Value.TheVariants as values
use Rattle.dura_value.specs.declared.outcome.Outcome.TheVariants as outcomes
use Rattle.dura_value.specs.Ids.{Id, orchestration, entity, client}
use Rattle.dura_value.specs.Messages.{Answer, is_done, has_failed, was_started, was_there, is_unknown, was_raised, has_ended, is_missing, is_running, is_value, start, raise, query, wait, to_request}
use Rattle.flow_syntax.specs.Syntax.{not_of, length_of, text_of, add, sub, mul, div, rem, equal, less, both, either, join, at, push, scalar, variable, list, unary, binary, no_parts, part, let_be, spawn, call, subflow, ask, timer, event, await, await_all, await_any, signal, lock_in, if_then, while, try, return, fail, nothing, first_then, Flows}
use Rattle.dura_model.specs.Steps.{Label, take, deliver, finish, fire}
use Rattle.dura_model.specs.Legal.{after, is_due}
use Rattle.worked_rows.specs.Made.{named, class_with, locked, message, answers_in, stands_in}

abbrev pub flows : Flows
flows = record { flows = (named (codes "F0") (first_then (let_be (codes "x") (scalar (scalars.Int (pos 0)))) (first_then (let_be (codes "d") (scalar (scalars.Text (codes "none")))) (first_then (try (first_then (fail (scalar (scalars.Int (pos 5)))) nothing) (codes "d") nothing) (first_then (spawn (codes "h1") (codes "echo") (binary push (list (part (scalar (scalars.Int (pos 3))) (part (scalar (scalars.Int (pos 0))) (part (variable (codes "arg")) no_parts)))) (scalar (scalars.Int (pos 1))))) (first_then (spawn (codes "h2") (codes "concat") (list (part (scalar (scalars.Text (195 ∷ 169 ∷ 226 ∷ 130 ∷ 172 ∷ []))) (part (scalar (scalars.Text (116 ∷ 97 ∷ 98 ∷ 9 ∷ 34 ∷ 113 ∷ 34 ∷ 92 ∷ []))) (part (variable (codes "d")) (part (variable (codes "d")) no_parts)))))) (first_then (spawn (codes "h3") (codes "add") (list (part (scalar (scalars.Int (pos 1))) (part (variable (codes "arg")) no_parts)))) (first_then (await_all (codes "b") (list (part (variable (codes "h1")) (part (variable (codes "h2")) (part (variable (codes "h3")) no_parts))))) (first_then (let_be (codes "i4") (scalar (scalars.Int (pos 0)))) (first_then (while (binary less (variable (codes "i4")) (scalar (scalars.Int (pos 1)))) (first_then (let_be (codes "y") (variable (codes "d"))) (first_then (let_be (codes "i4") (binary add (variable (codes "i4")) (scalar (scalars.Int (pos 1))))) nothing))) (first_then (let_be (codes "c") (variable (codes "d"))) (first_then (return (scalar (scalars.Int (pos 1)))) nothing))))))))))) ∷ []); classes = ([]) }

abbrev pub run : List Label
run =
    take (client (codes "a")) 3 (message (client (codes "a")) (orchestration (codes "F0") (codes "x")) (start (values.Int (pos 5)) (to_request 3))) ∷
    take (client (codes "b")) 1 (message (client (codes "b")) (orchestration (codes "F0") (codes "x")) (start (values.Int (pos 1)) (to_request 1))) ∷
    deliver (client (codes "a")) (orchestration (codes "F0") (codes "x")) 0 ∷
    finish (orchestration (codes "F0") (codes "x")) 2 (outcomes.Done (values.Int (pos 6))) ∷
    finish (orchestration (codes "F0") (codes "x")) 0 (outcomes.Done (values.List ((scalars.Int (pos 3)) ∷ (scalars.Int (pos 0)) ∷ (scalars.Int (pos 5)) ∷ (scalars.Int (pos 1)) ∷ []))) ∷
    deliver (orchestration (codes "F0") (codes "x")) (client (codes "a")) 2 ∷
    finish (orchestration (codes "F0") (codes "x")) 1 (outcomes.Done (values.Text (195 ∷ 169 ∷ 226 ∷ 130 ∷ 172 ∷ 116 ∷ 97 ∷ 98 ∷ 9 ∷ 34 ∷ 113 ∷ 34 ∷ 92 ∷ 116 ∷ 121 ∷ 112 ∷ 101 ∷ 116 ∷ 121 ∷ 112 ∷ 101 ∷ []))) ∷
    take (client (codes "a")) 4 (message (client (codes "a")) (orchestration (codes "F0") (codes "x")) (wait 4)) ∷
    deliver (client (codes "b")) (orchestration (codes "F0") (codes "x")) 5 ∷
    deliver (client (codes "a")) (orchestration (codes "F0") (codes "x")) 5 ∷
    deliver (orchestration (codes "F0") (codes "x")) (client (codes "a")) 5 ∷
    deliver (orchestration (codes "F0") (codes "x")) (client (codes "b")) 5 ∷
    take (client (codes "b")) 4 (message (client (codes "b")) (orchestration (codes "F0") (codes "x")) (wait 4)) ∷
    deliver (client (codes "b")) (orchestration (codes "F0") (codes "x")) 5 ∷
    deliver (orchestration (codes "F0") (codes "x")) (client (codes "b")) 5 ∷
    []

abbrev pub good_front : List Label
good_front =
    take (client (codes "a")) 3 (message (client (codes "a")) (orchestration (codes "F0") (codes "x")) (start (values.Int (pos 5)) (to_request 3))) ∷
    take (client (codes "b")) 1 (message (client (codes "b")) (orchestration (codes "F0") (codes "x")) (start (values.Int (pos 1)) (to_request 1))) ∷
    deliver (client (codes "a")) (orchestration (codes "F0") (codes "x")) 0 ∷
    finish (orchestration (codes "F0") (codes "x")) 2 (outcomes.Done (values.Int (pos 6))) ∷
    finish (orchestration (codes "F0") (codes "x")) 0 (outcomes.Done (values.List ((scalars.Int (pos 3)) ∷ (scalars.Int (pos 0)) ∷ (scalars.Int (pos 5)) ∷ (scalars.Int (pos 1)) ∷ []))) ∷
    deliver (orchestration (codes "F0") (codes "x")) (client (codes "a")) 2 ∷
    finish (orchestration (codes "F0") (codes "x")) 1 (outcomes.Done (values.Text (195 ∷ 169 ∷ 226 ∷ 130 ∷ 172 ∷ 116 ∷ 97 ∷ 98 ∷ 9 ∷ 34 ∷ 113 ∷ 34 ∷ 92 ∷ 116 ∷ 121 ∷ 112 ∷ 101 ∷ 116 ∷ 121 ∷ 112 ∷ 101 ∷ []))) ∷
    take (client (codes "a")) 4 (message (client (codes "a")) (orchestration (codes "F0") (codes "x")) (wait 4)) ∷
    deliver (client (codes "b")) (orchestration (codes "F0") (codes "x")) 5 ∷
    deliver (client (codes "a")) (orchestration (codes "F0") (codes "x")) 5 ∷
    deliver (orchestration (codes "F0") (codes "x")) (client (codes "a")) 5 ∷
    deliver (orchestration (codes "F0") (codes "x")) (client (codes "b")) 5 ∷
    take (client (codes "b")) 4 (message (client (codes "b")) (orchestration (codes "F0") (codes "x")) (wait 4)) ∷
    []

abbrev pub bad_front : List Label
bad_front =
    take (client (codes "a")) 3 (message (client (codes "a")) (orchestration (codes "F0") (codes "x")) (start (values.Int (pos 5)) (to_request 3))) ∷
    take (client (codes "b")) 1 (message (client (codes "b")) (orchestration (codes "F0") (codes "x")) (start (values.Int (pos 1)) (to_request 1))) ∷
    deliver (client (codes "a")) (orchestration (codes "F0") (codes "x")) 0 ∷
    finish (orchestration (codes "F0") (codes "x")) 2 (outcomes.Done (values.Int (pos 6))) ∷
    finish (orchestration (codes "F0") (codes "x")) 0 (outcomes.Done (values.List ((scalars.Int (pos 3)) ∷ (scalars.Int (pos 0)) ∷ (scalars.Int (pos 5)) ∷ (scalars.Int (pos 1)) ∷ []))) ∷
    deliver (orchestration (codes "F0") (codes "x")) (client (codes "a")) 2 ∷
    finish (orchestration (codes "F0") (codes "x")) 1 (outcomes.Done (values.Text (195 ∷ 169 ∷ 226 ∷ 130 ∷ 172 ∷ 116 ∷ 97 ∷ 98 ∷ 9 ∷ 34 ∷ 113 ∷ 34 ∷ 92 ∷ 116 ∷ 121 ∷ 112 ∷ 101 ∷ 116 ∷ 121 ∷ 112 ∷ 101 ∷ []))) ∷
    take (client (codes "a")) 4 (message (client (codes "a")) (orchestration (codes "F0") (codes "x")) (wait 4)) ∷
    deliver (client (codes "b")) (orchestration (codes "F0") (codes "x")) 5 ∷
    deliver (client (codes "a")) (orchestration (codes "F0") (codes "x")) 5 ∷
    deliver (orchestration (codes "F0") (codes "x")) (client (codes "a")) 5 ∷
    deliver (orchestration (codes "F0") (codes "x")) (client (codes "b")) 5 ∷
    take (client (codes "b")) 4 (message (client (codes "b")) (orchestration (codes "F0") (codes "x")) (wait 4)) ∷
    deliver (client (codes "b")) (orchestration (codes "F0") (codes "x")) 0 ∷
    []

-- the requests, and their answers
abbrev pub asked : List (Id × ℕ)
asked = ((client (codes "a"), 3) ∷ (client (codes "b"), 1) ∷ (client (codes "a"), 4) ∷ (client (codes "b"), 4) ∷ [])

abbrev pub answers : List (Option Answer)
answers = (Some was_started ∷ Some was_there ∷ Some (has_failed (codes "type")) ∷ Some (has_failed (codes "type")) ∷ [])

-- what the run answers, and how all stand after it, and where the other one stops
abbrev pub Agrees : Type 0
Agrees =
    (option_map (answers_in asked) (after flows run) ≡ Some answers)
    × (option_map (stands_in flows ((orchestration (codes "F0") (codes "x")) ∷ [])) (after flows run) ≡ Some (Some (has_failed (codes "type")) ∷ []))
    × (is_some (after flows good_front) ≡ true)
    × (is_none (after flows bad_front) ≡ true)
