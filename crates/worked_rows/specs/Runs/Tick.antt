-- Made by tools/theorems from a run that was written down.
use Rattle.std.specs.Prelude.{◌≡◌, Bool, true, false, ℕ, List, [], ◌∷◌, codes, pos, negsuc, is_some, is_none, Option, Some, None, option_map}
use Rattle.dura_value.specs.declared.data.Scalar.TheVariants as scalars
use Rattle.dura_value.specs.declared.data.Value.TheVariants as values
use Rattle.dura_value.specs.declared.outcome.Outcome.TheVariants as outcomes
use Rattle.dura_value.specs.Ids.{Id, orchestration, entity, client}
use Rattle.dura_value.specs.Messages.{Answer, is_done, has_failed, was_started, was_there, is_unknown, was_raised, has_ended, is_missing, is_running, is_value, start, raise, query, wait, to_request}
use Rattle.flow_syntax.specs.Syntax.{not_of, length_of, text_of, add, sub, mul, div, rem, equal, less, both, either, join, at, push, scalar, variable, list, unary, binary, no_parts, part, let_be, spawn, call, subflow, ask, timer, event, await, await_all, await_any, signal, lock_in, if_then, while, try, return, fail, nothing, first_then, Flows}
use Rattle.dura_model.specs.Steps.{Label, take, deliver, finish, fire}
use Rattle.dura_model.specs.Legal.{after, is_due}
use Rattle.worked_rows.specs.Made.{named, class_with, locked, message, answers_in, stands_in}

abbrev pub flows : Flows
flows = record { flows = (named (codes "Tick") (first_then (while (scalar scalars.True) (first_then (timer (codes "h") (scalar (scalars.Int (pos 10)))) (first_then (await (codes "h") (variable (codes "h"))) nothing))) nothing) ∷ []); classes = ([]) }

abbrev pub run : List Label
run =
    take (client (codes "a")) 1 (message (client (codes "a")) (orchestration (codes "Tick") (codes "x")) (start values.Null (to_request 1))) ∷
    deliver (client (codes "a")) (orchestration (codes "Tick") (codes "x")) 0 ∷
    deliver (orchestration (codes "Tick") (codes "x")) (client (codes "a")) 0 ∷
    take (client (codes "a")) 2 (message (client (codes "a")) (orchestration (codes "Tick") (codes "x")) (wait 2)) ∷
    deliver (client (codes "a")) (orchestration (codes "Tick") (codes "x")) 0 ∷
    fire (orchestration (codes "Tick") (codes "x")) 0 10 ∷
    fire (orchestration (codes "Tick") (codes "x")) 1 20 ∷
    fire (orchestration (codes "Tick") (codes "x")) 2 31 ∷
    []

abbrev pub good_front : List Label
good_front =
    take (client (codes "a")) 1 (message (client (codes "a")) (orchestration (codes "Tick") (codes "x")) (start values.Null (to_request 1))) ∷
    deliver (client (codes "a")) (orchestration (codes "Tick") (codes "x")) 0 ∷
    deliver (orchestration (codes "Tick") (codes "x")) (client (codes "a")) 0 ∷
    take (client (codes "a")) 2 (message (client (codes "a")) (orchestration (codes "Tick") (codes "x")) (wait 2)) ∷
    deliver (client (codes "a")) (orchestration (codes "Tick") (codes "x")) 0 ∷
    fire (orchestration (codes "Tick") (codes "x")) 0 10 ∷
    []

abbrev pub bad_front : List Label
bad_front =
    take (client (codes "a")) 1 (message (client (codes "a")) (orchestration (codes "Tick") (codes "x")) (start values.Null (to_request 1))) ∷
    deliver (client (codes "a")) (orchestration (codes "Tick") (codes "x")) 0 ∷
    deliver (orchestration (codes "Tick") (codes "x")) (client (codes "a")) 0 ∷
    take (client (codes "a")) 2 (message (client (codes "a")) (orchestration (codes "Tick") (codes "x")) (wait 2)) ∷
    deliver (client (codes "a")) (orchestration (codes "Tick") (codes "x")) 0 ∷
    fire (orchestration (codes "Tick") (codes "x")) 0 10 ∷
    fire (orchestration (codes "Tick") (codes "x")) 1 19 ∷
    []

-- the requests, and their answers
abbrev pub asked : List (Id × ℕ)
asked = ((client (codes "a"), 1) ∷ (client (codes "a"), 2) ∷ [])

abbrev pub answers : List (Option Answer)
answers = (Some was_started ∷ None ∷ [])

-- what the run answers, and how all stand after it, and where the other one stops
abbrev pub Agrees : Type 0
Agrees =
    (option_map (answers_in asked) (after flows run) ≡ Some answers)
    × (option_map (stands_in flows ((orchestration (codes "Tick") (codes "x")) ∷ [])) (after flows run) ≡ Some (Some is_running ∷ []))
    × (is_some (after flows good_front) ≡ true)
    × (is_none (after flows bad_front) ≡ true)
