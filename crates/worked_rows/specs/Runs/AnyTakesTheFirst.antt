-- Made by tools/theorems from a run that was written down.
use Rattle.std.specs.Prelude.{◌≡◌, Bool, true, false, ℕ, List, [], ◌∷◌, codes, pos, negsuc, is_some, is_none, Option, Some, None, option_map}
use Rattle.dura_value.specs.declared.data.Scalar.TheVariants as scalars
use Rattle.dura_value.specs.declared.data.Value.TheVariants as values
use Rattle.dura_value.specs.declared.outcome.Outcome.TheVariants as outcomes
use Rattle.dura_value.specs.Ids.{Id, orchestration, entity, client}
use Rattle.dura_value.specs.Messages.{Answer, is_done, has_failed, was_started, was_there, is_unknown, was_raised, has_ended, is_missing, is_running, is_value, start, raise, query, wait, to_request}
use Rattle.flow_syntax.specs.Syntax.{not_of, length_of, text_of, add, sub, mul, div, rem, equal, less, both, either, join, at, push, scalar, variable, list, unary, binary, no_parts, part, let_be, spawn, call, subflow, ask, timer, event, await, await_all, await_any, signal, lock_in, if_then, while, try, return, fail, nothing, first_then, Flows}
use Rattle.dura_model.specs.Steps.{Label, take, deliver, finish, fire}
use Rattle.dura_model.specs.Legal.{after, is_due}
use Rattle.worked_rows.specs.Made.{named, class_with, locked, message, answers_in, stands_in}

abbrev pub flows : Flows
flows = record { flows = (named (codes "First") (first_then (spawn (codes "a") (codes "echo") (scalar (scalars.Int (pos 1)))) (first_then (spawn (codes "b") (codes "echo") (scalar (scalars.Int (pos 2)))) (first_then (event (codes "g") (codes "go")) (first_then (await (codes "x") (variable (codes "g"))) (first_then (await_any (codes "i") (list (part (variable (codes "a")) (part (variable (codes "b")) no_parts)))) (first_then (await_any (codes "j") (list (part (variable (codes "b")) (part (variable (codes "a")) (part (variable (codes "b")) no_parts))))) (first_then (return (list (part (variable (codes "i")) (part (variable (codes "j")) no_parts)))) nothing))))))) ∷ []); classes = ([]) }

abbrev pub run : List Label
run =
    take (client (codes "a")) 1 (message (client (codes "a")) (orchestration (codes "First") (codes "x")) (start values.Null (to_request 1))) ∷
    deliver (client (codes "a")) (orchestration (codes "First") (codes "x")) 0 ∷
    deliver (orchestration (codes "First") (codes "x")) (client (codes "a")) 0 ∷
    finish (orchestration (codes "First") (codes "x")) 1 (outcomes.Done (values.Int (pos 2))) ∷
    finish (orchestration (codes "First") (codes "x")) 0 (outcomes.Done (values.Int (pos 1))) ∷
    take (client (codes "a")) 2 (message (client (codes "a")) (orchestration (codes "First") (codes "x")) (raise (codes "go") values.Null 2)) ∷
    deliver (client (codes "a")) (orchestration (codes "First") (codes "x")) 0 ∷
    deliver (orchestration (codes "First") (codes "x")) (client (codes "a")) 0 ∷
    take (client (codes "a")) 3 (message (client (codes "a")) (orchestration (codes "First") (codes "x")) (wait 3)) ∷
    deliver (client (codes "a")) (orchestration (codes "First") (codes "x")) 0 ∷
    deliver (orchestration (codes "First") (codes "x")) (client (codes "a")) 0 ∷
    []

-- the requests, and their answers
abbrev pub asked : List (Id × ℕ)
asked = ((client (codes "a"), 1) ∷ (client (codes "a"), 2) ∷ (client (codes "a"), 3) ∷ [])

abbrev pub answers : List (Option Answer)
answers = (Some was_started ∷ Some was_raised ∷ Some (is_done (values.List ((scalars.Int (pos 1)) ∷ (scalars.Int (pos 0)) ∷ []))) ∷ [])

-- what the run answers, and how all stand after it
abbrev pub Agrees : Type 0
Agrees =
    (option_map (answers_in asked) (after flows run) ≡ Some answers)
    × (option_map (stands_in flows ((orchestration (codes "First") (codes "x")) ∷ [])) (after flows run) ≡ Some (Some (is_done (values.List ((scalars.Int (pos 1)) ∷ (scalars.Int (pos 0)) ∷ []))) ∷ []))
