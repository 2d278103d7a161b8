-- Made by tools/theorems from a run that was written down.
use Rattle.std.specs.Prelude.{◌≡◌, Bool, true, false, ℕ, List, [], ◌∷◌, codes, pos, negsuc, is_some, is_none, Option, Some, None, option_map}
use Rattle.dura_value.specs.declared.data.Scalar.TheVariants as scalars
use Rattle.dura_value.specs.declared.data.Value.TheVariants as values
use Rattle.dura_value.specs.declared.outcome.Outcome.TheVariants as outcomes
use Rattle.dura_value.specs.Ids.{Id, orchestration, entity, client}
use Rattle.dura_value.specs.Messages.{Answer, is_done, has_failed, was_started, was_there, is_unknown, was_raised, has_ended, is_missing, is_running, is_value, start, raise, query, wait, to_request}
use Rattle.flow_syntax.specs.Syntax.{not_of, length_of, text_of, add, sub, mul, div, rem, equal, less, both, either, join, at, push, scalar, variable, list, unary, binary, no_parts, part, let_be, spawn, call, subflow, ask, timer, event, await, await_all, await_any, signal, lock_in, if_then, while, try, return, fail, nothing, first_then, Flows}
use Rattle.dura_model.specs.Steps.{Label, take, deliver, finish, fire}
use Rattle.dura_model.specs.Legal.{after, is_due}
use Rattle.worked_rows.specs.Made.{named, class_with, locked, message, answers_in, stands_in}

abbrev pub flows : Flows
flows = record { flows = (named (codes "F0") (first_then (let_be (codes "a") (scalar (scalars.Int (pos 0)))) (first_then (let_be (codes "i1") (scalar (scalars.Int (pos 0)))) (first_then (while (binary less (variable (codes "i1")) (scalar (scalars.Int (pos 3)))) (first_then (try (first_then (fail (binary join (unary text_of (scalar (scalars.Int (pos 0)))) (scalar (scalars.Text ([]))))) nothing) (codes "c") nothing) (first_then (let_be (codes "i1") (binary add (variable (codes "i1")) (scalar (scalars.Int (pos 1))))) nothing))) (first_then (spawn (codes "h2") (codes "concat") (list no_parts)) (first_then (spawn (codes "h3") (codes "echo") (binary join (scalar (scalars.Text (116 ∷ 97 ∷ 98 ∷ 9 ∷ 34 ∷ 113 ∷ 34 ∷ 92 ∷ []))) (scalar (scalars.Text (codes "zz-9"))))) (first_then (spawn (codes "h4") (codes "concat") (list (part (scalar (scalars.Text (codes "no"))) (part (scalar (scalars.Text (1 ∷ []))) no_parts)))) (first_then (await_all (codes "y") (list (part (variable (codes "h2")) (part (variable (codes "h3")) (part (variable (codes "h4")) no_parts))))) (first_then (let_be (codes "d") (binary either (binary either (scalar scalars.True) (scalar scalars.True)) (binary equal (scalar scalars.Null) (scalar (scalars.Int (pos 3)))))) (first_then (let_be (codes "x") (scalar (scalars.Int (pos 5)))) (first_then (return (variable (codes "a"))) nothing)))))))))) ∷ []); classes = ([]) }

abbrev pub run : List Label
run =
    take (client (codes "a")) 1 (message (client (codes "a")) (orchestration (codes "F0") (codes "sub1")) (start (values.Int (pos 1)) (to_request 1))) ∷
    deliver (client (codes "a")) (orchestration (codes "F0") (codes "sub1")) 0 ∷
    finish (orchestration (codes "F0") (codes "sub1")) 0 (outcomes.Done (values.Text ([]))) ∷
    finish (orchestration (codes "F0") (codes "sub1")) 1 (outcomes.Done (values.Text (116 ∷ 97 ∷ 98 ∷ 9 ∷ 34 ∷ 113 ∷ 34 ∷ 92 ∷ 122 ∷ 122 ∷ 45 ∷ 57 ∷ []))) ∷
    deliver (orchestration (codes "F0") (codes "sub1")) (client (codes "a")) 0 ∷
    take (client (codes "a")) 2 (message (client (codes "a")) (orchestration (codes "F0") (codes "sub1")) (wait 2)) ∷
    deliver (client (codes "a")) (orchestration (codes "F0") (codes "sub1")) 0 ∷
    finish (orchestration (codes "F0") (codes "sub1")) 2 (outcomes.Done (values.Text (110 ∷ 111 ∷ 1 ∷ []))) ∷
    deliver (orchestration (codes "F0") (codes "sub1")) (client (codes "a")) 2 ∷
    []

abbrev pub good_front : List Label
good_front =
    take (client (codes "a")) 1 (message (client (codes "a")) (orchestration (codes "F0") (codes "sub1")) (start (values.Int (pos 1)) (to_request 1))) ∷
    deliver (client (codes "a")) (orchestration (codes "F0") (codes "sub1")) 0 ∷
    finish (orchestration (codes "F0") (codes "sub1")) 0 (outcomes.Done (values.Text ([]))) ∷
    []

abbrev pub bad_front : List Label
bad_front =
    take (client (codes "a")) 1 (message (client (codes "a")) (orchestration (codes "F0") (codes "sub1")) (start (values.Int (pos 1)) (to_request 1))) ∷
    deliver (client (codes "a")) (orchestration (codes "F0") (codes "sub1")) 0 ∷
    finish (orchestration (codes "F0") (codes "sub1")) 0 (outcomes.Done (values.Text ([]))) ∷
    finish (orchestration (codes "F0") (codes "sub1")) 1 (outcomes.Failed (116 ∷ 97 ∷ 98 ∷ 9 ∷ 34 ∷ 113 ∷ 34 ∷ 92 ∷ 122 ∷ 122 ∷ 45 ∷ 57 ∷ [])) ∷
    []

-- the requests, and their answers
abbrev pub asked : List (Id × ℕ)
asked = ((client (codes "a"), 1) ∷ (client (codes "a"), 2) ∷ [])

abbrev pub answers : List (Option Answer)
answers = (Some was_started ∷ Some (is_done (values.Int (pos 0))) ∷ [])

-- what the run answers, and how all stand after it, and where the other one stops
abbrev pub Agrees : Type 0
Agrees =
    (option_map (answers_in asked) (after flows run) ≡ Some answers)
    × (option_map (stands_in flows ((orchestration (codes "F0") (codes "sub1")) ∷ [])) (after flows run) ≡ Some (Some (is_done (values.Int (pos 0))) ∷ []))
    × (is_some (after flows good_front) ≡ true)
    × (is_none (after flows bad_front) ≡ true)
