-- Made by tools/theorems from a run that was written down.
use Rattle.std.specs.Prelude.{◌≡◌, Bool, true, false, ℕ, List, [], ◌∷◌, codes, pos, negsuc, is_some, is_none, Option, Some, None, option_map}
use Rattle.dura_value.specs.declared.data.Scalar.TheVariants as scalars
use Rattle.dura_value.specs.declared.data.Value.TheVariants as values
use Rattle.dura_value.specs.declared.outcome.Outcome.TheVariants as outcomes
use Rattle.dura_value.specs.Ids.{Id, orchestration, entity, client}
use Rattle.dura_value.specs.Messages.{Answer, is_done, has_failed, was_started, was_there, is_unknown, was_raised, has_ended, is_missing, is_running, is_value, start, raise, query, wait, to_request}
use Rattle.flow_syntax.specs.Syntax.{not_of, length_of, text_of, add, sub, mul, div, rem, equal, less, both, either, join, at, push, scalar, variable, list, unary, binary, no_parts, part, let_be, spawn, call, subflow, ask, timer, event, await, await_all, await_any, signal, lock_in, if_then, while, try, return, fail, nothing, first_then, Flows}
use Rattle.dura_model.specs.Steps.{Label, take, deliver, finish, fire}
use Rattle.dura_model.specs.Legal.{after, is_due}
use Rattle.worked_rows.specs.Made.{named, class_with, locked, message, answers_in, stands_in}

abbrev pub flows : Flows
flows = record { flows = (named (codes "F0") (first_then (let_be (codes "c") (scalar (scalars.Int (pos 0)))) (first_then (let_be (codes "y") (scalar (scalars.Text (codes "none")))) (first_then (try (first_then (lock_in (locked (codes "C0") (scalar (scalars.Text (codes "A"))) ∷ locked (codes "C0") (scalar (scalars.Text (codes "k1"))) ∷ []) (first_then (event (codes "e1") (codes "go")) (first_then (await (codes "b") (variable (codes "e1"))) (first_then (timer (codes "t2") (scalar (scalars.Int (pos 7)))) (first_then (await (codes "b") (variable (codes "t2"))) nothing))))) nothing) (codes "y") nothing) (first_then (return (variable (codes "c"))) nothing)))) ∷ []); classes = (named (codes "C0") (class_with (values.Int (pos 10)) (named (codes "op0") (first_then (let_be (codes "i") (scalar (scalars.Int (pos 0)))) (first_then (while (binary less (variable (codes "i")) (scalar (scalars.Int (pos 3)))) (first_then (let_be (codes "self") (binary add (variable (codes "self")) (binary add (scalar (scalars.Int (negsuc 0))) (variable (codes "arg"))))) (first_then (let_be (codes "i") (binary add (variable (codes "i")) (scalar (scalars.Int (pos 1))))) nothing))) nothing)) ∷ [])) ∷ named (codes "C1") (class_with (values.Int (pos 0)) (named (codes "op0") (first_then (try (first_then (let_be (codes "self") (binary div (variable (codes "self")) (variable (codes "arg")))) nothing) (codes "e") (first_then (return (variable (codes "e"))) nothing)) (first_then (return (variable (codes "self"))) nothing)) ∷ named (codes "op1") (first_then (try (first_then (let_be (codes "self") (binary div (variable (codes "self")) (variable (codes "arg")))) nothing) (codes "e") (first_then (return (variable (codes "e"))) nothing)) (first_then (return (variable (codes "self"))) nothing)) ∷ named (codes "op2") (first_then (let_be (codes "self") (binary add (variable (codes "self")) (variable (codes "arg")))) (first_then (return (variable (codes "self"))) nothing)) ∷ [])) ∷ []) }

abbrev pub run : List Label
run =
    take (client (codes "a")) 1 (message (client (codes "a")) (orchestration (codes "F0") (codes "x")) (start (values.List ((scalars.Int (pos 1)) ∷ (scalars.Int (pos 2)) ∷ [])) (to_request 1))) ∷
    deliver (client (codes "a")) (orchestration (codes "F0") (codes "x")) 0 ∷
    deliver (orchestration (codes "F0") (codes "x")) (entity (codes "C0") (codes "A")) 0 ∷
    deliver (orchestration (codes "F0") (codes "x")) (client (codes "a")) 0 ∷
    take (client (codes "a")) 2 (message (client (codes "a")) (orchestration (codes "F0") (codes "k")) (start (values.Int (pos 1)) (to_request 2))) ∷
    deliver (entity (codes "C0") (codes "A")) (entity (codes "C0") (codes "k1")) 0 ∷
    deliver (client (codes "a")) (orchestration (codes "F0") (codes "k")) 0 ∷
    deliver (entity (codes "C0") (codes "k1")) (orchestration (codes "F0") (codes "x")) 0 ∷
    deliver (orchestration (codes "F0") (codes "k")) (client (codes "a")) 0 ∷
    take (client (codes "a")) 3 (message (client (codes "a")) (orchestration (codes "F0") (codes "y")) (start (values.Int (negsuc 0)) (to_request 3))) ∷
    deliver (client (codes "a")) (orchestration (codes "F0") (codes "y")) 0 ∷
    deliver (orchestration (codes "F0") (codes "y")) (client (codes "a")) 1 ∷
    take (client (codes "a")) 4 (message (client (codes "a")) (orchestration (codes "F0") (codes "x")) (raise (codes "go") (values.Int (pos 6)) 4)) ∷
    deliver (client (codes "a")) (orchestration (codes "F0") (codes "x")) 1 ∷
    fire (orchestration (codes "F0") (codes "x")) 2 8 ∷
    deliver (orchestration (codes "F0") (codes "x")) (entity (codes "C0") (codes "A")) 8 ∷
    deliver (orchestration (codes "F0") (codes "y")) (entity (codes "C0") (codes "A")) 8 ∷
    deliver (orchestration (codes "F0") (codes "x")) (client (codes "a")) 8 ∷
    deliver (orchestration (codes "F0") (codes "x")) (entity (codes "C0") (codes "k1")) 8 ∷
    take (client (codes "a")) 5 (message (client (codes "a")) (orchestration (codes "F0") (codes "k")) (raise (codes "go") (values.Int (pos 2)) 5)) ∷
    deliver (entity (codes "C0") (codes "A")) (entity (codes "C0") (codes "k1")) 8 ∷
    deliver (entity (codes "C0") (codes "k1")) (orchestration (codes "F0") (codes "y")) 8 ∷
    deliver (client (codes "a")) (orchestration (codes "F0") (codes "k")) 8 ∷
    deliver (orchestration (codes "F0") (codes "k")) (client (codes "a")) 8 ∷
    take (client (codes "a")) 6 (message (client (codes "a")) (orchestration (codes "F0") (codes "y")) (raise (codes "go") (values.Int (pos 4)) 6)) ∷
    deliver (client (codes "a")) (orchestration (codes "F0") (codes "y")) 8 ∷
    fire (orchestration (codes "F0") (codes "y")) 2 15 ∷
    deliver (orchestration (codes "F0") (codes "y")) (entity (codes "C0") (codes "A")) 15 ∷
    deliver (orchestration (codes "F0") (codes "y")) (entity (codes "C0") (codes "k1")) 15 ∷
    deliver (orchestration (codes "F0") (codes "k")) (entity (codes "C0") (codes "A")) 15 ∷
    deliver (orchestration (codes "F0") (codes "y")) (client (codes "a")) 15 ∷
    deliver (entity (codes "C0") (codes "A")) (entity (codes "C0") (codes "k1")) 15 ∷
    deliver (entity (codes "C0") (codes "k1")) (orchestration (codes "F0") (codes "k")) 15 ∷
    take (client (codes "a")) 7 (message (client (codes "a")) (orchestration (codes "F0") (codes "x")) (wait 7)) ∷
    deliver (client (codes "a")) (orchestration (codes "F0") (codes "x")) 15 ∷
    fire (orchestration (codes "F0") (codes "k")) 2 22 ∷
    deliver (orchestration (codes "F0") (codes "x")) (client (codes "a")) 22 ∷
    deliver (orchestration (codes "F0") (codes "k")) (entity (codes "C0") (codes "A")) 22 ∷
    deliver (orchestration (codes "F0") (codes "k")) (entity (codes "C0") (codes "k1")) 22 ∷
    take (client (codes "a")) 8 (message (client (codes "a")) (orchestration (codes "F0") (codes "k")) (wait 8)) ∷
    deliver (client (codes "a")) (orchestration (codes "F0") (codes "k")) 22 ∷
    deliver (orchestration (codes "F0") (codes "k")) (client (codes "a")) 22 ∷
    take (client (codes "a")) 9 (message (client (codes "a")) (orchestration (codes "F0") (codes "y")) (wait 9)) ∷
    deliver (client (codes "a")) (orchestration (codes "F0") (codes "y")) 22 ∷
    deliver (orchestration (codes "F0") (codes "y")) (client (codes "a")) 22 ∷
    take (client (codes "a")) 10 (message (client (codes "a")) (entity (codes "C1") (codes "B")) (query 10)) ∷
    deliver (client (codes "a")) (entity (codes "C1") (codes "B")) 22 ∷
    deliver (entity (codes "C1") (codes "B")) (client (codes "a")) 22 ∷
    []

abbrev pub good_front : List Label
good_front =
    take (client (codes "a")) 1 (message (client (codes "a")) (orchestration (codes "F0") (codes "x")) (start (values.List ((scalars.Int (pos 1)) ∷ (scalars.Int (pos 2)) ∷ [])) (to_request 1))) ∷
    deliver (client (codes "a")) (orchestration (codes "F0") (codes "x")) 0 ∷
    deliver (orchestration (codes "F0") (codes "x")) (entity (codes "C0") (codes "A")) 0 ∷
    deliver (orchestration (codes "F0") (codes "x")) (client (codes "a")) 0 ∷
    take (client (codes "a")) 2 (message (client (codes "a")) (orchestration (codes "F0") (codes "k")) (start (values.Int (pos 1)) (to_request 2))) ∷
    deliver (entity (codes "C0") (codes "A")) (entity (codes "C0") (codes "k1")) 0 ∷
    deliver (client (codes "a")) (orchestration (codes "F0") (codes "k")) 0 ∷
    deliver (entity (codes "C0") (codes "k1")) (orchestration (codes "F0") (codes "x")) 0 ∷
    deliver (orchestration (codes "F0") (codes "k")) (client (codes "a")) 0 ∷
    take (client (codes "a")) 3 (message (client (codes "a")) (orchestration (codes "F0") (codes "y")) (start (values.Int (negsuc 0)) (to_request 3))) ∷
    deliver (client (codes "a")) (orchestration (codes "F0") (codes "y")) 0 ∷
    deliver (orchestration (codes "F0") (codes "y")) (client (codes "a")) 1 ∷
    take (client (codes "a")) 4 (message (client (codes "a")) (orchestration (codes "F0") (codes "x")) (raise (codes "go") (values.Int (pos 6)) 4)) ∷
    deliver (client (codes "a")) (orchestration (codes "F0") (codes "x")) 1 ∷
    fire (orchestration (codes "F0") (codes "x")) 2 8 ∷
    deliver (orchestration (codes "F0") (codes "x")) (entity (codes "C0") (codes "A")) 8 ∷
    deliver (orchestration (codes "F0") (codes "y")) (entity (codes "C0") (codes "A")) 8 ∷
    deliver (orchestration (codes "F0") (codes "x")) (client (codes "a")) 8 ∷
    deliver (orchestration (codes "F0") (codes "x")) (entity (codes "C0") (codes "k1")) 8 ∷
    take (client (codes "a")) 5 (message (client (codes "a")) (orchestration (codes "F0") (codes "k")) (raise (codes "go") (values.Int (pos 2)) 5)) ∷
    deliver (entity (codes "C0") (codes "A")) (entity (codes "C0") (codes "k1")) 8 ∷
    deliver (entity (codes "C0") (codes "k1")) (orchestration (codes "F0") (codes "y")) 8 ∷
    deliver (client (codes "a")) (orchestration (codes "F0") (codes "k")) 8 ∷
    deliver (orchestration (codes "F0") (codes "k")) (client (codes "a")) 8 ∷
    take (client (codes "a")) 6 (message (client (codes "a")) (orchestration (codes "F0") (codes "y")) (raise (codes "go") (values.Int (pos 4)) 6)) ∷
    deliver (client (codes "a")) (orchestration (codes "F0") (codes "y")) 8 ∷
    fire (orchestration (codes "F0") (codes "y")) 2 15 ∷
    deliver (orchestration (codes "F0") (codes "y")) (entity (codes "C0") (codes "A")) 15 ∷
    deliver (orchestration (codes "F0") (codes "y")) (entity (codes "C0") (codes "k1")) 15 ∷
    deliver (orchestration (codes "F0") (codes "k")) (entity (codes "C0") (codes "A")) 15 ∷
    deliver (orchestration (codes "F0") (codes "y")) (client (codes "a")) 15 ∷
    deliver (entity (codes "C0") (codes "A")) (entity (codes "C0") (codes "k1")) 15 ∷
    deliver (entity (codes "C0") (codes "k1")) (orchestration (codes "F0") (codes "k")) 15 ∷
    take (client (codes "a")) 7 (message (client (codes "a")) (orchestration (codes "F0") (codes "x")) (wait 7)) ∷
    deliver (client (codes "a")) (orchestration (codes "F0") (codes "x")) 15 ∷
    fire (orchestration (codes "F0") (codes "k")) 2 22 ∷
    deliver (orchestration (codes "F0") (codes "x")) (client (codes "a")) 22 ∷
    deliver (orchestration (codes "F0") (codes "k")) (entity (codes "C0") (codes "A")) 22 ∷
    deliver (orchestration (codes "F0") (codes "k")) (entity (codes "C0") (codes "k1")) 22 ∷
    take (client (codes "a")) 8 (message (client (codes "a")) (orchestration (codes "F0") (codes "k")) (wait 8)) ∷
    deliver (client (codes "a")) (orchestration (codes "F0") (codes "k")) 22 ∷
    []

abbrev pub bad_front : List Label
bad_front =
    take (client (codes "a")) 1 (message (client (codes "a")) (orchestration (codes "F0") (codes "x")) (start (values.List ((scalars.Int (pos 1)) ∷ (scalars.Int (pos 2)) ∷ [])) (to_request 1))) ∷
    deliver (client (codes "a")) (orchestration (codes "F0") (codes "x")) 0 ∷
    deliver (orchestration (codes "F0") (codes "x")) (entity (codes "C0") (codes "A")) 0 ∷
    deliver (orchestration (codes "F0") (codes "x")) (client (codes "a")) 0 ∷
    take (client (codes "a")) 2 (message (client (codes "a")) (orchestration (codes "F0") (codes "k")) (start (values.Int (pos 1)) (to_request 2))) ∷
    deliver (entity (codes "C0") (codes "A")) (entity (codes "C0") (codes "k1")) 0 ∷
    deliver (client (codes "a")) (orchestration (codes "F0") (codes "k")) 0 ∷
    deliver (entity (codes "C0") (codes "k1")) (orchestration (codes "F0") (codes "x")) 0 ∷
    deliver (orchestration (codes "F0") (codes "k")) (client (codes "a")) 0 ∷
    take (client (codes "a")) 3 (message (client (codes "a")) (orchestration (codes "F0") (codes "y")) (start (values.Int (negsuc 0)) (to_request 3))) ∷
    deliver (client (codes "a")) (orchestration (codes "F0") (codes "y")) 0 ∷
    deliver (orchestration (codes "F0") (codes "y")) (client (codes "a")) 1 ∷
    take (client (codes "a")) 4 (message (client (codes "a")) (orchestration (codes "F0") (codes "x")) (raise (codes "go") (values.Int (pos 6)) 4)) ∷
    deliver (client (codes "a")) (orchestration (codes "F0") (codes "x")) 1 ∷
    fire (orchestration (codes "F0") (codes "x")) 2 8 ∷
    deliver (orchestration (codes "F0") (codes "x")) (entity (codes "C0") (codes "A")) 8 ∷
    deliver (orchestration (codes "F0") (codes "y")) (entity (codes "C0") (codes "A")) 8 ∷
    deliver (orchestration (codes "F0") (codes "x")) (client (codes "a")) 8 ∷
    deliver (orchestration (codes "F0") (codes "x")) (entity (codes "C0") (codes "k1")) 8 ∷
    take (client (codes "a")) 5 (message (client (codes "a")) (orchestration (codes "F0") (codes "k")) (raise (codes "go") (values.Int (pos 2)) 5)) ∷
    deliver (entity (codes "C0") (codes "A")) (entity (codes "C0") (codes "k1")) 8 ∷
    deliver (entity (codes "C0") (codes "k1")) (orchestration (codes "F0") (codes "y")) 8 ∷
    deliver (client (codes "a")) (orchestration (codes "F0") (codes "k")) 8 ∷
    deliver (orchestration (codes "F0") (codes "k")) (client (codes "a")) 8 ∷
    take (client (codes "a")) 6 (message (client (codes "a")) (orchestration (codes "F0") (codes "y")) (raise (codes "go") (values.Int (pos 4)) 6)) ∷
    deliver (client (codes "a")) (orchestration (codes "F0") (codes "y")) 8 ∷
    fire (orchestration (codes "F0") (codes "y")) 2 15 ∷
    deliver (orchestration (codes "F0") (codes "y")) (entity (codes "C0") (codes "A")) 15 ∷
    deliver (orchestration (codes "F0") (codes "y")) (entity (codes "C0") (codes "k1")) 15 ∷
    deliver (orchestration (codes "F0") (codes "k")) (entity (codes "C0") (codes "A")) 15 ∷
    deliver (orchestration (codes "F0") (codes "y")) (client (codes "a")) 15 ∷
    deliver (entity (codes "C0") (codes "A")) (entity (codes "C0") (codes "k1")) 15 ∷
    deliver (entity (codes "C0") (codes "k1")) (orchestration (codes "F0") (codes "k")) 15 ∷
    take (client (codes "a")) 7 (message (client (codes "a")) (orchestration (codes "F0") (codes "x")) (wait 7)) ∷
    deliver (client (codes "a")) (orchestration (codes "F0") (codes "x")) 15 ∷
    fire (orchestration (codes "F0") (codes "k")) 2 22 ∷
    deliver (orchestration (codes "F0") (codes "x")) (client (codes "a")) 22 ∷
    deliver (orchestration (codes "F0") (codes "k")) (entity (codes "C0") (codes "A")) 22 ∷
    deliver (orchestration (codes "F0") (codes "k")) (entity (codes "C0") (codes "k1")) 22 ∷
    take (client (codes "a")) 8 (message (client (codes "a")) (orchestration (codes "F0") (codes "k")) (wait 8)) ∷
    deliver (client (codes "a")) (orchestration (codes "F0") (codes "k")) 22 ∷
    take (client (codes "a")) 9 (message (client (codes "a")) (orchestration (codes "F0") (codes "y")) (wait 9)) ∷
    []

-- the requests, and their answers
abbrev pub asked : List (Id × ℕ)
asked = ((client (codes "a"), 1) ∷ (client (codes "a"), 2) ∷ (client (codes "a"), 3) ∷ (client (codes "a"), 4) ∷ (client (codes "a"), 5) ∷ (client (codes "a"), 6) ∷ (client (codes "a"), 7) ∷ (client (codes "a"), 8) ∷ (client (codes "a"), 9) ∷ (client (codes "a"), 10) ∷ [])

abbrev pub answers : List (Option Answer)
answers = (Some was_started ∷ Some was_started ∷ Some was_started ∷ Some was_raised ∷ Some was_raised ∷ Some was_raised ∷ Some (is_done (values.Int (pos 0))) ∷ Some (is_done (values.Int (pos 0))) ∷ Some (is_done (values.Int (pos 0))) ∷ Some (is_value (values.Int (pos 0))) ∷ [])

-- what the run answers, and how all stand after it, and where the other one stops
abbrev pub Agrees : Type 0
Agrees =
    (option_map (answers_in asked) (after flows run) ≡ Some answers)
    × (option_map (stands_in flows ((entity (codes "C0") (codes "A")) ∷ (entity (codes "C0") (codes "k1")) ∷ (entity (codes "C1") (codes "B")) ∷ (orchestration (codes "F0") (codes "k")) ∷ (orchestration (codes "F0") (codes "x")) ∷ (orchestration (codes "F0") (codes "y")) ∷ [])) (after flows run) ≡ Some (Some (is_value (values.Int (pos 10))) ∷ Some (is_value (values.Int (pos 10))) ∷ Some (is_value (values.Int (pos 0))) ∷ Some (is_done (values.Int (pos 0))) ∷ Some (is_done (values.Int (pos 0))) ∷ Some (is_done (values.Int (pos 0))) ∷ []))
    × (is_some (after flows good_front) ≡ true)
    × (option_map (λ w. is_due w ((message (client (codes "a")) (orchestration (codes "F0") (codes "x")) (start (values.List ((scalars.Int (pos 1)) ∷ (scalars.Int (pos 2)) ∷ [])) (to_request 1))) ∷ (message (client (codes "a")) (orchestration (codes "F0") (codes "k")) (start (values.Int (pos 1)) (to_request 2))) ∷ (message (client (codes "a")) (orchestration (codes "F0") (codes "y")) (start (values.Int (negsuc 0)) (to_request 3))) ∷ (message (client (codes "a")) (orchestration (codes "F0") (codes "x")) (raise (codes "go") (values.Int (pos 6)) 4)) ∷ (message (client (codes "a")) (orchestration (codes "F0") (codes "k")) (raise (codes "go") (values.Int (pos 2)) 5)) ∷ (message (client (codes "a")) (orchestration (codes "F0") (codes "y")) (raise (codes "go") (values.Int (pos 4)) 6)) ∷ (message (client (codes "a")) (orchestration (codes "F0") (codes "x")) (wait 7)) ∷ (message (client (codes "a")) (orchestration (codes "F0") (codes "k")) (wait 8)) ∷ []) (message (client (codes "a")) (orchestration (codes "F0") (codes "y")) (wait 9))) (after flows good_front) ≡ Some false)
