-- Made by tools/theorems from a run that was written down.
use Rattle.std.specs.Prelude.{◌≡◌, Bool, true, false, ℕ, List, [], ◌∷◌, codes, pos, negsuc, is_some, is_none, Option, Some, None, option_map}
use Rattle.dura_value.specs.declared.data.Scalar.TheVariants as scalars
use Rattle.dura_value.specs.declared.data.Value.TheVariants as values
use Rattle.dura_value.specs.declared.outcome.Outcome.TheVariants as outcomes
use Rattle.dura_value.specs.Ids.{Id, orchestration, entity, client}
use Rattle.dura_value.specs.Messages.{Answer, is_done, has_failed, was_started, was_there, is_unknown, was_raised, has_ended, is_missing, is_running, is_value, start, raise, query, wait, to_request}
use Rattle.flow_syntax.specs.Syntax.{not_of, length_of, text_of, add, sub, mul, div, rem, equal, less, both, either, join, at, push, scalar, variable, list, unary, binary, no_parts, part, let_be, spawn, call, subflow, ask, timer, event, await, await_all, await_any, signal, lock_in, if_then, while, try, return, fail, nothing, first_then, Flows}
use Rattle.dura_model.specs.Steps.{Label, take, deliver, finish, fire}
use Rattle.dura_model.specs.Legal.{after, is_due}
use Rattle.worked_rows.specs.Made.{named, class_with, locked, message, answers_in, stands_in}

abbrev pub flows : Flows
flows = record { flows = (named (codes "F0") (first_then (event (codes "e1") (codes "stop")) (first_then (await (codes "x") (variable (codes "e1"))) (first_then (let_be (codes "n") (scalar (scalars.Int (pos 1)))) (first_then (let_be (codes "d") (scalar (scalars.Int (pos 0)))) (first_then (let_be (codes "c") (scalar (scalars.Text (codes "none")))) (first_then (subflow (codes "s2") (codes "F1") (scalar (scalars.Text (codes "sub2"))) (unary length_of (scalar (scalars.Text (195 ∷ 169 ∷ 226 ∷ 130 ∷ 172 ∷ []))))) (first_then (await (codes "d") (variable (codes "s2"))) nothing))))))) ∷ named (codes "F1") (first_then (let_be (codes "d") (scalar (scalars.Int (pos 0)))) (first_then (signal (codes "C0") (scalar (scalars.Text (codes "A"))) (codes "op0") (scalar (scalars.Int (pos 6)))) (first_then (let_be (codes "i3") (scalar (scalars.Int (pos 0)))) (first_then (while (binary less (variable (codes "i3")) (scalar (scalars.Int (pos 3)))) (first_then (let_be (codes "c") (scalar scalars.False)) (first_then (let_be (codes "c") (binary equal (scalar (scalars.Text (codes "no"))) (variable (codes "arg")))) (first_then (let_be (codes "i3") (binary add (variable (codes "i3")) (scalar (scalars.Int (pos 1))))) nothing)))) (first_then (lock_in (locked (codes "C0") (scalar (scalars.Text (codes "B"))) ∷ locked (codes "C0") (scalar (scalars.Text (codes "A"))) ∷ locked (codes "C0") (scalar (scalars.Text (codes "k1"))) ∷ []) (first_then (let_be (codes "d") (scalar (scalars.Text (codes "x.y")))) (first_then (call (codes "y") (codes "add") (list (part (binary mul (variable (codes "arg")) (scalar (scalars.Int (pos 7)))) (part (variable (codes "arg")) no_parts)))) (first_then (call (codes "y") (codes "echo") (variable (codes "arg"))) nothing)))) (first_then (try (first_then (fail (scalar (scalars.Text (codes "k2")))) nothing) (codes "d") nothing) (first_then (let_be (codes "c") (scalar (scalars.Text (codes "none")))) (first_then (try (first_then (let_be (codes "c") (list no_parts)) (first_then (event (codes "e4") (codes "stop")) (first_then (await (codes "a") (variable (codes "e4"))) (first_then (let_be (codes "a") (binary either (scalar scalars.False) (scalar scalars.False))) nothing)))) (codes "c") nothing) (first_then (return (variable (codes "arg"))) nothing))))))))) ∷ []); classes = (named (codes "C0") (class_with (values.Int (pos 100)) (named (codes "op0") (first_then (let_be (codes "self") (scalar (scalars.Int (pos 1)))) (first_then (fail (scalar (scalars.Text (codes "B_")))) nothing)) ∷ named (codes "op1") (first_then (let_be (codes "i") (scalar (scalars.Int (pos 0)))) (first_then (while (binary less (variable (codes "i")) (scalar (scalars.Int (pos 3)))) (first_then (let_be (codes "self") (binary add (variable (codes "self")) (variable (codes "self")))) (first_then (let_be (codes "i") (binary add (variable (codes "i")) (scalar (scalars.Int (pos 1))))) nothing))) nothing)) ∷ named (codes "op2") (first_then (let_be (codes "self") (scalar (scalars.Int (pos 1)))) (first_then (fail (scalar (scalars.Text (codes "k1")))) nothing)) ∷ [])) ∷ []) }

abbrev pub run : List Label
run =
    take (client (codes "a")) 1 (message (client (codes "a")) (orchestration (codes "F1") (codes "sub1")) (start (values.Int (pos 5)) (to_request 1))) ∷
    deliver (client (codes "a")) (orchestration (codes "F1") (codes "sub1")) 0 ∷
    deliver (orchestration (codes "F1") (codes "sub1")) (client (codes "a")) 0 ∷
    take (client (codes "a")) 2 (message (client (codes "a")) (orchestration (codes "F1") (codes "k")) (start values.True (to_request 2))) ∷
    deliver (client (codes "a")) (orchestration (codes "F1") (codes "k")) 0 ∷
    deliver (orchestration (codes "F1") (codes "k")) (client (codes "a")) 0 ∷
    deliver (orchestration (codes "F1") (codes "k")) (entity (codes "C0") (codes "A")) 0 ∷
    deliver (orchestration (codes "F1") (codes "k")) (entity (codes "C0") (codes "A")) 0 ∷
    take (client (codes "a")) 3 (message (client (codes "a")) (orchestration (codes "F0") (codes "x")) (start (values.Int (pos 3)) (to_request 3))) ∷
    deliver (entity (codes "C0") (codes "A")) (entity (codes "C0") (codes "B")) 0 ∷
    deliver (client (codes "a")) (orchestration (codes "F0") (codes "x")) 0 ∷
    deliver (orchestration (codes "F0") (codes "x")) (client (codes "a")) 0 ∷
    take (client (codes "a")) 4 (message (client (codes "a")) (orchestration (codes "F0") (codes "x")) (raise (codes "stop") (values.Int (pos 1)) 4)) ∷
    deliver (entity (codes "C0") (codes "B")) (entity (codes "C0") (codes "k1")) 0 ∷
    deliver (client (codes "a")) (orchestration (codes "F0") (codes "x")) 0 ∷
    deliver (entity (codes "C0") (codes "k1")) (orchestration (codes "F1") (codes "k")) 0 ∷
    deliver (orchestration (codes "F1") (codes "k")) (entity (codes "C0") (codes "A")) 0 ∷
    deliver (orchestration (codes "F1") (codes "k")) (entity (codes "C0") (codes "k1")) 0 ∷
    deliver (orchestration (codes "F0") (codes "x")) (orchestration (codes "F1") (codes "sub2")) 0 ∷
    deliver (orchestration (codes "F1") (codes "sub2")) (entity (codes "C0") (codes "A")) 0 ∷
    deliver (orchestration (codes "F1") (codes "sub1")) (entity (codes "C0") (codes "A")) 0 ∷
    deliver (orchestration (codes "F0") (codes "x")) (client (codes "a")) 0 ∷
    take (client (codes "a")) 5 (message (client (codes "a")) (orchestration (codes "F1") (codes "sub1")) (raise (codes "stop") (values.Int (pos 1)) 5)) ∷
    deliver (orchestration (codes "F1") (codes "sub1")) (entity (codes "C0") (codes "A")) 0 ∷
    deliver (client (codes "a")) (orchestration (codes "F1") (codes "sub1")) 0 ∷
    deliver (orchestration (codes "F1") (codes "sub1")) (client (codes "a")) 0 ∷
    deliver (orchestration (codes "F1") (codes "k")) (entity (codes "C0") (codes "B")) 0 ∷
    take (client (codes "a")) 8 (message (client (codes "a")) (orchestration (codes "F1") (codes "k")) (raise (codes "stop") (values.Int (pos 6)) 8)) ∷
    deliver (entity (codes "C0") (codes "A")) (entity (codes "C0") (codes "B")) 0 ∷
    deliver (entity (codes "C0") (codes "B")) (entity (codes "C0") (codes "k1")) 0 ∷
    deliver (entity (codes "C0") (codes "k1")) (orchestration (codes "F1") (codes "sub1")) 1 ∷
    deliver (client (codes "a")) (orchestration (codes "F1") (codes "k")) 1 ∷
    deliver (orchestration (codes "F1") (codes "k")) (client (codes "a")) 1 ∷
    take (client (codes "a")) 9 (message (client (codes "a")) (orchestration (codes "F1") (codes "sub1")) (wait 9)) ∷
    finish (orchestration (codes "F1") (codes "sub1")) 1 (outcomes.Done (values.Int (pos 40))) ∷
    finish (orchestration (codes "F1") (codes "sub1")) 2 (outcomes.Done (values.Int (pos 5))) ∷
    deliver (orchestration (codes "F1") (codes "sub1")) (entity (codes "C0") (codes "B")) 1 ∷
    deliver (client (codes "a")) (orchestration (codes "F1") (codes "sub1")) 1 ∷
    deliver (orchestration (codes "F1") (codes "sub1")) (client (codes "a")) 1 ∷
    take (client (codes "a")) 10 (message (client (codes "a")) (orchestration (codes "F1") (codes "k")) (wait 10)) ∷
    deliver (orchestration (codes "F1") (codes "sub1")) (entity (codes "C0") (codes "A")) 1 ∷
    deliver (orchestration (codes "F1") (codes "sub1")) (entity (codes "C0") (codes "k1")) 1 ∷
    deliver (orchestration (codes "F1") (codes "sub2")) (entity (codes "C0") (codes "A")) 1 ∷
    deliver (client (codes "a")) (orchestration (codes "F1") (codes "k")) 1 ∷
    deliver (orchestration (codes "F1") (codes "k")) (client (codes "a")) 1 ∷
    take (client (codes "a")) 11 (message (client (codes "a")) (orchestration (codes "F0") (codes "x")) (wait 11)) ∷
    deliver (entity (codes "C0") (codes "A")) (entity (codes "C0") (codes "B")) 3 ∷
    deliver (entity (codes "C0") (codes "B")) (entity (codes "C0") (codes "k1")) 4 ∷
    deliver (entity (codes "C0") (codes "k1")) (orchestration (codes "F1") (codes "sub2")) 4 ∷
    deliver (client (codes "a")) (orchestration (codes "F0") (codes "x")) 4 ∷
    finish (orchestration (codes "F1") (codes "sub2")) 1 (outcomes.Done (values.Int (pos 40))) ∷
    finish (orchestration (codes "F1") (codes "sub2")) 2 (outcomes.Done (values.Int (pos 5))) ∷
    deliver (orchestration (codes "F1") (codes "sub2")) (entity (codes "C0") (codes "k1")) 4 ∷
    deliver (orchestration (codes "F1") (codes "sub2")) (entity (codes "C0") (codes "A")) 5 ∷
    deliver (orchestration (codes "F1") (codes "sub2")) (entity (codes "C0") (codes "B")) 5 ∷
    []

abbrev pub good_front : List Label
good_front =
    take (client (codes "a")) 1 (message (client (codes "a")) (orchestration (codes "F1") (codes "sub1")) (start (values.Int (pos 5)) (to_request 1))) ∷
    deliver (client (codes "a")) (orchestration (codes "F1") (codes "sub1")) 0 ∷
    deliver (orchestration (codes "F1") (codes "sub1")) (client (codes "a")) 0 ∷
    take (client (codes "a")) 2 (message (client (codes "a")) (orchestration (codes "F1") (codes "k")) (start values.True (to_request 2))) ∷
    deliver (client (codes "a")) (orchestration (codes "F1") (codes "k")) 0 ∷
    deliver (orchestration (codes "F1") (codes "k")) (client (codes "a")) 0 ∷
    deliver (orchestration (codes "F1") (codes "k")) (entity (codes "C0") (codes "A")) 0 ∷
    deliver (orchestration (codes "F1") (codes "k")) (entity (codes "C0") (codes "A")) 0 ∷
    take (client (codes "a")) 3 (message (client (codes "a")) (orchestration (codes "F0") (codes "x")) (start (values.Int (pos 3)) (to_request 3))) ∷
    deliver (entity (codes "C0") (codes "A")) (entity (codes "C0") (codes "B")) 0 ∷
    deliver (client (codes "a")) (orchestration (codes "F0") (codes "x")) 0 ∷
    deliver (orchestration (codes "F0") (codes "x")) (client (codes "a")) 0 ∷
    take (client (codes "a")) 4 (message (client (codes "a")) (orchestration (codes "F0") (codes "x")) (raise (codes "stop") (values.Int (pos 1)) 4)) ∷
    deliver (entity (codes "C0") (codes "B")) (entity (codes "C0") (codes "k1")) 0 ∷
    deliver (client (codes "a")) (orchestration (codes "F0") (codes "x")) 0 ∷
    deliver (entity (codes "C0") (codes "k1")) (orchestration (codes "F1") (codes "k")) 0 ∷
    deliver (orchestration (codes "F1") (codes "k")) (entity (codes "C0") (codes "A")) 0 ∷
    deliver (orchestration (codes "F1") (codes "k")) (entity (codes "C0") (codes "k1")) 0 ∷
    deliver (orchestration (codes "F0") (codes "x")) (orchestration (codes "F1") (codes "sub2")) 0 ∷
    deliver (orchestration (codes "F1") (codes "sub2")) (entity (codes "C0") (codes "A")) 0 ∷
    deliver (orchestration (codes "F1") (codes "sub1")) (entity (codes "C0") (codes "A")) 0 ∷
    deliver (orchestration (codes "F0") (codes "x")) (client (codes "a")) 0 ∷
    take (client (codes "a")) 5 (message (client (codes "a")) (orchestration (codes "F1") (codes "sub1")) (raise (codes "stop") (values.Int (pos 1)) 5)) ∷
    deliver (orchestration (codes "F1") (codes "sub1")) (entity (codes "C0") (codes "A")) 0 ∷
    deliver (client (codes "a")) (orchestration (codes "F1") (codes "sub1")) 0 ∷
    deliver (orchestration (codes "F1") (codes "sub1")) (client (codes "a")) 0 ∷
    deliver (orchestration (codes "F1") (codes "k")) (entity (codes "C0") (codes "B")) 0 ∷
    take (client (codes "a")) 8 (message (client (codes "a")) (orchestration (codes "F1") (codes "k")) (raise (codes "stop") (values.Int (pos 6)) 8)) ∷
    deliver (entity (codes "C0") (codes "A")) (entity (codes "C0") (codes "B")) 0 ∷
    deliver (entity (codes "C0") (codes "B")) (entity (codes "C0") (codes "k1")) 0 ∷
    deliver (entity (codes "C0") (codes "k1")) (orchestration (codes "F1") (codes "sub1")) 1 ∷
    deliver (client (codes "a")) (orchestration (codes "F1") (codes "k")) 1 ∷
    deliver (orchestration (codes "F1") (codes "k")) (client (codes "a")) 1 ∷
    take (client (codes "a")) 9 (message (client (codes "a")) (orchestration (codes "F1") (codes "sub1")) (wait 9)) ∷
    finish (orchestration (codes "F1") (codes "sub1")) 1 (outcomes.Done (values.Int (pos 40))) ∷
    finish (orchestration (codes "F1") (codes "sub1")) 2 (outcomes.Done (values.Int (pos 5))) ∷
    deliver (orchestration (codes "F1") (codes "sub1")) (entity (codes "C0") (codes "B")) 1 ∷
    deliver (client (codes "a")) (orchestration (codes "F1") (codes "sub1")) 1 ∷
    deliver (orchestration (codes "F1") (codes "sub1")) (client (codes "a")) 1 ∷
    take (client (codes "a")) 10 (message (client (codes "a")) (orchestration (codes "F1") (codes "k")) (wait 10)) ∷
    deliver (orchestration (codes "F1") (codes "sub1")) (entity (codes "C0") (codes "A")) 1 ∷
    deliver (orchestration (codes "F1") (codes "sub1")) (entity (codes "C0") (codes "k1")) 1 ∷
    deliver (orchestration (codes "F1") (codes "sub2")) (entity (codes "C0") (codes "A")) 1 ∷
    deliver (client (codes "a")) (orchestration (codes "F1") (codes "k")) 1 ∷
    deliver (orchestration (codes "F1") (codes "k")) (client (codes "a")) 1 ∷
    take (client (codes "a")) 11 (message (client (codes "a")) (orchestration (codes "F0") (codes "x")) (wait 11)) ∷
    deliver (entity (codes "C0") (codes "A")) (entity (codes "C0") (codes "B")) 3 ∷
    deliver (entity (codes "C0") (codes "B")) (entity (codes "C0") (codes "k1")) 4 ∷
    deliver (entity (codes "C0") (codes "k1")) (orchestration (codes "F1") (codes "sub2")) 4 ∷
    deliver (client (codes "a")) (orchestration (codes "F0") (codes "x")) 4 ∷
    []

abbrev pub bad_front : List Label
bad_front =
    take (client (codes "a")) 1 (message (client (codes "a")) (orchestration (codes "F1") (codes "sub1")) (start (values.Int (pos 5)) (to_request 1))) ∷
    deliver (client (codes "a")) (orchestration (codes "F1") (codes "sub1")) 0 ∷
    deliver (orchestration (codes "F1") (codes "sub1")) (client (codes "a")) 0 ∷
    take (client (codes "a")) 2 (message (client (codes "a")) (orchestration (codes "F1") (codes "k")) (start values.True (to_request 2))) ∷
    deliver (client (codes "a")) (orchestration (codes "F1") (codes "k")) 0 ∷
    deliver (orchestration (codes "F1") (codes "k")) (client (codes "a")) 0 ∷
    deliver (orchestration (codes "F1") (codes "k")) (entity (codes "C0") (codes "A")) 0 ∷
    deliver (orchestration (codes "F1") (codes "k")) (entity (codes "C0") (codes "A")) 0 ∷
    take (client (codes "a")) 3 (message (client (codes "a")) (orchestration (codes "F0") (codes "x")) (start (values.Int (pos 3)) (to_request 3))) ∷
    deliver (entity (codes "C0") (codes "A")) (entity (codes "C0") (codes "B")) 0 ∷
    deliver (client (codes "a")) (orchestration (codes "F0") (codes "x")) 0 ∷
    deliver (orchestration (codes "F0") (codes "x")) (client (codes "a")) 0 ∷
    take (client (codes "a")) 4 (message (client (codes "a")) (orchestration (codes "F0") (codes "x")) (raise (codes "stop") (values.Int (pos 1)) 4)) ∷
    deliver (entity (codes "C0") (codes "B")) (entity (codes "C0") (codes "k1")) 0 ∷
    deliver (client (codes "a")) (orchestration (codes "F0") (codes "x")) 0 ∷
    deliver (entity (codes "C0") (codes "k1")) (orchestration (codes "F1") (codes "k")) 0 ∷
    deliver (orchestration (codes "F1") (codes "k")) (entity (codes "C0") (codes "A")) 0 ∷
    deliver (orchestration (codes "F1") (codes "k")) (entity (codes "C0") (codes "k1")) 0 ∷
    deliver (orchestration (codes "F0") (codes "x")) (orchestration (codes "F1") (codes "sub2")) 0 ∷
    deliver (orchestration (codes "F1") (codes "sub2")) (entity (codes "C0") (codes "A")) 0 ∷
    deliver (orchestration (codes "F1") (codes "sub1")) (entity (codes "C0") (codes "A")) 0 ∷
    deliver (orchestration (codes "F0") (codes "x")) (client (codes "a")) 0 ∷
    take (client (codes "a")) 5 (message (client (codes "a")) (orchestration (codes "F1") (codes "sub1")) (raise (codes "stop") (values.Int (pos 1)) 5)) ∷
    deliver (orchestration (codes "F1") (codes "sub1")) (entity (codes "C0") (codes "A")) 0 ∷
    deliver (client (codes "a")) (orchestration (codes "F1") (codes "sub1")) 0 ∷
    deliver (orchestration (codes "F1") (codes "sub1")) (client (codes "a")) 0 ∷
    deliver (orchestration (codes "F1") (codes "k")) (entity (codes "C0") (codes "B")) 0 ∷
    take (client (codes "a")) 8 (message (client (codes "a")) (orchestration (codes "F1") (codes "k")) (raise (codes "stop") (values.Int (pos 6)) 8)) ∷
    deliver (entity (codes "C0") (codes "A")) (entity (codes "C0") (codes "B")) 0 ∷
    deliver (entity (codes "C0") (codes "B")) (entity (codes "C0") (codes "k1")) 0 ∷
    deliver (entity (codes "C0") (codes "k1")) (orchestration (codes "F1") (codes "sub1")) 1 ∷
    deliver (client (codes "a")) (orchestration (codes "F1") (codes "k")) 1 ∷
    deliver (orchestration (codes "F1") (codes "k")) (client (codes "a")) 1 ∷
    take (client (codes "a")) 9 (message (client (codes "a")) (orchestration (codes "F1") (codes "sub1")) (wait 9)) ∷
    finish (orchestration (codes "F1") (codes "sub1")) 1 (outcomes.Done (values.Int (pos 40))) ∷
    finish (orchestration (codes "F1") (codes "sub1")) 2 (outcomes.Done (values.Int (pos 5))) ∷
    deliver (orchestration (codes "F1") (codes "sub1")) (entity (codes "C0") (codes "B")) 1 ∷
    deliver (client (codes "a")) (orchestration (codes "F1") (codes "sub1")) 1 ∷
    deliver (orchestration (codes "F1") (codes "sub1")) (client (codes "a")) 1 ∷
    take (client (codes "a")) 10 (message (client (codes "a")) (orchestration (codes "F1") (codes "k")) (wait 10)) ∷
    deliver (orchestration (codes "F1") (codes "sub1")) (entity (codes "C0") (codes "A")) 1 ∷
    deliver (orchestration (codes "F1") (codes "sub1")) (entity (codes "C0") (codes "k1")) 1 ∷
    deliver (orchestration (codes "F1") (codes "sub2")) (entity (codes "C0") (codes "A")) 1 ∷
    deliver (client (codes "a")) (orchestration (codes "F1") (codes "k")) 1 ∷
    deliver (orchestration (codes "F1") (codes "k")) (client (codes "a")) 1 ∷
    take (client (codes "a")) 11 (message (client (codes "a")) (orchestration (codes "F0") (codes "x")) (wait 11)) ∷
    deliver (entity (codes "C0") (codes "A")) (entity (codes "C0") (codes "B")) 3 ∷
    deliver (entity (codes "C0") (codes "B")) (entity (codes "C0") (codes "k1")) 4 ∷
    deliver (entity (codes "C0") (codes "k1")) (orchestration (codes "F1") (codes "sub2")) 4 ∷
    deliver (client (codes "a")) (orchestration (codes "F0") (codes "x")) 4 ∷
    finish (orchestration (codes "F1") (codes "sub2")) 2 (outcomes.Done (values.Int (pos 5))) ∷
    []

-- the requests, and their answers
abbrev pub asked : List (Id × ℕ)
asked = ((client (codes "a"), 1) ∷ (client (codes "a"), 2) ∷ (client (codes "a"), 3) ∷ (client (codes "a"), 4) ∷ (client (codes "a"), 5) ∷ (client (codes "a"), 8) ∷ (client (codes "a"), 9) ∷ (client (codes "a"), 10) ∷ (client (codes "a"), 11) ∷ [])

abbrev pub answers : List (Option Answer)
answers = (Some was_started ∷ Some was_started ∷ Some was_started ∷ Some was_raised ∷ Some was_raised ∷ Some has_ended ∷ Some (is_done (values.Int (pos 5))) ∷ Some (has_failed (codes "type")) ∷ None ∷ [])

-- what the run answers, and how all stand after it, and where the other one stops
abbrev pub Agrees : Type 0
Agrees =
    (option_map (answers_in asked) (after flows run) ≡ Some answers)
    × (option_map (stands_in flows ((entity (codes "C0") (codes "A")) ∷ (entity (codes "C0") (codes "B")) ∷ (entity (codes "C0") (codes "k1")) ∷ (orchestration (codes "F0") (codes "x")) ∷ (orchestration (codes "F1") (codes "k")) ∷ (orchestration (codes "F1") (codes "sub1")) ∷ (orchestration (codes "F1") (codes "sub2")) ∷ [])) (after flows run) ≡ Some (Some (is_value (values.Int (pos 100))) ∷ Some (is_value (values.Int (pos 100))) ∷ Some (is_value (values.Int (pos 100))) ∷ Some is_running ∷ Some (has_failed (codes "type")) ∷ Some (is_done (values.Int (pos 5))) ∷ Some is_running ∷ []))
    × (is_some (after flows good_front) ≡ true)
    × (is_none (after flows bad_front) ≡ true)
