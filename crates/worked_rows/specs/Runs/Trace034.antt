-- Made by tools/theorems from a run that was written down.
use Rattle.std.specs.Prelude.{◌≡◌, Bool, true, false, ℕ, List, [], ◌∷◌, codes, pos, negsuc, is_some, is_none, Option, Some, None, option_map}
use Rattle.dura_value.specs.declared.data.Scalar.TheVariants as scalars
use Rattle.dura_value.specs.declared.data.Value.TheVariants as values
use Rattle.dura_value.specs.declared.outcome.Outcome.TheVariants as outcomes
use Rattle.dura_value.specs.Ids.{Id, orchestration, entity, client}
use Rattle.dura_value.specs.Messages.{Answer, is_done, has_failed, was_started, was_there, is_unknown, was_raised, has_ended, is_missing, is_running, is_value, start, raise, query, wait, to_request}
use Rattle.flow_syntax.specs.Syntax.{not_of, length_of, text_of, add, sub, mul, div, rem, equal, less, both, either, join, at, push, scalar, variable, list, unary, binary, no_parts, part, let_be, spawn, call, subflow, ask, timer, event, await, await_all, await_any, signal, lock_in, if_then, while, try, return, fail, nothing, first_then, Flows}
use Rattle.dura_model.specs.Steps.{Label, take, deliver, finish, fire}
use Rattle.dura_model.specs.Legal.{after, is_due}
use Rattle.worked_rows.specs.Made.{named, class_with, locked, message, answers_in, stands_in}

abbrev pub flows : Flows
flows = record { flows = (named (codes "F0") (first_then (let_be (codes "b") (scalar (scalars.Int (pos 0)))) (first_then (let_be (codes "c") (scalar (scalars.Text (codes "none")))) (first_then (try (first_then (let_be (codes "c") (binary rem (scalar (scalars.Int (negsuc 9223372036854775807))) (scalar (scalars.Int (negsuc 0))))) nothing) (codes "c") nothing) (first_then (return (variable (codes "b"))) nothing)))) ∷ named (codes "F1") (first_then (let_be (codes "a") (scalar (scalars.Int (pos 0)))) (first_then (lock_in (locked (codes "C0") (scalar (scalars.Text (codes "A"))) ∷ []) (first_then (spawn (codes "h1") (codes "echo") (list (part (scalar scalars.Null) (part (scalar scalars.Null) (part (scalar scalars.Null) no_parts))))) (first_then (spawn (codes "h2") (codes "add") (list (part (variable (codes "arg")) (part (unary length_of (scalar (scalars.Text (codes "k1")))) no_parts)))) (first_then (spawn (codes "h3") (codes "echo") (scalar (scalars.Text (codes "B_")))) (first_then (await_any (codes "b") (list (part (variable (codes "h1")) (part (variable (codes "h2")) (part (variable (codes "h3")) no_parts))))) (first_then (let_be (codes "a") (scalar (scalars.Text (240 ∷ 159 ∷ 152 ∷ 128 ∷ [])))) nothing)))))) (first_then (signal (codes "C1") (scalar (scalars.Text (codes "B"))) (codes "op2") (variable (codes "arg"))) (first_then (spawn (codes "h4") (codes "add") (list (part (variable (codes "arg")) (part (variable (codes "arg")) no_parts)))) (first_then (spawn (codes "h5") (codes "echo") (variable (codes "arg"))) (first_then (spawn (codes "h6") (codes "concat") (list no_parts)) (first_then (await_all (codes "a") (list (part (variable (codes "h4")) (part (variable (codes "h5")) (part (variable (codes "h6")) no_parts))))) (first_then (return (binary mul (scalar (scalars.Int (negsuc 3))) (scalar (scalars.Int (pos 8))))) nothing)))))))) ∷ named (codes "F2") (first_then (let_be (codes "x") (scalar (scalars.Int (pos 0)))) (first_then (signal (codes "C1") (scalar (scalars.Text (codes "A"))) (codes "op2") (scalar (scalars.Int (pos 0)))) (first_then (return (variable (codes "x"))) nothing))) ∷ []); classes = (named (codes "C0") (class_with (values.Int (pos 0)) (named (codes "op0") (first_then (let_be (codes "self") (scalar (scalars.Int (pos 1)))) (first_then (fail (scalar (scalars.Text (codes "x.y")))) nothing)) ∷ [])) ∷ named (codes "C1") (class_with (values.Int (pos 10)) (named (codes "op0") (first_then (let_be (codes "self") (scalar (scalars.Int (pos 1)))) (first_then (fail (scalar (scalars.Text (codes "no")))) nothing)) ∷ named (codes "op1") (first_then (return (variable (codes "self"))) nothing) ∷ named (codes "op2") (first_then (return (variable (codes "self"))) nothing) ∷ [])) ∷ []) }

abbrev pub run : List Label
run =
    take (client (codes "c1")) 1 (message (client (codes "c1")) (orchestration (codes "F2") (codes "sub1")) (start (values.Int (pos 1)) (to_request 1))) ∷
    take (client (codes "a")) 3 (message (client (codes "a")) (orchestration (codes "F0") (codes "k")) (start (values.Int (pos 1)) (to_request 3))) ∷
    deliver (client (codes "a")) (orchestration (codes "F0") (codes "k")) 3 ∷
    deliver (orchestration (codes "F0") (codes "k")) (client (codes "a")) 3 ∷
    deliver (client (codes "c1")) (orchestration (codes "F2") (codes "sub1")) 3 ∷
    take (client (codes "a")) 4 (message (client (codes "a")) (orchestration (codes "F0") (codes "k")) (wait 4)) ∷
    deliver (orchestration (codes "F2") (codes "sub1")) (client (codes "c1")) 3 ∷
    deliver (client (codes "a")) (orchestration (codes "F0") (codes "k")) 3 ∷
    deliver (orchestration (codes "F0") (codes "k")) (client (codes "a")) 3 ∷
    take (client (codes "a")) 5 (message (client (codes "a")) (entity (codes "C0") (codes "B")) (query 5)) ∷
    take (client (codes "c1")) 2 (message (client (codes "c1")) (orchestration (codes "F1") (codes "sub1")) (start (values.Int (negsuc 0)) (to_request 2))) ∷
    deliver (orchestration (codes "F2") (codes "sub1")) (entity (codes "C1") (codes "A")) 3 ∷
    deliver (client (codes "a")) (entity (codes "C0") (codes "B")) 3 ∷
    deliver (client (codes "c1")) (orchestration (codes "F1") (codes "sub1")) 3 ∷
    deliver (entity (codes "C0") (codes "B")) (client (codes "a")) 3 ∷
    deliver (orchestration (codes "F1") (codes "sub1")) (client (codes "c1")) 3 ∷
    take (client (codes "c1")) 3 (message (client (codes "c1")) (orchestration (codes "F0") (codes "y")) (start (values.Int (pos 5)) (to_request 3))) ∷
    deliver (orchestration (codes "F1") (codes "sub1")) (entity (codes "C0") (codes "A")) 3 ∷
    deliver (entity (codes "C0") (codes "A")) (orchestration (codes "F1") (codes "sub1")) 3 ∷
    finish (orchestration (codes "F1") (codes "sub1")) 3 (outcomes.Done (values.Text (codes "B_"))) ∷
    finish (orchestration (codes "F1") (codes "sub1")) 5 (outcomes.Done (values.Int (negsuc 0))) ∷
    deliver (orchestration (codes "F1") (codes "sub1")) (entity (codes "C1") (codes "B")) 3 ∷
    deliver (orchestration (codes "F1") (codes "sub1")) (entity (codes "C0") (codes "A")) 3 ∷
    finish (orchestration (codes "F1") (codes "sub1")) 1 (outcomes.Done (values.List (scalars.Null ∷ scalars.Null ∷ scalars.Null ∷ []))) ∷
    deliver (client (codes "c1")) (orchestration (codes "F0") (codes "y")) 3 ∷
    deliver (orchestration (codes "F0") (codes "y")) (client (codes "c1")) 3 ∷
    finish (orchestration (codes "F1") (codes "sub1")) 6 (outcomes.Done (values.Text ([]))) ∷
    take (client (codes "c1")) 4 (message (client (codes "c1")) (orchestration (codes "F2") (codes "sub1")) (wait 4)) ∷
    deliver (client (codes "c1")) (orchestration (codes "F2") (codes "sub1")) 3 ∷
    finish (orchestration (codes "F1") (codes "sub1")) 2 (outcomes.Done (values.Int (pos 1))) ∷
    finish (orchestration (codes "F1") (codes "sub1")) 4 (outcomes.Done (values.Int (negsuc 1))) ∷
    deliver (orchestration (codes "F2") (codes "sub1")) (client (codes "c1")) 6 ∷
    take (client (codes "c1")) 7 (message (client (codes "c1")) (orchestration (codes "F1") (codes "sub1")) (wait 7)) ∷
    deliver (client (codes "c1")) (orchestration (codes "F1") (codes "sub1")) 6 ∷
    deliver (orchestration (codes "F1") (codes "sub1")) (client (codes "c1")) 6 ∷
    take (client (codes "c1")) 8 (message (client (codes "c1")) (orchestration (codes "F0") (codes "y")) (wait 8)) ∷
    deliver (client (codes "c1")) (orchestration (codes "F0") (codes "y")) 6 ∷
    deliver (orchestration (codes "F0") (codes "y")) (client (codes "c1")) 6 ∷
    take (client (codes "c1")) 9 (message (client (codes "c1")) (orchestration (codes "F0") (codes "k")) (query 9)) ∷
    deliver (client (codes "c1")) (orchestration (codes "F0") (codes "k")) 9 ∷
    deliver (orchestration (codes "F0") (codes "k")) (client (codes "c1")) 9 ∷
    []

abbrev pub good_front : List Label
good_front =
    take (client (codes "c1")) 1 (message (client (codes "c1")) (orchestration (codes "F2") (codes "sub1")) (start (values.Int (pos 1)) (to_request 1))) ∷
    take (client (codes "a")) 3 (message (client (codes "a")) (orchestration (codes "F0") (codes "k")) (start (values.Int (pos 1)) (to_request 3))) ∷
    deliver (client (codes "a")) (orchestration (codes "F0") (codes "k")) 3 ∷
    deliver (orchestration (codes "F0") (codes "k")) (client (codes "a")) 3 ∷
    deliver (client (codes "c1")) (orchestration (codes "F2") (codes "sub1")) 3 ∷
    take (client (codes "a")) 4 (message (client (codes "a")) (orchestration (codes "F0") (codes "k")) (wait 4)) ∷
    deliver (orchestration (codes "F2") (codes "sub1")) (client (codes "c1")) 3 ∷
    deliver (client (codes "a")) (orchestration (codes "F0") (codes "k")) 3 ∷
    deliver (orchestration (codes "F0") (codes "k")) (client (codes "a")) 3 ∷
    take (client (codes "a")) 5 (message (client (codes "a")) (entity (codes "C0") (codes "B")) (query 5)) ∷
    take (client (codes "c1")) 2 (message (client (codes "c1")) (orchestration (codes "F1") (codes "sub1")) (start (values.Int (negsuc 0)) (to_request 2))) ∷
    deliver (orchestration (codes "F2") (codes "sub1")) (entity (codes "C1") (codes "A")) 3 ∷
    deliver (client (codes "a")) (entity (codes "C0") (codes "B")) 3 ∷
    deliver (client (codes "c1")) (orchestration (codes "F1") (codes "sub1")) 3 ∷
    deliver (entity (codes "C0") (codes "B")) (client (codes "a")) 3 ∷
    deliver (orchestration (codes "F1") (codes "sub1")) (client (codes "c1")) 3 ∷
    take (client (codes "c1")) 3 (message (client (codes "c1")) (orchestration (codes "F0") (codes "y")) (start (values.Int (pos 5)) (to_request 3))) ∷
    deliver (orchestration (codes "F1") (codes "sub1")) (entity (codes "C0") (codes "A")) 3 ∷
    deliver (entity (codes "C0") (codes "A")) (orchestration (codes "F1") (codes "sub1")) 3 ∷
    finish (orchestration (codes "F1") (codes "sub1")) 3 (outcomes.Done (values.Text (codes "B_"))) ∷
    finish (orchestration (codes "F1") (codes "sub1")) 5 (outcomes.Done (values.Int (negsuc 0))) ∷
    deliver (orchestration (codes "F1") (codes "sub1")) (entity (codes "C1") (codes "B")) 3 ∷
    deliver (orchestration (codes "F1") (codes "sub1")) (entity (codes "C0") (codes "A")) 3 ∷
    finish (orchestration (codes "F1") (codes "sub1")) 1 (outcomes.Done (values.List (scalars.Null ∷ scalars.Null ∷ scalars.Null ∷ []))) ∷
    deliver (client (codes "c1")) (orchestration (codes "F0") (codes "y")) 3 ∷
    deliver (orchestration (codes "F0") (codes "y")) (client (codes "c1")) 3 ∷
    finish (orchestration (codes "F1") (codes "sub1")) 6 (outcomes.Done (values.Text ([]))) ∷
    take (client (codes "c1")) 4 (message (client (codes "c1")) (orchestration (codes "F2") (codes "sub1")) (wait 4)) ∷
    deliver (client (codes "c1")) (orchestration (codes "F2") (codes "sub1")) 3 ∷
    finish (orchestration (codes "F1") (codes "sub1")) 2 (outcomes.Done (values.Int (pos 1))) ∷
    finish (orchestration (codes "F1") (codes "sub1")) 4 (outcomes.Done (values.Int (negsuc 1))) ∷
    []

abbrev pub bad_front : List Label
bad_front =
    take (client (codes "c1")) 1 (message (client (codes "c1")) (orchestration (codes "F2") (codes "sub1")) (start (values.Int (pos 1)) (to_request 1))) ∷
    take (client (codes "a")) 3 (message (client (codes "a")) (orchestration (codes "F0") (codes "k")) (start (values.Int (pos 1)) (to_request 3))) ∷
    deliver (client (codes "a")) (orchestration (codes "F0") (codes "k")) 3 ∷
    deliver (orchestration (codes "F0") (codes "k")) (client (codes "a")) 3 ∷
    deliver (client (codes "c1")) (orchestration (codes "F2") (codes "sub1")) 3 ∷
    take (client (codes "a")) 4 (message (client (codes "a")) (orchestration (codes "F0") (codes "k")) (wait 4)) ∷
    deliver (orchestration (codes "F2") (codes "sub1")) (client (codes "c1")) 3 ∷
    deliver (client (codes "a")) (orchestration (codes "F0") (codes "k")) 3 ∷
    deliver (orchestration (codes "F0") (codes "k")) (client (codes "a")) 3 ∷
    take (client (codes "a")) 5 (message (client (codes "a")) (entity (codes "C0") (codes "B")) (query 5)) ∷
    take (client (codes "c1")) 2 (message (client (codes "c1")) (orchestration (codes "F1") (codes "sub1")) (start (values.Int (negsuc 0)) (to_request 2))) ∷
    deliver (orchestration (codes "F2") (codes "sub1")) (entity (codes "C1") (codes "A")) 3 ∷
    deliver (client (codes "a")) (entity (codes "C0") (codes "B")) 3 ∷
    deliver (client (codes "c1")) (orchestration (codes "F1") (codes "sub1")) 3 ∷
    deliver (entity (codes "C0") (codes "B")) (client (codes "a")) 3 ∷
    deliver (orchestration (codes "F1") (codes "sub1")) (client (codes "c1")) 3 ∷
    take (client (codes "c1")) 3 (message (client (codes "c1")) (orchestration (codes "F0") (codes "y")) (start (values.Int (pos 5)) (to_request 3))) ∷
    deliver (orchestration (codes "F1") (codes "sub1")) (entity (codes "C0") (codes "A")) 3 ∷
    deliver (entity (codes "C0") (codes "A")) (orchestration (codes "F1") (codes "sub1")) 3 ∷
    finish (orchestration (codes "F1") (codes "sub1")) 3 (outcomes.Done (values.Text (codes "B_"))) ∷
    finish (orchestration (codes "F1") (codes "sub1")) 5 (outcomes.Done (values.Int (negsuc 0))) ∷
    deliver (orchestration (codes "F1") (codes "sub1")) (entity (codes "C1") (codes "B")) 3 ∷
    deliver (orchestration (codes "F1") (codes "sub1")) (entity (codes "C0") (codes "A")) 3 ∷
    finish (orchestration (codes "F1") (codes "sub1")) 1 (outcomes.Done (values.List (scalars.Null ∷ scalars.Null ∷ scalars.Null ∷ []))) ∷
    deliver (client (codes "c1")) (orchestration (codes "F0") (codes "y")) 3 ∷
    deliver (orchestration (codes "F0") (codes "y")) (client (codes "c1")) 3 ∷
    finish (orchestration (codes "F1") (codes "sub1")) 6 (outcomes.Done (values.Text ([]))) ∷
    take (client (codes "c1")) 4 (message (client (codes "c1")) (orchestration (codes "F2") (codes "sub1")) (wait 4)) ∷
    deliver (client (codes "c1")) (orchestration (codes "F2") (codes "sub1")) 3 ∷
    finish (orchestration (codes "F1") (codes "sub1")) 2 (outcomes.Done (values.Int (pos 1))) ∷
    finish (orchestration (codes "F1") (codes "sub1")) 4 (outcomes.Done (values.Int (negsuc 1))) ∷
    take (client (codes "c1")) 7 (message (client (codes "c1")) (orchestration (codes "F1") (codes "sub1")) (wait 7)) ∷
    []

-- the requests, and their answers
abbrev pub asked : List (Id × ℕ)
asked = ((client (codes "a"), 3) ∷ (client (codes "c1"), 1) ∷ (client (codes "c1"), 2) ∷ (client (codes "c1"), 3) ∷ (client (codes "a"), 4) ∷ (client (codes "c1"), 4) ∷ (client (codes "c1"), 7) ∷ (client (codes "c1"), 8) ∷ (client (codes "a"), 5) ∷ (client (codes "c1"), 9) ∷ [])

abbrev pub answers : List (Option Answer)
answers = (Some was_started ∷ Some was_started ∷ Some was_started ∷ Some was_started ∷ Some (is_done (values.Int (pos 0))) ∷ Some (is_done (values.Int (pos 0))) ∷ Some (is_done (values.Int (negsuc 31))) ∷ Some (is_done (values.Int (pos 0))) ∷ Some (is_value (values.Int (pos 0))) ∷ Some (is_done (values.Int (pos 0))) ∷ [])

-- what the run answers, and how all stand after it, and where the other one stops
abbrev pub Agrees : Type 0
Agrees =
    (option_map (answers_in asked) (after flows run) ≡ Some answers)
    × (option_map (stands_in flows ((entity (codes "C0") (codes "A")) ∷ (entity (codes "C0") (codes "B")) ∷ (entity (codes "C1") (codes "A")) ∷ (entity (codes "C1") (codes "B")) ∷ (orchestration (codes "F0") (codes "k")) ∷ (orchestration (codes "F0") (codes "y")) ∷ (orchestration (codes "F1") (codes "sub1")) ∷ (orchestration (codes "F2") (codes "sub1")) ∷ [])) (after flows run) ≡ Some (Some (is_value (values.Int (pos 0))) ∷ Some (is_value (values.Int (pos 0))) ∷ Some (is_value (values.Int (pos 10))) ∷ Some (is_value (values.Int (pos 10))) ∷ Some (is_done (values.Int (pos 0))) ∷ Some (is_done (values.Int (pos 0))) ∷ Some (is_done (values.Int (negsuc 31))) ∷ Some (is_done (values.Int (pos 0))) ∷ []))
    × (is_some (after flows good_front) ≡ true)
    × (option_map (λ w. is_due w ((message (client (codes "a")) (orchestration (codes "F0") (codes "k")) (start (values.Int (pos 1)) (to_request 3))) ∷ (message (client (codes "c1")) (orchestration (codes "F2") (codes "sub1")) (start (values.Int (pos 1)) (to_request 1))) ∷ (message (client (codes "c1")) (orchestration (codes "F1") (codes "sub1")) (start (values.Int (negsuc 0)) (to_request 2))) ∷ (message (client (codes "c1")) (orchestration (codes "F0") (codes "y")) (start (values.Int (pos 5)) (to_request 3))) ∷ (message (client (codes "a")) (orchestration (codes "F0") (codes "k")) (wait 4)) ∷ (message (client (codes "c1")) (orchestration (codes "F2") (codes "sub1")) (wait 4)) ∷ []) (message (client (codes "c1")) (orchestration (codes "F1") (codes "sub1")) (wait 7))) (after flows good_front) ≡ Some false)
