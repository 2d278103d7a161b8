-- Made by tools/theorems from a run that was written down.
use Rattle.std.specs.Prelude.{◌≡◌, Bool, true, false, ℕ, List, [], ◌∷◌, codes, pos, negsuc, is_some, is_none, Option, Some, None, option_map}
use Rattle.dura_value.specs.declared.data.Scalar.TheVariants as scalars
use Rattle.dura_value.specs.declared.data.Value.TheVariants as values
use Rattle.dura_value.specs.declared.outcome.Outcome.TheVariants as outcomes
use Rattle.dura_value.specs.Ids.{Id, orchestration, entity, client}
use Rattle.dura_value.specs.Messages.{Answer, is_done, has_failed, was_started, was_there, is_unknown, was_raised, has_ended, is_missing, is_running, is_value, start, raise, query, wait, to_request}
use Rattle.flow_syntax.specs.Syntax.{not_of, length_of, text_of, add, sub, mul, div, rem, equal, less, both, either, join, at, push, scalar, variable, list, unary, binary, no_parts, part, let_be, spawn, call, subflow, ask, timer, event, await, await_all, await_any, signal, lock_in, if_then, while, try, return, fail, nothing, first_then, Flows}
use Rattle.dura_model.specs.Steps.{Label, take, deliver, finish, fire}
use Rattle.dura_model.specs.Legal.{after, is_due}
use Rattle.worked_rows.specs.Made.{named, class_with, locked, message, answers_in, stands_in}

abbrev pub flows : Flows
flows = record { flows = (named (codes "F0") (first_then (let_be (codes "c") (scalar (scalars.Int (pos 0)))) (first_then (let_be (codes "c") (scalar (scalars.Text (codes "none")))) (first_then (try (first_then (try (first_then (fail (unary text_of (list (part (scalar (scalars.Text ([]))) (part (scalar (scalars.Text (codes "got "))) (part (scalar (scalars.Text (codes "B_"))) no_parts)))))) nothing) (codes "a") nothing) nothing) (codes "c") (first_then (ask (codes "q1") (codes "C0") (scalar (scalars.Text (codes "A"))) (codes "op0") (binary div (scalar (scalars.Int (pos 7))) (variable (codes "arg")))) (first_then (await (codes "c") (variable (codes "q1"))) (first_then (let_be (codes "d") (scalar (scalars.Text (codes "none")))) (first_then (try (first_then (subflow (codes "d") (codes "F1") (scalar (scalars.Int (pos 5))) (scalar (scalars.Int (pos 1)))) nothing) (codes "d") nothing) nothing))))) (first_then (let_be (codes "n") (scalar (scalars.Int (pos 1)))) (first_then (let_be (codes "y") (scalar (scalars.Int (pos 0)))) (first_then (let_be (codes "y") (scalar (scalars.Text (codes "none")))) (first_then (subflow (codes "s2") (codes "F1") (binary join (scalar (scalars.Text (codes "w"))) (unary text_of (variable (codes "n")))) (scalar (scalars.Int (negsuc 0)))) (first_then (await (codes "y") (variable (codes "s2"))) (first_then (let_be (codes "c") (binary div (unary length_of (scalar (scalars.Text (1 ∷ [])))) (variable (codes "arg")))) (first_then (if_then (binary equal (scalar (scalars.Text (codes "k2"))) (scalar scalars.Null)) (first_then (lock_in (locked (codes "C0") (scalar (scalars.Text (codes "k1"))) ∷ locked (codes "C0") (scalar (scalars.Text (codes "A"))) ∷ []) (first_then (let_be (codes "y") (variable (codes "c"))) (first_then (ask (codes "q3") (codes "C0") (scalar (scalars.Text (codes "A"))) (codes "op0") (scalar (scalars.Int (pos 4)))) (first_then (let_be (codes "y") (scalar (scalars.Int (pos 0)))) (first_then (let_be (codes "d") (scalar (scalars.Text (codes "none")))) (first_then (try (first_then (await (codes "y") (variable (codes "q3"))) nothing) (codes "d") nothing) (first_then (ask (codes "q4") (codes "C1") (scalar (scalars.Text (codes "B"))) (codes "op1") (variable (codes "arg"))) (first_then (let_be (codes "d") (scalar (scalars.Int (pos 0)))) (first_then (let_be (codes "c") (scalar (scalars.Text (codes "none")))) (first_then (try (first_then (await (codes "d") (variable (codes "q4"))) nothing) (codes "c") nothing) nothing)))))))))) nothing) (first_then (let_be (codes "c") (binary add (variable (codes "arg")) (binary sub (scalar (scalars.Int (negsuc 0))) (scalar (scalars.Int (pos 6)))))) nothing)) (first_then (return (variable (codes "c"))) nothing))))))))))) ∷ named (codes "F1") (first_then (let_be (codes "d") (scalar (scalars.Int (pos 0)))) (first_then (let_be (codes "a") (scalar scalars.False)) (first_then (return (scalar (scalars.Int (pos 7)))) nothing))) ∷ []); classes = (named (codes "C0") (class_with (values.Int (pos 10)) (named (codes "op0") (first_then (let_be (codes "self") (binary add (variable (codes "self")) (variable (codes "arg")))) (first_then (return (variable (codes "self"))) nothing)) ∷ [])) ∷ named (codes "C1") (class_with (values.Int (pos 100)) (named (codes "op0") (first_then (return (variable (codes "self"))) nothing) ∷ named (codes "op1") (first_then (let_be (codes "i") (scalar (scalars.Int (pos 0)))) (first_then (while (binary less (variable (codes "i")) (scalar (scalars.Int (pos 3)))) (first_then (let_be (codes "self") (binary add (variable (codes "self")) (variable (codes "arg")))) (first_then (let_be (codes "i") (binary add (variable (codes "i")) (scalar (scalars.Int (pos 1))))) nothing))) nothing)) ∷ [])) ∷ []) }

abbrev pub run : List Label
run =
    take (client (codes "b")) 1 (message (client (codes "b")) (orchestration (codes "F0") (codes "y")) (start (values.Int (pos 40)) (to_request 1))) ∷
    deliver (client (codes "b")) (orchestration (codes "F0") (codes "y")) 0 ∷
    deliver (orchestration (codes "F0") (codes "y")) (client (codes "b")) 0 ∷
    take (client (codes "b")) 2 (message (client (codes "b")) (orchestration (codes "F0") (codes "k")) (start (values.Int (pos 40)) (to_request 2))) ∷
    deliver (orchestration (codes "F0") (codes "y")) (orchestration (codes "F1") (codes "w1")) 0 ∷
    deliver (orchestration (codes "F1") (codes "w1")) (orchestration (codes "F0") (codes "y")) 0 ∷
    deliver (client (codes "b")) (orchestration (codes "F0") (codes "k")) 0 ∷
    deliver (orchestration (codes "F0") (codes "k")) (client (codes "b")) 0 ∷
    take (client (codes "b")) 5 (message (client (codes "b")) (orchestration (codes "F0") (codes "y")) (wait 5)) ∷
    deliver (orchestration (codes "F0") (codes "k")) (orchestration (codes "F1") (codes "w1")) 0 ∷
    deliver (client (codes "b")) (orchestration (codes "F0") (codes "y")) 0 ∷
    deliver (orchestration (codes "F0") (codes "y")) (client (codes "b")) 0 ∷
    deliver (orchestration (codes "F1") (codes "w1")) (orchestration (codes "F0") (codes "k")) 0 ∷
    take (client (codes "b")) 6 (message (client (codes "b")) (orchestration (codes "F0") (codes "k")) (wait 6)) ∷
    deliver (client (codes "b")) (orchestration (codes "F0") (codes "k")) 1 ∷
    deliver (orchestration (codes "F0") (codes "k")) (client (codes "b")) 1 ∷
    take (client (codes "b")) 7 (message (client (codes "b")) (orchestration (codes "F0") (codes "y")) (query 7)) ∷
    deliver (client (codes "b")) (orchestration (codes "F0") (codes "y")) 1 ∷
    deliver (orchestration (codes "F0") (codes "y")) (client (codes "b")) 1 ∷
    []

abbrev pub good_front : List Label
good_front =
    take (client (codes "b")) 1 (message (client (codes "b")) (orchestration (codes "F0") (codes "y")) (start (values.Int (pos 40)) (to_request 1))) ∷
    deliver (client (codes "b")) (orchestration (codes "F0") (codes "y")) 0 ∷
    deliver (orchestration (codes "F0") (codes "y")) (client (codes "b")) 0 ∷
    take (client (codes "b")) 2 (message (client (codes "b")) (orchestration (codes "F0") (codes "k")) (start (values.Int (pos 40)) (to_request 2))) ∷
    deliver (orchestration (codes "F0") (codes "y")) (orchestration (codes "F1") (codes "w1")) 0 ∷
    []

abbrev pub bad_front : List Label
bad_front =
    take (client (codes "b")) 1 (message (client (codes "b")) (orchestration (codes "F0") (codes "y")) (start (values.Int (pos 40)) (to_request 1))) ∷
    deliver (client (codes "b")) (orchestration (codes "F0") (codes "y")) 0 ∷
    deliver (orchestration (codes "F0") (codes "y")) (client (codes "b")) 0 ∷
    take (client (codes "b")) 2 (message (client (codes "b")) (orchestration (codes "F0") (codes "k")) (start (values.Int (pos 40)) (to_request 2))) ∷
    deliver (orchestration (codes "F0") (codes "y")) (orchestration (codes "F1") (codes "w1")) 0 ∷
    deliver (orchestration (codes "F0") (codes "y")) (orchestration (codes "F1") (codes "w1")) 0 ∷
    []

-- the requests, and their answers
abbrev pub asked : List (Id × ℕ)
asked = ((client (codes "b"), 1) ∷ (client (codes "b"), 2) ∷ (client (codes "b"), 5) ∷ (client (codes "b"), 6) ∷ (client (codes "b"), 7) ∷ [])

abbrev pub answers : List (Option Answer)
answers = (Some was_started ∷ Some was_started ∷ Some (is_done (values.Int (pos 33))) ∷ Some (has_failed (codes "exists")) ∷ Some (is_done (values.Int (pos 33))) ∷ [])

-- what the run answers, and how all stand after it, and where the other one stops
abbrev pub Agrees : Type 0
Agrees =
    (option_map (answers_in asked) (after flows run) ≡ Some answers)
    × (option_map (stands_in flows ((orchestration (codes "F0") (codes "k")) ∷ (orchestration (codes "F0") (codes "y")) ∷ (orchestration (codes "F1") (codes "w1")) ∷ [])) (after flows run) ≡ Some (Some (has_failed (codes "exists")) ∷ Some (is_done (values.Int (pos 33))) ∷ Some (is_done (values.Int (pos 7))) ∷ []))
    × (is_some (after flows good_front) ≡ true)
    × (is_none (after flows bad_front) ≡ true)
