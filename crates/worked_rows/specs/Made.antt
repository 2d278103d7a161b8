-- Short words in which examples are written, and what they look at.
use Rattle.std.specs.Prelude.{ℕ, List, [], ◌∷◌, map, replicate, codes, Option, Some, None, Result, option_map}
use Rattle.dura_value.specs.declared.data.Scalar.TheVariants as scalars
use Rattle.dura_value.specs.declared.data.Value.{Value}
use Rattle.dura_value.specs.declared.data.Value.TheVariants as values
use Rattle.dura_value.specs.Ids.{Id, orchestration, entity, client}
use Rattle.dura_value.specs.Messages.{Answer, is_missing, Body, Message, to_request}
use Rattle.flow_syntax.specs.Syntax.{Expression, scalar, Block, nothing, first_then, lock_in, Named, Class, Flows, class_of, Locked}
use Rattle.flow_syntax.specs.Eval.{Variables, eval}
use Rattle.flow_syntax.specs.Machine.{Machine, Progress, new_machine, resume, started, was_granted}
use Rattle.flow_syntax.specs.Entity.{Entity, value_answer}
use Rattle.dura_model.specs.World.{World, Orchestration}
use Rattle.dura_model.specs.Deliveries.{standing}

abbrev pub named : {X : Type 0} → List ℕ → X → Named X
named name it = record { name = name; it = it }

abbrev pub class_with : Value → List (Named Block) → Class
class_with init operations = record { init = init; operations = operations }

abbrev pub locked : List ℕ → Expression → Locked
locked class key = record { class = class; key = key }

abbrev pub message : Id → Id → Body → Message
message from to body = record { from = from; to = to; body = body }

-- the answers to these requests
abbrev pub answers_in : List (Id × ℕ) → World → List (Option Answer)
answers_in [] w = []
answers_in (one ∷ more) w = w.answers one.0 one.1 ∷ answers_in more w

-- how an instance or an entity that is there stands
abbrev pub stand_of : Flows → World → Id → Option Answer
stand_of flows w (entity class key) = option_map (λ (e : Entity). value_answer (class_of flows class) e.value) (w.entities (entity class key))
stand_of flows w id = option_map (λ (o : Orchestration). standing o.machine.progress) (w.orchestrations id)

abbrev pub stands_in : Flows → List Id → World → List (Option Answer)
stands_in flows [] w = []
stands_in flows (id ∷ ids) w = stand_of flows w id ∷ stands_in flows ids w

-- ---- tables

-- a text of one byte less than the most, and lists of one scalar less than the most and of just so many
abbrev pub variables : Variables
variables =
    (codes "arg", values.Null) ∷ (codes "long", values.Text (replicate 4095 108)) ∷ (codes "most_less_one", values.List (replicate 1023 scalars.Null)) ∷ (codes "most", values.List (replicate 1024 scalars.Null)) ∷ []

abbrev pub values_of : List Expression → List (Result Value (List ℕ))
values_of = map (eval variables)

-- an instance that begins with this body at the stamp 7
abbrev pub begun_with : Block → Machine
begun_with body = (resume (new_machine (orchestration (codes "F") (codes "x")) (Some body)) (started (client (codes "a")) values.Null (to_request 1)) 7).machine

abbrev pub ends_of : List Block → List Progress
ends_of = map (λ body. (begun_with body).progress)

-- a section with the entities C/m and C/k, as it is written
abbrev pub section_of : Block → Block
section_of body =
    first_then (lock_in (locked (codes "C") (scalar (scalars.Text (codes "m"))) ∷ locked (codes "C") (scalar (scalars.Text (codes "k"))) ∷ []) body) nothing

abbrev pub ends_inside : List Block → List Progress
ends_inside = map (λ body. (resume (begun_with (section_of body)) (was_granted 0) 7).machine.progress)
