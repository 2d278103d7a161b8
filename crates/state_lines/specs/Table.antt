-- The table of a world: a line for each entity that was delivered to, then one for each instance of an orchestration.
use Rattle.std.specs.Prelude.{◌≡◌, ℕ, Bool, List, [], ◌∷◌, ◌++◌, Option, Some, None, is_some, option_map, if◌then◌else◌}
use Rattle.client_port.specs.Lines.{answer_text}
use Rattle.dura_model.specs.Deliveries.{standing}
use Rattle.dura_model.specs.World.{World}
use Rattle.dura_value.specs.Ids.{Id, orchestration, entity, client, written}
use Rattle.dura_value.specs.Messages.{Answer, is_missing, is_value}
use Rattle.flow_syntax.specs.Syntax.{Flows, class_of}
use Rattle.shared_maps.specs.IdOrder.{IsNextBehind, NoneBehind}

-- ID ANSWER, and a line feed; no line where there is no answer
abbrev pub table_line : Id → Option Answer → List ℕ
table_line id None = []
table_line id (Some answer) = written id ++ 32 ∷ [] ++ answer_text answer ++ 10 ∷ []

-- the lines of these ids, each with the answer that it has
abbrev pub table_lines : (Id → Option Answer) → List Id → List ℕ
table_lines standing [] = []
table_lines standing (id ∷ ids) = table_line id (standing id) ++ table_lines standing ids

-- the last of these ids, or the one before them
abbrev pub last_of : Option Id → List Id → Option Id
last_of last [] = last
last_of last (id ∷ ids) = last_of (Some id) ids

-- the first of these ids is the next behind the last one, and each other the next behind the one before
abbrev pub AreNext : (there : Id → Bool) → Option Id → List Id → Type 0
AreNext there last [] = Unit {0}
AreNext there last (id ∷ ids) = IsNextBehind there last id × AreNext there (Some id) ids

-- These are all ids that something is there for, in order.
pub record AreAll (there : Id → Bool) (ids : List Id) : Type 0 where
  pub next : AreNext there None ids
  pub end : NoneBehind there (last_of None ids)

abbrev pub has_entity : World → Id → Bool
has_entity world id = is_some (world.entities id)

abbrev pub has_instance : World → Id → Bool
has_instance world id = is_some (world.orchestrations id)

-- an entity of a class that isn't there has no value to tell
abbrev pub answer_at : Flows → Id → Answer → Answer
answer_at flows (entity class key) answer = if is_some (class_of flows class) then answer else is_missing
answer_at flows (orchestration flow key) answer = answer
answer_at flows (client name) answer = answer

-- the answer that a query of an entity would get, whoever holds it
abbrev pub entity_answer : Flows → World → Id → Option Answer
entity_answer flows world id = option_map (λ e. answer_at flows id (is_value e.value)) (world.entities id)

-- the answer that a query of an instance would get
abbrev pub instance_answer : World → Id → Option Answer
instance_answer world id = option_map (λ o. standing o.machine.progress) (world.orchestrations id)

-- The lines of all entities, and behind them those of all instances.
pub record IsTable (flows : Flows) (world : World) (table : List ℕ) : Type 0 where
  pub entities : List Id
  pub instances : List Id
  pub all_entities : AreAll (has_entity world) entities
  pub all_instances : AreAll (has_instance world) instances
  pub lines : table ≡ table_lines (entity_answer flows world) entities ++ table_lines (instance_answer world) instances
