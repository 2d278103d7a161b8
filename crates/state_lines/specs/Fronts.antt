-- What of a table was said: all of it, or its first lines and a part of the next one.
use Rattle.std.specs.Prelude.{◌≡◌, ◌⊎◌, ℕ, Bool, List, [], ◌++◌, Option, None}
use Rattle.dura_model.specs.World.{World}
use Rattle.dura_value.specs.Ids.{Id}
use Rattle.dura_value.specs.Messages.{Answer}
use Rattle.flow_syntax.specs.Syntax.{Flows}
use Rattle.shared_maps.specs.IdOrder.{IsNextBehind}
use Rattle.state_lines.specs.declared.error.ShowError.{ShowError}
use Rattle.state_lines.specs.declared.error.ShowError.TheVariants.{Memory}
use Rattle.state_lines.specs.Table.{table_line, table_lines, last_of, AreNext, AreAll, has_entity, has_instance, entity_answer, instance_answer, IsTable}

-- This is a part of the line of the next id behind the last one.
pub record IsPartOfNext (there : Id → Bool) (standing : Id → Option Answer) (last : Option Id) (part : List ℕ) : Type 0 where
  pub id : Id
  pub next : IsNextBehind there last id
  pub rest : List ℕ
  pub front : table_line id (standing id) ≡ part ++ rest

-- These are the lines of the first ids, and this is a part of the line of the next one, or nothing.
pub record AreFirst (there : Id → Bool) (standing : Id → Option Answer) (lines part : List ℕ) : Type 0 where
  pub ids : List Id
  pub next : AreNext there None ids
  pub whole : lines ≡ table_lines standing ids
  pub going : (part ≡ []) ⊎ IsPartOfNext there standing (last_of None ids) part

-- These are the lines of all entities and of the first instances, and this is a part of the next one, or nothing.
pub record AreInInstances (flows : Flows) (world : World) (lines part : List ℕ) : Type 0 where
  pub entities : List Id
  pub all_entities : AreAll (has_entity world) entities
  pub more : List ℕ
  pub first : AreFirst (has_instance world) (instance_answer world) more part
  pub whole : lines ≡ table_lines (entity_answer flows world) entities ++ more

-- these are the first lines of the table, and this is a part of the next one, or nothing
abbrev pub AreFirstLines : Flows → World → (lines part : List ℕ) → Type 0
AreFirstLines flows world lines part = AreFirst (has_entity world) (entity_answer flows world) lines part ⊎ AreInInstances flows world lines part

-- The tape goes on by the table.
pub record SaysTable (flows : Flows) (world : World) (old new : List ℕ) : Type 0 where
  pub table : List ℕ
  pub is : IsTable flows world table
  pub said : new ≡ old ++ table

-- The tape goes on by the first lines of the table and by a part of the next one, of which there is none where memory ran out.
pub record StopsInTable (flows : Flows) (world : World) (error : ShowError) (old new : List ℕ) : Type 0 where
  pub lines : List ℕ
  pub part : List ℕ
  pub front : AreFirstLines flows world lines part
  pub said : new ≡ old ++ lines ++ part
  pub whole : error ≡ Memory → part ≡ []
