-- States show a world that has a table; a world has one, and what is said of it first is its front.
use Rattle.std.proofs.Common.{◌≡◌, ◌∙◌, inl, inr, ℕ, zero, suc, ◌<◌, length, Bool, List, [], ◌∷◌, ◌++◌, slice_index_or, refl, sym, ap, append_assoc, arith}
use Rattle.dura_model.specs.Entries.{shown_by}
use Rattle.dura_model.specs.Partition.{Partition, instance_in, shown}
use Rattle.dura_model.specs.World.{World}
use Rattle.dura_value.specs.Ids.{Id}
use Rattle.flow_messages.specs.Views.{entity_of}
use Rattle.flow_syntax.specs.Syntax.{Flows}
use Rattle.shared_maps.specs.Digests.{hashed_place}
use Rattle.shared_maps.specs.Entries.{find}
use Rattle.part_rows.specs.Views.{row_of}
use Rattle.part_steps.specs.States.{AreStatesOfAll, parts_in, state_of}
use Rattle.part_steps.specs.declared.state.PartState.{PartState}
use Rattle.state_lines.specs.Kinds.{has_line, keeps}
use Rattle.state_lines.specs.Table.{table_lines, has_entity, has_instance, entity_answer, instance_answer, AreAll, IsTable}
use Rattle.state_lines.specs.declared.kind.Kind.{Kind}
use Rattle.state_lines.specs.declared.kind.Kind.TheVariants.{Entity, Instance}
use Rattle.state_lines.specs.Fronts.{AreFirstLines}
use Rattle.state_lines.proofs.Fronts.{one_list, front_of_all}
use Rattle.state_lines.proofs.Merging.{AreKept}
use Rattle.state_lines.proofs.Joined.{kept_listed}
use Rattle.state_lines.proofs.Keys.{keys_found, keys_in}
use Rattle.state_lines.proofs.Kept.{are_kept, first_of_all, part_at, seen_there, world_of}

pub one_table : (flows : Flows) (world : World) (a b : List ℕ) → IsTable flows world a → IsTable flows world b → a ≡ b
one_table flows world a b this that =
    this.lines ∙ ap (λ (ids : List Id). table_lines (entity_answer flows world) ids ++ table_lines (instance_answer world) this.instances) (one_list (has_entity world) this.entities that.entities this.all_entities that.all_entities)
    ∙ ap (λ (ids : List Id). table_lines (entity_answer flows world) that.entities ++ table_lines (instance_answer world) ids) (one_list (has_instance world) this.instances that.instances this.all_instances that.all_instances)
    ∙ sym that.lines

-- where the ids of both kinds can be listed there is a table
tabled : (flows : Flows) (world : World) → (ids : List Id) × AreAll (has_entity world) ids → (ids : List Id) × AreAll (has_instance world) ids → (table : List ℕ) × IsTable flows world table
tabled flows world entities instances = (
  table_lines (entity_answer flows world) entities.0 ++ table_lines (instance_answer world) instances.0,
  record { entities = entities.0; instances = instances.0; all_entities = entities.1; all_instances = instances.1; lines = refl },
)

-- the ids that states keep something for can be listed
listed : (kind : Kind) (states : List PartState) (there : Id → Bool) (kept : ℕ → Id → Bool) → AreKept (length states) there kept
    → ((place : ℕ) (d : PartState) (id : Id) → place < length states → kept place id ≡ keeps kind (state_of (slice_index_or states place d)) id) → PartState → (ids : List Id) × AreAll there ids
listed Entity states there kept are at some = kept_listed (λ (s : PartState). keys_in s.rows.entities.entries) states there kept are
    (λ place d id inside. at place d id inside ∙ seen_there entity_of (find (slice_index_or states place d).rows.entities.entries (hashed_place id 0)) ∙ sym (keys_found (slice_index_or states place d).rows.entities.entries id)) some
listed Instance states there kept are at some = kept_listed (λ (s : PartState). keys_in s.rows.instances.entries) states there kept are
    (λ place d id inside. at place d id inside ∙ seen_there row_of (find (slice_index_or states place d).rows.instances.entries (hashed_place id 0)) ∙ sym (keys_found (slice_index_or states place d).rows.instances.entries id)) some

all_listed : (flows : Flows) (states : List PartState) → AreStatesOfAll states → (kind : Kind) → (ids : List Id) × AreAll (has_line kind (world_of flows states)) ids
all_listed flows states are kind = listed kind states (has_line kind (world_of flows states)) (λ place. keeps kind (parts_in states place)) (are_kept flows states are kind)
    (λ place d id inside. ap (λ (p : Partition). keeps kind p id) (part_at states place d inside)) (first_of_all states are.some)

pub has_table : (flows : Flows) (states : List PartState) → AreStatesOfAll states → (table : List ℕ) × IsTable flows (shown flows (length states) (parts_in states)) table
has_table flows states are = tabled flows (world_of flows states) (all_listed flows states are Entity) (all_listed flows states are Instance)

-- ---- one state

same_line : (flows : Flows) (p : Partition) (kind : Kind) (id : Id) → has_line kind (shown_by flows p) id ≡ keeps kind p id
same_line flows p Entity id = refl
same_line flows p Instance id = seen_there (instance_in flows id) (p.instances id)

the_one : (state d : PartState) (place : ℕ) → place < 1 → state ≡ slice_index_or (state ∷ []) place d
the_one state d zero inside = refl
the_one state d (suc place) inside = absurd (omega arith)

one_listed : (flows : Flows) (state : PartState) (kind : Kind) → (ids : List Id) × AreAll (has_line kind (shown_by flows (state_of state))) ids
one_listed flows state kind = listed kind (state ∷ []) (has_line kind (shown_by flows (state_of state))) (λ place. keeps kind (state_of state))
    (record { place_of = λ id. 0; inside = λ id. omega arith; same = same_line flows (state_of state) kind; only = λ place id inside found. omega arith })
    (λ place d id inside. ap (λ (s : PartState). keeps kind (state_of s) id) (the_one state d place inside)) state

-- a state alone shows a world that has a table, whatever it keeps
pub has_table_of_one : (flows : Flows) (state : PartState) → (table : List ℕ) × IsTable flows (shown_by flows (state_of state)) table
has_table_of_one flows state = tabled flows (shown_by flows (state_of state)) (one_listed flows state Entity) (one_listed flows state Instance)

-- ---- fronts

pub front_of_table : (flows : Flows) (world : World) (lines part table : List ℕ) → AreFirstLines flows world lines part → IsTable flows world table → (rest : List ℕ) × (table ≡ lines ++ part ++ rest)
front_of_table flows world lines part table (inl first) that =
    let front : (behind : List ℕ) × (table_lines (entity_answer flows world) that.entities ≡ (lines ++ part) ++ behind) = front_of_all (has_entity world) (entity_answer flows world) lines part that.entities first that.all_entities in (
      front.0 ++ table_lines (instance_answer world) that.instances,
      that.lines ∙ ap (λ (l : List ℕ). l ++ table_lines (instance_answer world) that.instances) front.1 ∙ append_assoc (lines ++ part) front.0 (table_lines (instance_answer world) that.instances),
    )
front_of_table flows world lines part table (inr later) that =
    let before : List ℕ = table_lines (entity_answer flows world) later.entities in
    let front : (behind : List ℕ) × (table_lines (instance_answer world) that.instances ≡ (later.more ++ part) ++ behind) =
    front_of_all (has_instance world) (instance_answer world) later.more part that.instances later.first that.all_instances in (
      front.0,
      that.lines ∙ ap (λ (ids : List Id). table_lines (entity_answer flows world) ids ++ table_lines (instance_answer world) that.instances) (one_list (has_entity world) that.entities later.entities that.all_entities later.all_entities)
          ∙ ap (λ (l : List ℕ). before ++ l) front.1 ∙ sym (append_assoc before (later.more ++ part) front.0) ∙ ap (λ (l : List ℕ). l ++ front.0) (sym (append_assoc before later.more part))
          ∙ ap (λ (l : List ℕ). (l ++ part) ++ front.0) (sym later.whole),
    )
