-- A row that is taken out and put back.
use Rattle.std.proofs.Common.{◌≡◌, ◌∙◌, ℕ, List, [], Option, Some, None, refl, ap, sym}
use Rattle.std.specs.Prelude.{option_map}
use Rattle.dura_value.specs.Ids.{Id, orchestration, entity, client}
use Rattle.dura_value.specs.Messages.{Body}
use Rattle.flow_syntax.specs.Syntax.{Flows}
use Rattle.flow_syntax.specs.Machine.{Event}
use Rattle.flow_syntax.specs.Entity.{Entity}
use Rattle.dura_model.specs.World.{Orchestration}
use Rattle.dura_value.specs.ById.{at_id}
use Rattle.dura_model.specs.Deliveries.{Effect, to_instance}
use Rattle.dura_model.specs.Partition.{Row, Partition, row_after, post_all, asked_in, given_up_in, stands_in, instance_at, client_received}
use Rattle.part_rows.proofs.Seen.{set_again}
use Rattle.part_rows.specs.Reactions.{Reaction, reaction, delivered}
use Rattle.part_steps.specs.Kept.{next_row, kept_in}
use Rattle.part_steps.specs.Outputs.{sent_to}
use Rattle.part_steps.specs.Reached.{delivered_at, instance_reached, entity_reached, reached}

pub row_put_back : (old middle new : Partition) (id : Id) (row next : Option Row) (stamp : ℕ) (event : Option Event) (waiting : Option (List (Id × ℕ)))
    → row ≡ old.instances id → middle ≡ record old { instances = at_id old.instances id None } → next ≡ option_map (next_row row stamp event) waiting → new ≡ record middle { instances = at_id middle.instances id next }
    → new ≡ record old { instances = at_id old.instances id (option_map (next_row (old.instances id) stamp event) waiting) }
row_put_back old middle new id row next stamp event waiting row_is middle_is next_is is =
    is
    ∙ ap (λ (m : Partition). record m { instances = at_id m.instances id next }) middle_is
    ∙ ap (λ (f : Id → Option Row). record old { instances = f }) (set_again old.instances id next None)
    ∙ ap (λ (x : Option Row). record old { instances = at_id old.instances id x }) (next_is ∙ ap (λ (r : Option Row). option_map (next_row r stamp event) waiting) row_is)

pub entity_put_back : (flows : Flows) (old middle new : Partition) (class : List ℕ) (from to : Id) (stamp : ℕ) (body : Body) (kept : Option Entity) (after : Entity)
    → kept ≡ old.entities to → middle ≡ record old { entities = at_id old.entities to None } → after ≡ (delivered flows class kept from to stamp body).entity → new ≡ record middle { entities = at_id middle.entities to (Some after) }
    → new ≡ record old { entities = at_id old.entities to (Some (delivered_at flows old class from to stamp body).entity) }
entity_put_back flows old middle new class from to stamp body kept after kept_is middle_is after_is is =
    is
    ∙ ap (λ (m : Partition). record m { entities = at_id m.entities to (Some after) }) middle_is
    ∙ ap (λ (f : Id → Option Entity). record old { entities = f }) (set_again old.entities to (Some after) None)
    ∙ ap (λ (x : Entity). record old { entities = at_id old.entities to (Some x) }) (after_is ∙ ap (λ (k : Option Entity). (delivered flows class k from to stamp body).entity) kept_is)

-- what is seen through three views
pub seen_by : {X Y Z W : Type 0} (f : X → Y) (g : Y → Z) (h : Z → W) (x : Option X) (y : Option Y) → option_map f x ≡ y → option_map h (option_map g y) ≡ option_map (λ v. h (g (f v))) x
seen_by f g h None y is = ap (λ (o : Option _). option_map h (option_map g o)) (sym is)
seen_by f g h (Some x) y is = ap (λ (o : Option _). option_map h (option_map g o)) (sym is)

-- the row sees of an instance who waits for it
row_seen : (row : Option Row) (stamp : ℕ) (event : Option Event) (o : Option Orchestration) → option_map (next_row row stamp event) (option_map (λ (o : Orchestration). o.waiting) o) ≡ option_map (row_after row stamp event) o
row_seen row stamp event None = refl
row_seen row stamp event (Some o) = refl

-- an instance stands as its effect makes it
pub kept_stands : (count : ℕ) (p new : Partition) (id : Id) (stamp : ℕ) (event : Option Event) (e : Effect) (r : Reaction) → r ≡ reaction event e → new ≡ kept_in count p id stamp r → new ≡ stands_in count p id stamp event e
kept_stands count p new id stamp event e r made is =
    is
    ∙ ap (kept_in count p id stamp) made
    ∙ ap (λ (x : Option Row). post_all count (asked_in (given_up_in (record p { instances = at_id p.instances id x }) id e.gives_up) id e.asked) e.sent) (row_seen (p.instances id) stamp event e.instance)

pub entity_sends : (flows : Flows) (p : Partition) (class key : List ℕ) (from to : Id) (stamp : ℕ) (body : Body) → to ≡ entity class key → sent_to flows p from to stamp body ≡ (delivered_at flows p class from to stamp body).sent
entity_sends flows p class key from to stamp body is =
    ap (λ (t : Id). sent_to flows p from t stamp body) is ∙ sym (ap (λ (t : Id). (delivered_at flows p class from t stamp body).sent) is)

pub entity_stands : (flows : Flows) (count : ℕ) (p : Partition) (class key : List ℕ) (from to : Id) (stamp : ℕ) (body : Body) → to ≡ entity class key → reached flows count p from to stamp body ≡ entity_reached flows count p class from to stamp body
entity_stands flows count p class key from to stamp body is =
    ap (λ (t : Id). reached flows count p from t stamp body) is ∙ sym (ap (λ (t : Id). entity_reached flows count p class from t stamp body) is)

pub instance_sends : (flows : Flows) (p : Partition) (flow key : List ℕ) (from to : Id) (stamp : ℕ) (body : Body) → to ≡ orchestration flow key → sent_to flows p from to stamp body ≡ (to_instance flows (instance_at flows p to) from to stamp body).sent
instance_sends flows p flow key from to stamp body is =
    ap (λ (t : Id). sent_to flows p from t stamp body) is ∙ sym (ap (λ (t : Id). (to_instance flows (instance_at flows p t) from t stamp body).sent) is)

pub instance_stands : (flows : Flows) (count : ℕ) (p : Partition) (flow key : List ℕ) (from to : Id) (stamp : ℕ) (body : Body) → to ≡ orchestration flow key → reached flows count p from to stamp body ≡ instance_reached flows count p from to stamp body
instance_stands flows count p flow key from to stamp body is =
    ap (λ (t : Id). reached flows count p from t stamp body) is ∙ sym (ap (λ (t : Id). instance_reached flows count p from t stamp body) is)

pub client_sends : (flows : Flows) (p : Partition) (name : List ℕ) (from to : Id) (stamp : ℕ) (body : Body) → to ≡ client name → sent_to flows p from to stamp body ≡ []
client_sends flows p name from to stamp body is = ap (λ (t : Id). sent_to flows p from t stamp body) is

pub client_stands : (flows : Flows) (count : ℕ) (p : Partition) (name : List ℕ) (from to : Id) (stamp : ℕ) (body : Body) → to ≡ client name → reached flows count p from to stamp body ≡ client_received p to body
client_stands flows count p name from to stamp body is =
    ap (λ (t : Id). reached flows count p from t stamp body) is ∙ sym (ap (λ (t : Id). client_received p t body) is)
