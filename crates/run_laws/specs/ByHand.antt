-- Worlds in which the laws fail, made by hand.
use Rattle.std.specs.Prelude.{[], ◌∷◌, codes, Some, None}
use Rattle.dura_value.specs.declared.data.Value.TheVariants as values
use Rattle.dura_value.specs.Ids.{Id, orchestration}
use Rattle.dura_value.specs.Messages.{Spot, at_spot, lock, Message}
use Rattle.flow_syntax.specs.Machine.{Section, inside, running, new_machine, spot_of}
use Rattle.flow_syntax.specs.Entity.{Entity}
use Rattle.dura_model.specs.World.{World, Orchestration, empty, at_link}
use Rattle.dura_value.specs.ById.{at_id}

abbrev pub one : Id
one = orchestration (codes "F") (codes "one")

abbrev pub other : Id
other = orchestration (codes "F") (codes "other")

abbrev pub k : Spot
k = spot_of (codes "C") (codes "k")

abbrev pub m : Spot
m = spot_of (codes "C") (codes "m")

abbrev pub in_section : Id → Section → Orchestration
in_section id section = record { machine = record (new_machine id None) { section = section; progress = running }; waiting = [] }

abbrev pub held_by : Id → Entity
held_by id = record { value = values.Null; holder = Some id; last = 0 }

abbrev pub lock_of : Id → Spot → Message
lock_of id spot = record { from = id; to = at_spot spot; body = lock id 0 (spot ∷ []) 0 }

-- both are inside of a section with C/k
abbrev pub overlapping : World
overlapping = record empty { orchestrations = at_id (at_id empty.orchestrations one (Some (in_section one (inside (k ∷ []))))) other (Some (in_section other (inside (k ∷ [])))) }

-- one waits for C/k while it holds C/m, which comes after it
abbrev pub disordered : World
disordered = record empty {
  entities = at_id empty.entities (at_spot m) (Some (held_by one));
  links = at_link empty.links one (at_spot k) (lock_of one k ∷ []);
}

-- each waits for what the other holds
abbrev pub circling : World
circling = record empty {
  entities = at_id (at_id empty.entities (at_spot k) (Some (held_by one))) (at_spot m) (Some (held_by other));
  links = at_link (at_link empty.links one (at_spot m) (lock_of one m ∷ [])) other (at_spot k) (lock_of other k ∷ []);
}

-- an entity's holder isn't there any more
abbrev pub left_behind : World
left_behind = record empty { entities = at_id empty.entities (at_spot k) (Some (held_by one)) }
