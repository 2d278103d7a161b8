-- Worlds, entries and floors that were made by hand.
use Rattle.std.specs.Prelude.{◌≡◌, ℕ, List, [], ◌∷◌, codes, Option, Some, None}
use Rattle.dura_value.specs.declared.data.Value.TheVariants as values
use Rattle.dura_value.specs.Ids.{Id, orchestration, entity, client}
use Rattle.dura_value.specs.Items.{Identity, Item, took, got, ran, trim, Floor}
use Rattle.dura_value.specs.Messages.{Spot, at_spot, wait, lock, release, Message}
use Rattle.flow_syntax.specs.Machine.{Machine, Section, outside, acquiring, inside, running, new_machine, spot_of}
use Rattle.flow_syntax.specs.Entity.{Entity}
use Rattle.dura_model.specs.World.{World, Orchestration, empty, at_link}
use Rattle.dura_value.specs.ById.{at_id}
use Rattle.dura_value.specs.Dependencies.{Committed}

-- ---- sections

abbrev pub one : Id
one = orchestration (codes "F") (codes "one")

abbrev pub other : Id
other = orchestration (codes "F") (codes "other")

abbrev pub k : Spot
k = spot_of (codes "C") (codes "k")

abbrev pub m : Spot
m = spot_of (codes "C") (codes "m")

abbrev pub in_section : Id → Section → Orchestration
in_section id section = record { machine = record (new_machine id None) { section = section; progress = running }; waiting = [] }

-- a world of two instances with these sections
abbrev pub two_in : Section → Section → World
two_in first second = record empty { orchestrations = at_id (at_id empty.orchestrations one (Some (in_section one first))) other (Some (in_section other second)) }

-- both are inside of sections with C/k
abbrev pub overlapping : World
overlapping = two_in (inside (k ∷ m ∷ [])) (inside (k ∷ []))

-- one waits for C/k, which the other holds
abbrev pub waiting_world : World
waiting_world = record (two_in (acquiring 0 (k ∷ [])) (inside (k ∷ []))) {
  entities = at_id empty.entities (at_spot k) (Some (record { value = values.Null; holder = Some other; last = 0 }));
  links = at_link empty.links one (at_spot k) (record { from = one; to = at_spot k; body = lock one 0 (k ∷ []) 0 } ∷ []);
}

-- ---- entries

abbrev pub entry : (partition incarnation position : ℕ) → Identity
entry partition incarnation position = record { partition = partition; incarnation = incarnation; position = position }

abbrev pub message : Message
message = record { from = client (codes "a"); to = one; body = wait 1 }

abbrev pub committed : Identity → List Item → Committed
committed name items = record { name = name; items = items }
