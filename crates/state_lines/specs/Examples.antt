-- Tables, by example.
use Rattle.std.specs.Prelude.{ℕ, zero, suc, [], ◌∷◌, codes, Some, None, pos}
use Rattle.dura_model.specs.Partition.{Partition, Row, fresh, shown}
use Rattle.dura_model.specs.World.{World}
use Rattle.dura_value.specs.ById.{at_id}
use Rattle.dura_value.specs.Ids.{Id, entity, orchestration}
use Rattle.dura_value.specs.declared.data.Value.TheVariants as values
use Rattle.flow_syntax.specs.Entity.{Entity}
use Rattle.flow_syntax.specs.Syntax.{Flows}

abbrev pub account : Id
account = entity (codes "Account") (codes "A")

abbrev pub sum : Id
sum = orchestration (codes "Sum") (codes "x")

-- an entity of value 90 that nobody holds
abbrev pub ninety : Entity
ninety = record { value = values.Int (pos 90); holder = None; last = 0 }

-- an instance that nothing has come to
abbrev pub begun : Row
begun = record { stamp = 0; history = []; waiting = [] }

-- its class, and no other
abbrev pub accounts : Flows
accounts = record { flows = []; classes = record { name = codes "Account"; it = record { init = values.Null; operations = [] } } ∷ [] }

abbrev pub no_flows : Flows
no_flows = record { flows = []; classes = [] }

-- a state with one entity
abbrev pub one_entity : Partition
one_entity = record (fresh 0) { entities = at_id (fresh 0).entities account (Some ninety) }

-- a state with an instance too
abbrev pub both_kinds : Partition
both_kinds = record one_entity { instances = at_id (fresh 0).instances sum (Some begun) }

-- ---- two partitions: accounts A and C live in the first, account B and the instance Sum/x in the second

abbrev pub account_b : Id
account_b = entity (codes "Account") (codes "B")

abbrev pub account_c : Id
account_c = entity (codes "Account") (codes "C")

-- two partitions in these states
abbrev pub both_of : Partition → Partition → ℕ → Partition
both_of first second zero = first
both_of first second (suc place) = second

-- the accounts A and C in the first, B in the second
abbrev pub two_and_one : World
two_and_one = shown accounts 2 (both_of (record one_entity { entities = at_id one_entity.entities account_c (Some ninety) }) (record (fresh 1) { entities = at_id (fresh 1).entities account_b (Some ninety) }))

-- the account A in the first, nothing in the second
abbrev pub one_and_none : World
one_and_none = shown accounts 2 (both_of one_entity (fresh 1))

-- the account C in the first, B and the instance in the second
abbrev pub later_first : World
later_first = shown accounts 2
    (both_of (record (fresh 0) { entities = at_id (fresh 0).entities account_c (Some ninety) })
    (record (fresh 1) { entities = at_id (fresh 1).entities account_b (Some ninety); instances = at_id (fresh 1).instances sum (Some begun) }))
