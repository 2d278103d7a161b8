-- States of one partition to look at.
use Rattle.std.specs.Prelude.{ℕ, [], codes, None, Some}
use Rattle.dura_value.specs.declared.data.Value.TheVariants as values
use Rattle.dura_value.specs.Ids.{Id, orchestration, entity, client}
use Rattle.dura_value.specs.Messages.{query, Message}
use Rattle.flow_syntax.specs.Syntax.{Flows}
use Rattle.dura_value.specs.ById.{at_id, at_number}
use Rattle.dura_model.specs.Partition.{Partition, fresh, post}

abbrev pub asker : Id
asker = client (codes "a")

abbrev pub sum : Id
sum = orchestration (codes "Sum") (codes "x")

abbrev pub account : Id
account = entity (codes "Account") (codes "A")

-- a client asks how something stands
abbrev pub question : Id → Message
question to = record { from = asker; to = to; body = query 1 }

-- an entry has begun, and nothing happened in it
abbrev pub begun : Partition
begun = record (fresh 0) { position = 1 }

-- a question is on its way to an instance that isn't there
abbrev pub asked : Partition
asked = post 1 begun (question sum)

-- a question is on its way to an entity that an instance holds
abbrev pub held : Partition
held = record (post 1 begun (question account)) { entities = at_id (λ id. None) account (Some (record { value = values.Null; holder = Some sum; last = 0 })) }

-- an activity is pending of an instance that isn't there
abbrev pub orphaned : Partition
orphaned = record begun { activities = at_number (λ id task. None) sum 0 (Some (record { name = codes "add"; argument = values.Null })) }

-- a timer is pending of an instance that isn't there
abbrev pub ticking : Partition
ticking = record begun { timers = at_number (λ id task. None) sum 0 (Some 5) }

-- an entity was delivered to at a later stamp than the partition has come to
abbrev pub ahead : Partition
ahead = record begun { entities = at_id (λ id. None) account (Some (record { value = values.Null; holder = None; last = 7 })) }

-- an instance is there to which nothing came
abbrev pub waiting : Partition
waiting = record begun { instances = at_id (λ id. None) sum (Some (record { stamp = 0; history = []; waiting = [] })) }

-- it has come to this stamp
abbrev pub come_to : ℕ → Partition
come_to stamp = record begun { stamp = stamp }

-- no flow is there
abbrev pub no_flows : Flows
no_flows = record { flows = []; classes = [] }
