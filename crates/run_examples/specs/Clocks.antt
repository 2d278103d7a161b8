-- What is settled of one partition, to look at by a clock.
use Rattle.std.specs.Prelude.{ℕ, List, [], ◌∷◌, replicate}
use Rattle.dura_value.specs.Ids.{Id}
use Rattle.dura_value.specs.Items.{ran}
use Rattle.hub_store.specs.Trail.{Settled}
use Rattle.many_rules.specs.Rules.{Rules}
use Rattle.run_examples.specs.Calls.{rules_for}

-- an entry that delivers a message at this stamp
abbrev pub delivery : (from to : Id) → (stamp : ℕ) → Settled
delivery from to stamp = record { partition = 0; entry = record { position = 0; incarnation = 0; items = ran from to stamp ∷ [] }; at = 0 }

abbrev pub delivered : (from to : Id) → (stamp : ℕ) → List Settled
delivered from to stamp = delivery from to stamp ∷ []

-- so many of them
abbrev pub delivered_often : (times : ℕ) → (from to : Id) → List Settled
delivered_often times from to = replicate times (delivery from to 0)

-- rules of a call of one partition whose entries have one item each
abbrev pub one_at_a_time : Rules
one_at_a_time = record (rules_for []) { most = 1 }
