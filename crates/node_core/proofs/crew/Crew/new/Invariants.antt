use Rattle.std.specs.Prelude.{◌≡◌}
use Rattle.node_core.specs.Crews.{first_owners}
use Rattle.node_core.proofs.crew.Crew.new.Given as goal

-- the partitions so far have their nodes
abbrev pub invariant-parts : goal.invariant-parts
invariant-parts l = l.owners.items ≡ first_owners l.part l.fn.nodes
