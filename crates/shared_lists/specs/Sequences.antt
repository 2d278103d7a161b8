-- What a sequence holds, as forks of items.
use Rattle.std.specs.Prelude.{List, [], ◌∷◌, ◌++◌, Option, Some, None}
use Rattle.std.specs.Arc.{arc_value}
use Rattle.std.specs.declared.alloc.Global.{Global}
use Rattle.std.specs.declared.sync.Arc.{Arc}
use Rattle.shared_lists.specs.declared.sequence.Fork.{Fork}

-- the items of a fork, in order
abbrev pub fork_items : {X : Type 0} → Fork X → List X
fork_items fork = fork.left ++ arc_value fork.item ∷ fork.right

-- the items of what may be a fork
abbrev pub sequence_items : {X : Type 0} → Option (Arc (Fork X) Global) → List X
sequence_items None = []
sequence_items (Some arc) = fork_items arc.value
