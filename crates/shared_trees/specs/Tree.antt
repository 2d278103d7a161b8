-- What a tree is seen as: entries in the order of their places.
use Rattle.std.specs.Prelude.{List, [], ◌∷◌, ◌++◌, Option, None, Some, option_map}
use Rattle.std.specs.Arc.{arc_value}
use Rattle.std.specs.declared.alloc.Global.{Global}
use Rattle.std.specs.declared.sync.Arc.{Arc}
use Rattle.shared_trees.specs.Places.{Place, place_of}
use Rattle.shared_trees.specs.declared.tree.Fork.{Fork}

-- the value that is shared
abbrev pub kept_value : {X : Type 0} → Option (Arc X Global) → Option X
kept_value = option_map arc_value

-- the entries of a fork, in order
abbrev pub fork_entries : {X : Type 0} → Fork X → List (Place × Option X)
fork_entries fork = fork.left ++ (place_of fork.key, kept_value fork.value) ∷ fork.right

-- the entries of what may be a fork
abbrev pub entries : {X : Type 0} → Option (Arc (Fork X) Global) → List (Place × Option X)
entries None = []
entries (Some arc) = fork_entries arc.value
