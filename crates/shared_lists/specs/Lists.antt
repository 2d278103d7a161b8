-- What a list holds, as chunks of items.
use Rattle.std.specs.Prelude.{List, [], ◌∷◌, ◌++◌, map, Option, Some, None}
use Rattle.std.specs.Arc.{arc_value}
use Rattle.std.specs.Borrow.{Bor}
use Rattle.std.specs.declared.alloc.Global.{Global}
use Rattle.std.specs.declared.sync.Arc.{Arc}
use Rattle.shared_lists.specs.declared.list.Chunk.{Chunk}

-- the items that are shared
abbrev pub shared_items : {X : Type 0} → List (Arc X Global) → List X
shared_items = map arc_value

-- the items that are lent
abbrev pub lent_items : {X : Type 0} → List (Bor X) → List X
lent_items = map (λ item. item.now)

-- the items of a chunk, and those before
abbrev pub chunk_items : {X : Type 0} → Chunk X → List X
chunk_items chunk = chunk.before ++ arc_value chunk.first ∷ shared_items chunk.more.items

-- the items of what may be a chunk
abbrev pub items_of : {X : Type 0} → Option (Arc (Chunk X) Global) → List X
items_of None = []
items_of (Some arc) = chunk_items arc.value
