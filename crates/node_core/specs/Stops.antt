-- Which nodes have stopped.
use Rattle.std.specs.Prelude.{ℕ, Bool, ◌==◌, ◌&&◌, nat_le, List}
use Rattle.std.specs.List.{list_any}
use Rattle.move_plan.specs.declared.entries.Stop.{Stop}

-- by so many turns of the store, as a plan has it
abbrev pub has_stopped : List Stop → (node turns : ℕ) → Bool
has_stopped stops node turns = list_any (λ stop. (stop.node == node) && nat_le stop.turn turns) stops
