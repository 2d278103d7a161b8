use Rattle.std.proofs.Common.{◌≡◌, ℕ, ◌<◌, false, get_or}
use Rattle.dura_value.specs.Views.{floor_of}
use Rattle.spec_tracker.specs.Marks.{identity_of, gives_up}
use Rattle.dura_value.specs.declared.identity.Floor.{Floor}
use Rattle.spec_tracker.proofs.marks.Marks.is_lost.Given as goal

-- none of those before this one gave it up
abbrev pub invariant-loop-floor : goal.invariant-loop-floor
invariant-loop-floor l = (k : ℕ) (d : Floor) → k < l.floor-index → gives_up (floor_of (get_or l.self.floors.items k d)) (identity_of l.dep) ≡ false
