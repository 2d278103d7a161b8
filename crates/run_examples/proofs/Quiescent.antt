-- Where nobody asks nothing is due.
use Rattle.std.proofs.Common.{◌≡◌, List, [], ◌∷◌, ◌++◌}
use Rattle.dura_value.specs.Messages.{Message}

pub nobody_asks : (before : List Message) (r : Message) (behind : List Message) → [] ≡ before ++ r ∷ behind → ⊥
nobody_asks [] r behind is = cc is
nobody_asks (first ∷ before) r behind is = cc is
