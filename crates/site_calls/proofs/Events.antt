-- One event more.
use Rattle.std.proofs.Common.{◌≡◌, List, ◌∷◌, subst, ap, ◌∙◌}
use Rattle.site_calls.specs.Events.{Event, Unseen, replay, IsHonest}
use Rattle.site_calls.specs.Runs.{StaysHonest, StandsStill, IsNoted}

pub honest_more : {event : Event} {old new : List Event} (unseen : Unseen) → new ≡ event ∷ old → IsHonest unseen new → IsHonest unseen old
honest_more unseen is honest = (subst (IsHonest unseen) is honest).0

-- a call that changed nothing
pub still_by : (event : Event) (old new : List Event) → ((unseen : Unseen) (before : List Event) → replay unseen (event ∷ before) ≡ replay unseen before) → IsNoted event old new → StandsStill old new
still_by event old new nothing noted unseen = ap (replay unseen) noted.newest ∙ nothing unseen noted.before ∙ noted.still unseen

pub still_still : (old mid new : List Event) → StandsStill old mid → StandsStill mid new → StandsStill old new
still_still old mid new first second unseen = second unseen ∙ first unseen

pub told_told : (old mid new : List Event) → StaysHonest old mid → StaysHonest mid new → StaysHonest old new
told_told old mid new first second unseen honest = first unseen (second unseen honest)
