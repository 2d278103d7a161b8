-- What settling a frame puts behind a partition's entries.
use Rattle.std.proofs.Common.{◌≡◌, ℕ, List, [], ◌∷◌, ◌++◌, Option, Some, ◌∙◌, ap}
use Rattle.dura_value.specs.Items.{Entry}
use Rattle.hub_store.specs.Changes.{Settles}
use Rattle.hub_store.specs.Trail.{Settled, of_part, settling}
use Rattle.hub_store.proofs.Settling.{of_part-append, own_part}

-- the one entry of a frame
pub settled_one : (Tells : Type 0) (moment part : ℕ) (going : Option (List Entry)) (old before new : List Settled) (frame : List Entry) (entry : Entry)
    → Settles Tells moment part going before new → before ≡ old → going ≡ Some frame → frame ≡ entry ∷ [] → of_part part new ≡ of_part part old ++ entry ∷ []
settled_one Tells moment part going old before new frame entry settles same is one =
    let entries_is : settles.entries ≡ entry ∷ [] = cc (settles.frame, is, one) in
    ap (of_part part) settles.trail
    ∙ of_part-append part before (settling part settles.at settles.entries)
    ∙ ap (λ (l : List Entry). of_part part before ++ l) (own_part part settles.at settles.entries ∙ entries_is)
    ∙ ap (λ (t : List Settled). of_part part t ++ entry ∷ []) same
