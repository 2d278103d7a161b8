-- What each fact about a moment keeps out, by example.
use Rattle.std.specs.Prelude.{◌≡◌, ℕ, List, [], ◌∷◌, ◌++◌}
use Rattle.site_model.specs.History.{Change, Step, said, synced, wrote}
use Rattle.dura_value.specs.Items.{Entry}
use Rattle.part_items.specs.Examples.{empty_log, taking, taking_frame}
use Rattle.hub_store.specs.Trail.{Settled, Said}
use Rattle.hub_store.specs.Moments.{SaysNext, KeepsNext, WroteGate}
use Rattle.hub_store.specs.Examples.{MayFollow, MaySay, one_log}

-- a byte was said that no answer begins with
abbrev pub wrong_byte : List Step
wrong_byte = said 66 ∷ []

-- after these steps this is a front of what may be said next
abbrev pub IsNext : List Settled → List Step → List ℕ → Type 0
IsNext trail steps part = SaysNext MayFollow MaySay trail [] steps part

-- ---- frames

-- the frame by which a request is taken may follow where nothing is settled, or none may
abbrev pub TakingFollows : List Settled → List Said → ℕ → List Entry → Type 0
TakingFollows trail told partition going = going ≡ taking 0 ∷ []

abbrev pub NoneFollows : List Settled → List Said → ℕ → List Entry → Type 0
NoneFollows trail told partition going = ⊥

-- its bytes were written behind the closed gate and made safe, and then the gate was opened
abbrev pub body_written : List Change
body_written = synced ∷ wrote 34 43 (taking_frame ++ 0 ∷ []) ∷ synced ∷ wrote 0 34 empty_log ∷ []

abbrev pub frame_opened : List Change
frame_opened = wrote 33 1 (0xC3 ∷ []) ∷ body_written

-- such an image has one frame more, after these changes
abbrev pub HasNext : (List Settled → List Said → ℕ → List Entry → Type 0) → List Change → List ℕ → Type 0
HasNext Follows changes image = KeepsNext Follows MaySay (one_log.logs 0) 0 [] [] changes image

-- the gate behind these entries was written last
abbrev pub WroteBehind : List Entry → List Change → Type 0
WroteBehind = WroteGate (one_log.logs 0)

-- a closed gate was written last, where no gate stands
abbrev pub other_byte : List Change
other_byte = wrote 40 1 (0 ∷ []) ∷ body_written
