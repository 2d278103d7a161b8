-- What follows from the definitions of events, and examples of them.
use Rattle.std.specs.Prelude.{◌≡◌, Bool, true, false, ℕ, ◌+◌, ◌-◌, ◌≤◌, List, [], ◌∷◌, ◌++◌, length, take, drop}
use Rattle.site_model.specs.History.{Step, on, synced, content_of}
use Rattle.site_model.specs.History as history
use Rattle.site_calls.specs.Events.{Event, Unseen, found, made, measured, got, begun, put, lost, flushed, named, absent, printed, failed, unprinted, replay, Agrees, IsHonest}

-- To each call that asks what the disk holds there is an answer that agrees, also in the midst of a read.
pub record HasHonestAnswers (steps : List Step) : Type 0 where
  pub to_find : (file : ℕ) → (is_there : Bool) × Agrees (found file is_there) steps
  pub to_measure : (file : ℕ) → (size : ℕ) × Agrees (measured file size) steps
  pub to_read_some : (file at want done : ℕ) → done ≤ want → done ≤ length (content_of file steps) - at
      → (count : ℕ) × (bytes : List ℕ) × (length bytes ≡ done + count) × (length bytes ≤ want) × Agrees (got file at want count bytes) steps

-- file 0 holds the bytes 7 and 8 at the start
abbrev pub HoldsTwoBytes : Unseen → Type 0
HoldsTwoBytes unseen = unseen.files 0 ≡ 7 ∷ 8 ∷ []

-- it is found and measured, a third byte is written behind the two, and it is measured and read to its end
abbrev pub honest_events : List Event
honest_events =
    got 0 1 4 0 (8 ∷ 9 ∷ []) ∷ got 0 1 4 2 (8 ∷ 9 ∷ []) ∷ measured 0 3 ∷ put (9 ∷ []) ∷ begun 0 2 1 ∷ measured 0 2 ∷ found 0 true ∷ []

-- a call of each kind that failed, four of them on files and names
abbrev pub failed_events : List Event
failed_events = unprinted ∷ named false ∷ flushed 0 false ∷ lost (7 ∷ []) ∷ failed 0 ∷ []

-- a call of each kind that didn't
abbrev pub answered_events : List Event
answered_events =
    printed [] ∷ absent 1 ∷ named true ∷ flushed 0 true ∷ put [] ∷ begun 0 0 1 ∷ got 0 0 1 0 [] ∷ measured 0 0 ∷ made 0 ∷ found 0 true ∷ found 0 false ∷ []

-- of these answers none is honest
pub record NoneIsHonest (unseen : Unseen) : Type 0 where
  pub a_wrong_length : IsHonest unseen (measured 0 3 ∷ []) → ⊥
  pub a_wrong_byte : IsHonest unseen (got 0 0 2 2 (7 ∷ 9 ∷ []) ∷ []) → ⊥
  pub an_early_end : IsHonest unseen (got 0 0 2 0 (7 ∷ []) ∷ []) → ⊥
  pub no_file : IsHonest unseen (found 0 false ∷ []) → ⊥
  -- the length from before a write, which was honest then
  pub an_old_length : IsHonest unseen (measured 0 2 ∷ put (9 ∷ []) ∷ begun 0 2 1 ∷ measured 0 2 ∷ []) → ⊥

-- When a sync that the system made counts: where every name is safe and no sync has failed.
pub record SyncCounts (file : ℕ) (unseen : Unseen) (events : List Event) : Type 0 where
  pub counts : (replay unseen events).loose ≡ false → (replay unseen events).broken ≡ false
      → (replay unseen (flushed file true ∷ events)).steps ≡ on file synced ∷ (replay unseen events).steps
  pub not_with_a_loose_name : (replay unseen events).loose ≡ true → (replay unseen (flushed file true ∷ events)).steps ≡ (replay unseen events).steps
  pub not_when_broken : (replay unseen events).broken ≡ true → (replay unseen (flushed file true ∷ events)).steps ≡ (replay unseen events).steps

-- the bytes of a write that failed behind these, with what it left
abbrev pub left_by : List ℕ → ℕ → List ℕ → List ℕ
left_by bytes size left = take size (bytes ++ drop (length bytes) left)

-- a write of this size that failed behind these bytes leaves what no answer tells
abbrev pub LeavesUnseen : Unseen → List Event → Type 0
LeavesUnseen unseen events = (file at size : ℕ) (bytes : List ℕ)
    → content_of file (replay unseen (lost bytes ∷ begun file at size ∷ events)).steps
    ≡ history.put at (left_by bytes size (unseen.left (length (begun file at size ∷ events)))) (content_of file (replay unseen events).steps)
