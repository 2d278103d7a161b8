-- What was asked for, behind items and entries.
use Rattle.std.proofs.Common.{◌≡◌, ◌≤◌, ◌<◌, ◌⊎◌, inl, inr, ℕ, List, [], ◌∷◌, Option, Some, None, Ok, refl, subst, arith}
use Rattle.std.specs.Prelude.{IsSome}
use Rattle.std.proofs.lemmas.Bool.{cases_lt}
use Rattle.dura_model.proofs.Appending.{both_placed}
use Rattle.dura_model.specs.Entries.{all_accepted, entry_accepted, placed}
use Rattle.dura_model.specs.Partition.{Partition, enter, accepted, fresh}
use Rattle.dura_value.proofs.Basics.{both_some, some_same}
use Rattle.dura_value.specs.Ids.{Id}
use Rattle.dura_value.specs.Items.{Item, Entry, took, got, ran, ended, fired, trim}
use Rattle.flow_syntax.specs.Syntax.{Flows}
use Rattle.task_laws.proofs.Moves.{Moves, moves_not, moves_same, moves_then, accepted_moves}
use Rattle.task_laws.specs.Asked.{tasks_at, WasAsked, AreAsked}

-- something is there, or nothing
pub there_or : {X : Type 0} (o : Option X) → IsSome o ⊎ (o ≡ None)
there_or None = inr refl
there_or (Some x) = inl refl

not_both : {X : Type 0} (o : Option X) → IsSome o → o ≡ None → ⊥
not_both None some none = cc some
not_both (Some x) some none = cc none

-- ---- what moves

module _ (flows : Flows) (p q : Partition) (moves : Moves flows p q) where
  -- what is pending under the number of a task that was there was pending
  pub pending_still : (id : Id) (task : ℕ) → task < tasks_at flows p id → IsSome (q.activities id task) → IsSome (p.activities id task)
  pending_still id task below some = elim (there_or (p.activities id task)) [
    | inl there ↦ there
    | inr none ↦ absurd (not_both (q.activities id task) some (moves.still id task (inl below) none))
  ]

  asked_still : AreAsked flows p → AreAsked flows q
  asked_still asked id task some = elim (cases_lt task (tasks_at flows q id)) [
    | inl below ↦ below
    | inr above ↦ elim (there_or (p.activities id task)) [
      | inl there ↦ let low = asked id task there in let grows = moves.more id in omega (arith, low, grows)
      | inr none ↦ absurd (not_both (q.activities id task) some (moves.still id task (inr above) none))
    ]
  ]

  was_asked_by : (item : Item) → WasAsked flows p item → WasAsked flows q item
  was_asked_by (took message) was = was
  was_asked_by (got source number message) was = was
  was_asked_by (ran from to stamp) was = was
  was_asked_by (ended id task outcome) was = let grows = moves.more id in omega (arith, was, grows)
  was_asked_by (fired id task stamp) was = was
  was_asked_by (trim reader number) was = was

-- ---- entries

module _ (flows : Flows) (count : ℕ) where
  items_move : (items : List Item) (p q : Partition) → all_accepted flows count p items ≡ Some q → Moves flows p q
  items_move [] p q is = subst (Moves flows p) (some_same is) (moves_not flows p)
  items_move (item ∷ items) p q is =
      let first = both_some (accepted flows count p item) (λ next. all_accepted flows count next items) q is in
      moves_then flows p first.0 q (accepted_moves flows count p item first.0 first.1) (items_move items first.0 q first.2)

  pub entry_moves : (entry : Entry) (p q : Partition) → entry_accepted flows count p entry ≡ Some q → Moves flows p q
  entry_moves entry p q is = let begun = enter entry.incarnation p in moves_then flows p begun q (moves_same flows p begun refl refl) (items_move entry.items begun q is)

  pub placed_moves : (entries : List Entry) (p q : Partition) → placed flows count p entries ≡ Ok q → Moves flows p q
  placed_moves [] p q is = let same : p ≡ q = cc is in subst (Moves flows p) same (moves_not flows p)
  placed_moves (entry ∷ entries) p q is =
      let first = both_placed entry.position (entry_accepted flows count p entry) (λ next. placed flows count next entries) q is in
      moves_then flows p first.0 q (entry_moves entry p first.0 first.1) (placed_moves entries first.0 q first.2)

-- ---- the laws

pub accepted_more : (flows : Flows) (count : ℕ) (p q : Partition) (item : Item) (id : Id) → accepted flows count p item ≡ Some q → tasks_at flows p id ≤ tasks_at flows q id
accepted_more flows count p q item id is = (accepted_moves flows count p item q is).more id

pub placed_more : (flows : Flows) (count : ℕ) (p q : Partition) (entries : List Entry) (id : Id) → placed flows count p entries ≡ Ok q → tasks_at flows p id ≤ tasks_at flows q id
placed_more flows count p q entries id is = (placed_moves flows count entries p q is).more id

pub accepted_pending : (flows : Flows) (count : ℕ) (p q : Partition) (item : Item) (id : Id) (task : ℕ) → accepted flows count p item ≡ Some q → task < tasks_at flows p id → IsSome (q.activities id task) → IsSome (p.activities id task)
accepted_pending flows count p q item id task is = pending_still flows p q (accepted_moves flows count p item q is) id task

pub placed_pending : (flows : Flows) (count : ℕ) (p q : Partition) (entries : List Entry) (id : Id) (task : ℕ) → placed flows count p entries ≡ Ok q → task < tasks_at flows p id → IsSome (q.activities id task) → IsSome (p.activities id task)
placed_pending flows count p q entries id task is = pending_still flows p q (placed_moves flows count entries p q is) id task

pub fresh_asked : (flows : Flows) (number : ℕ) → AreAsked flows (fresh number)
fresh_asked flows number id task some = absurd (cc some)

pub accepted_asked : (flows : Flows) (count : ℕ) (p q : Partition) (item : Item) → AreAsked flows p → accepted flows count p item ≡ Some q → AreAsked flows q
accepted_asked flows count p q item asked is = asked_still flows p q (accepted_moves flows count p item q is) asked

pub placed_asked : (flows : Flows) (count : ℕ) (p q : Partition) (entries : List Entry) → AreAsked flows p → placed flows count p entries ≡ Ok q → AreAsked flows q
placed_asked flows count p q entries asked is = asked_still flows p q (placed_moves flows count entries p q is) asked

-- an outcome of what was asked for is so behind entries
pub was_asked_still : (flows : Flows) (count : ℕ) (p q : Partition) (entries : List Entry) (item : Item) → placed flows count p entries ≡ Ok q → WasAsked flows p item → WasAsked flows q item
was_asked_still flows count p q entries item is = was_asked_by flows p q (placed_moves flows count entries p q is) item
