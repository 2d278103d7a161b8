-- Outcomes of what was asked for are of what is pending.
use Rattle.std.proofs.Common.{◌≡◌, inl, inr, ℕ, List, [], ◌∷◌, Some, Ok, refl}
use Rattle.std.specs.List.{All}
use Rattle.std.proofs.lemmas.List.Elements.{All-nil, All-cons, All-head, All-tail}
use Rattle.dura_model.proofs.Appending.{both_placed}
use Rattle.dura_model.specs.Entries.{all_accepted, entry_accepted, placed}
use Rattle.dura_model.specs.Partition.{Partition, enter, accepted, instance_at}
use Rattle.dura_value.proofs.Basics.{both_some}
use Rattle.dura_value.specs.Items.{Item, Entry, took, got, ran, ended, fired, trim}
use Rattle.flow_syntax.specs.Syntax.{Flows}
use Rattle.run_rules.specs.Rules.{EndsPending, EndPending}
use Rattle.task_laws.proofs.Behind.{there_or, pending_still, entry_moves}
use Rattle.task_laws.proofs.Moves.{Moves, moves_not, moves_same, moves_then, accepted_moves, ended_pending}
use Rattle.task_laws.specs.Asked.{WasAsked}

-- items that are accepted behind a state end only what is pending there, where it was asked for
module _ (flows : Flows) (count : ℕ) (p : Partition) where
  ends_pending : (item : Item) (r next : Partition) → Moves flows p r → accepted flows count r item ≡ Some next → WasAsked flows p item → EndsPending p item
  ends_pending (took message) r next moves is was = tt
  ends_pending (got source number message) r next moves is was = tt
  ends_pending (ran from to stamp) r next moves is was = tt
  ends_pending (fired id task stamp) r next moves is was = tt
  ends_pending (trim reader number) r next moves is was = tt
  ends_pending (ended id task outcome) r next moves is was = elim (there_or (r.activities id task)) [
    | inl there ↦ pending_still flows p r moves id task was there
    | inr none ↦ absurd (ended_pending flows count r id task outcome (instance_at flows r id) (r.activities id task) next is none)
  ]

  all_end : (items : List Item) (r next : Partition) → Moves flows p r → all_accepted flows count r items ≡ Some next → All (WasAsked flows p) items → All (EndsPending p) items
  all_end [] r next moves is was = All-nil (EndsPending p)
  all_end (item ∷ items) r next moves is was =
      let first = both_some (accepted flows count r item) (λ q. all_accepted flows count q items) next is in
      All-cons (EndsPending p) item items (ends_pending item r first.0 moves first.1 (All-head (WasAsked flows p) item items was))
      (all_end items first.0 next (moves_then flows p r first.0 moves (accepted_moves flows count r item first.0 first.1)) first.2 (All-tail (WasAsked flows p) item items was))

  abbrev Were : Entry → Type 0
  Were entry = All (WasAsked flows p) entry.items

  abbrev End : Entry → Type 0
  End entry = All (EndsPending p) entry.items

  entries_end : (entries : List Entry) (r next : Partition) → Moves flows p r → placed flows count r entries ≡ Ok next → All Were entries → EndPending p entries
  entries_end [] r next moves is were = All-nil End
  entries_end (entry ∷ entries) r next moves is were =
      let first = both_placed entry.position (entry_accepted flows count r entry) (λ q. placed flows count q entries) next is in
      let begun = enter entry.incarnation r in
      All-cons End entry entries (all_end entry.items begun first.0 (moves_then flows p r begun moves (moves_same flows r begun refl refl)) first.1 (All-head Were entry entries were))
      (entries_end entries first.0 next (moves_then flows p r first.0 moves (entry_moves flows count entry r first.0 first.1)) first.2 (All-tail Were entry entries were))

pub asked_pending : (flows : Flows) (count : ℕ) (p q : Partition) (entries : List Entry) → placed flows count p entries ≡ Ok q → All (λ entry. All (WasAsked flows p) entry.items) entries → EndPending p entries
asked_pending flows count p q entries is were = entries_end flows count p entries p q (moves_not flows p) is were
