-- Where no more is let go than was read by what is settled, what others have yet to take in stays in the stream.
use Rattle.std.proofs.Common.{◌≡◌, ◌⊎◌, inl, inr, ◌≤◌, ◌<◌, ◌+◌, ◌-◌, ◌==◌, ◌&&◌, ℕ, length, drop, Bool, true, false, cond, List, [], ◌∷◌, ◌++◌, Some, Ok, refl, sym, ap, subst, ◌∙◌, arith}
use Rattle.std.specs.Prelude.{nat_le, nat_lt, not}
use Rattle.std.proofs.lemmas.Bool.{eqb-true}
use Rattle.dura_value.specs.Ids.{home}
use Rattle.dura_value.specs.Items.{Identity, Item, took, got, ran, ended, fired, trim, Entry, Posted}
use Rattle.flow_syntax.specs.Syntax.{Flows}
use Rattle.dura_model.specs.Partition.{Partition, entry_of, enter, with_inbox, accepted}
use Rattle.log_items.specs.Streams.{Outbox, begins_at, with_first}
use Rattle.dura_model.specs.Placed.{Belongs}
use Rattle.dura_model.proofs.Basics.{passed}
use Rattle.dura_model.proofs.Belonging.{enter_belongs}
use Rattle.dura_model.proofs.Kept.{label_comes, item_belongs}
use Rattle.dura_model.specs.Entries as alone
use Rattle.dura_model.specs.Entries.{all_accepted, entry_accepted}
use Rattle.dura_model.proofs.Appending.{both_placed}
use Rattle.part_items.specs.Numbered.{Next, behind, IsNumbered}
use Rattle.many_logs.specs.Placing.{message_at}
use Rattle.many_logs.specs.Gates.{LetsGo, AllLetGo, FrameLetsGo}
use Rattle.many_logs.proofs.Moving.{item_moves, entry_moves}
use Rattle.dura_value.proofs.Basics.{both_some}
use Rattle.many_logs.specs.Labels.{state_next}

module _ (flows : Flows) (count partition target most : ℕ) (below : partition < count) where
  trim_first : (p next : Partition) (reader : Identity) (number : ℕ) → LetsGo target most (trim reader number) → (p.outboxes target).first ≤ most → accepted flows count p (trim reader number) ≡ Some next → (next.outboxes target).first ≤ most
  trim_first p next reader number lets low is =
      let after : Partition = record p { outboxes = with_first p.outboxes reader.partition number } in
      let it : after ≡ next = (passed (not (reader.partition == p.number) && (nat_lt reader.partition count && nat_le number ((p.outboxes reader.partition).first + length (p.outboxes reader.partition).messages))) after next is).1 in
      subst (λ (s : Partition). (s.outboxes target).first ≤ most) it (by (reader.partition == target) refl)
    where
      begun : (box : Outbox) → box.first ≤ most → number ≤ most → (test : Bool) → (cond test box (record { first = number; messages = drop (number - box.first) box.messages })).first ≤ most
      begun box less enough true = less
      begun box less enough false = enough

      by : (test : Bool) → (reader.partition == target) ≡ test → (cond test (begins_at number (p.outboxes target)) (p.outboxes target)).first ≤ most
      by true same = begun (p.outboxes target) low (lets (eqb-true reader.partition target same)) (nat_le number (p.outboxes target).first)
      by false apart = low

  item_first : (item : Item) (p next : Partition) → Belongs count partition p → 0 < p.position → LetsGo target most item → (p.outboxes target).first ≤ most → accepted flows count p item ≡ Some next → (next.outboxes target).first ≤ most
  item_first (took message) p next belongs begun lets low is = let same = (label_comes flows count partition (took message) p next refl below belongs begun is).first target in omega (arith, same, low)
  item_first (ran from to stamp) p next belongs begun lets low is = let same = (label_comes flows count partition (ran from to stamp) p next refl below belongs begun is).first target in omega (arith, same, low)
  item_first (ended id task outcome) p next belongs begun lets low is = let same = (label_comes flows count partition (ended id task outcome) p next refl below belongs begun is).first target in omega (arith, same, low)
  item_first (fired id task stamp) p next belongs begun lets low is = let same = (label_comes flows count partition (fired id task stamp) p next refl below belongs begun is).first target in omega (arith, same, low)
  item_first (got source number message) p next belongs begun lets low is =
      subst (λ (s : Partition). (s.outboxes target).first ≤ most)
      (passed (not (source.partition == p.number) && (nat_lt source.partition count && (number == (p.inboxes source.partition).next && home count message.to == p.number)))
      (record p { queue = p.queue ++ message ∷ []; inboxes = with_inbox p.inboxes source.partition (record { next = number + 1; reader = entry_of p }) }) next is).1 low
  item_first (trim reader number) p next belongs begun lets low is = trim_first p next reader number lets low is

  items_first : (items : List Item) (p next : Partition) → Belongs count partition p → 0 < p.position → AllLetGo target most items → (p.outboxes target).first ≤ most → all_accepted flows count p items ≡ Some next → ((next.outboxes target).first ≤ most) × Belongs count partition next
  items_first [] p next belongs begun lets low is = let same : p ≡ next = cc is in (subst (λ (s : Partition). (s.outboxes target).first ≤ most) same low, subst (Belongs count partition) same belongs)
  items_first (item ∷ items) p next belongs begun lets low is =
      let first = both_some (accepted flows count p item) (λ q. all_accepted flows count q items) next is in
      let moves = item_moves flows count item p first.0 first.1 in
      items_first items first.0 next (item_belongs flows count partition item p first.0 below belongs begun first.1) (omega (arith, begun, moves.position)) lets.1 (item_first item p first.0 belongs begun lets.0 low first.1) first.2

  pub stays_there : (entries : List Entry) (p next : Partition) → Belongs count partition p → IsNumbered (state_next p) entries → FrameLetsGo target most entries → (p.outboxes target).first ≤ most → alone.placed flows count p entries ≡ Ok next
      → (posted : Posted) → message_at (p.outboxes target) most ≡ Some posted → message_at (next.outboxes target) most ≡ Some posted
  stays_there [] p next belongs numbered lets low is posted at = let same : p ≡ next = cc is in subst (λ (s : Partition). message_at (s.outboxes target) most ≡ Some posted) same at
  stays_there (entry ∷ entries) p next belongs numbered lets low is posted at =
      let first = both_placed entry.position (entry_accepted flows count p entry) (λ q. alone.placed flows count q entries) next is in
      let middle = first.0 in
      let entered = enter entry.incarnation p in
      let moves = entry_moves flows count entry p middle first.1 in
      let inside = items_first entry.items entered middle (enter_belongs count partition p entry.incarnation belongs numbered.1) (omega arith) lets.0 low first.1 in
      let position : middle.position ≡ entry.position + 1 = moves.position ∙ ap (λ (n : ℕ). n + 1) (sym numbered.0) in
      let goes : state_next middle ≡ behind entry = λ i. record { position = position i; incarnation = moves.incarnation i } in
      stays_there entries middle next inside.1 (subst (λ (n : Next). IsNumbered n entries) (sym goes) numbered.2) lets.1 inside.0 first.2 posted (by middle inside.0 ((moves.sent target).kept most posted at))
    where
      by : (middle : Partition) → (middle.outboxes target).first ≤ most → (most < (middle.outboxes target).first) ⊎ (message_at (middle.outboxes target) most ≡ Some posted) → message_at (middle.outboxes target) most ≡ Some posted
      by middle less (inl early) = absurd (omega (arith, less, early))
      by middle less (inr there) = there
