-- What a partition's streams have sent and have taken in stays.
use Rattle.std.proofs.Common.{◌≡◌, ◌⊎◌, inl, inr, ◌≤◌, ◌<◌, ◌||◌, ℕ, Bool, true, false, List, [], ◌∷◌, Option, Some, None, Ok, refl, sym, ap, subst, ◌∙◌, arith}
use Rattle.std.specs.Prelude.{nat_lt}
use Rattle.std.proofs.lemmas.Bool.{ltb-true, lt-ltb, and_parts}
use Rattle.dura_value.specs.Items.{Identity, Item, Entry, Posted}
use Rattle.dura_value.specs.Messages.{Message}
use Rattle.flow_syntax.specs.Syntax.{Flows}
use Rattle.dura_model.specs.Partition.{Inbox, Partition, entry_of, enter, accepted}
use Rattle.log_items.specs.Streams.{Outbox}
use Rattle.dura_model.specs.Entries as alone
use Rattle.dura_model.specs.Entries.{entry_accepted, or_place}
use Rattle.dura_model.proofs.Appending.{both_placed}
use Rattle.dura_value.specs.Same.{identity_eq, message_eq}
use Rattle.many_logs.specs.Placing.{message_at, is_of, stands_at, has_sent}
use Rattle.dura_value.proofs.Same.{identity_same}
use Rattle.many_logs.proofs.Moving.{Extends, Moves, item_moves, entry_moves}

-- ---- one stream

-- what one stream has sent, another has
abbrev pub HasStill : Outbox → Outbox → Type 0
HasStill a b = (source : Identity) (number : ℕ) (message : Message) → has_sent a source number message ≡ true → has_sent b source number message ≡ true

-- what an entry before this position sent stood in the stream before, where it stands there now
abbrev pub StoodBefore : (least : ℕ) → Outbox → Outbox → Type 0
StoodBefore least a b = (source : Identity) (number : ℕ) (message : Message) → source.position < least → stands_at b source number message ≡ true → stands_at a source number message ≡ true

or_first : (a b : Bool) → a ≡ true → a || b ≡ true
or_first true b is = refl
or_first false b is = absurd (cc is)

or_second : (a b : Bool) → b ≡ true → a || b ≡ true
or_second true b is = refl
or_second false b is = is

extends_has : (entry : Identity) (a b : Outbox) → Extends entry a b → HasStill a b
extends_has entry a b extends source number message is = early (nat_lt number a.first) refl is
  where
    kept : (there : Option Posted) → message_at a number ≡ there → is_of source message there ≡ true → has_sent b source number message ≡ true
    kept None at of_it = absurd (cc of_it)
    kept (Some posted) at of_it = by (extends.kept number posted at)
      where
        by : (number < b.first) ⊎ (message_at b number ≡ Some posted) → has_sent b source number message ≡ true
        by (inl low) = or_first (nat_lt number b.first) (stands_at b source number message) (lt-ltb number b.first low)
        by (inr there) = or_second (nat_lt number b.first) (stands_at b source number message) (ap (is_of source message) there ∙ of_it)

    early : (test : Bool) → nat_lt number a.first ≡ test → (test || stands_at a source number message) ≡ true → has_sent b source number message ≡ true
    early true low has = let first : number < a.first = ltb-true number a.first low in let later = extends.first in or_first (nat_lt number b.first) (stands_at b source number message) (lt-ltb number b.first (omega (arith, first, later)))
    early false low has = kept (message_at a number) refl has

extends_stood : (least : ℕ) (entry : Identity) (a b : Outbox) → least ≤ entry.position → Extends entry a b → StoodBefore least a b
extends_stood least entry a b late extends source number message before is = by (message_at b number) refl is
  where
    by : (there : Option Posted) → message_at b number ≡ there → is_of source message there ≡ true → stands_at a source number message ≡ true
    by None at of_it = absurd (cc of_it)
    by (Some posted) at of_it = split (extends.old number posted at)
      where
        split : (message_at a number ≡ Some posted) ⊎ (posted.entry ≡ entry) → stands_at a source number message ≡ true
        split (inl old) = ap (is_of source message) old ∙ of_it
        split (inr its) =
            let same = identity_same posted.entry source (and_parts (identity_eq posted.entry source) (message_eq posted.message message) of_it).0 in
            let at_entry = ap (λ (e : Identity). e.position) (sym same ∙ its) in
            absurd (omega (arith, at_entry, before, late))

-- ---- one state after another

-- What the streams of a state have sent, the next one's have, and it has taken in as much or more. It is of the same partition.
pub record Grows (p next : Partition) : Type 0 where
  pub number : next.number ≡ p.number
  pub sent : (target : ℕ) → HasStill (p.outboxes target) (next.outboxes target)
  pub read : (source : ℕ) → (p.inboxes source).next ≤ (next.inboxes source).next

pub grows_then : (a b c : Partition) → Grows a b → Grows b c → Grows a c
grows_then a b c one two = record {
  number = two.number ∙ one.number;
  sent = λ target source number message is. two.sent target source number message (one.sent target source number message is);
  read = λ source. omega (arith, one.read source, two.read source);
}

pub same_grows : (p next : Partition) → next.number ≡ p.number → p.outboxes ≡ next.outboxes → p.inboxes ≡ next.inboxes → Grows p next
same_grows p next number out in_there = record {
  number = number;
  sent = λ target source number message is. subst (λ (f : ℕ → Outbox). has_sent (f target) source number message ≡ true) out is;
  read = λ source. let is = ap (λ (f : ℕ → Inbox). (f source).next) in_there in omega (arith, is);
}

moves_grow : (p next : Partition) → Moves p next → Grows p next
moves_grow p next moves = record {
  number = moves.number;
  sent = λ target. extends_has (entry_of p) (p.outboxes target) (next.outboxes target) (moves.sent target);
  read = λ source. (moves.read source).further;
}

module _ (flows : Flows) (count : ℕ) where
  pub item_grows : (item : Item) (p next : Partition) → accepted flows count p item ≡ Some next → Grows p next
  item_grows item p next is = moves_grow p next (item_moves flows count item p next is)

  pub entry_grows : (entry : Entry) (p next : Partition) → entry_accepted flows count p entry ≡ Some next → Grows p next
  entry_grows entry p next is =
      let entered = enter entry.incarnation p in
      grows_then p entered next (same_grows p entered refl refl refl) (moves_grow entered next (entry_moves flows count entry p next is))

  -- Entries from this position on leave what those before sent and took in.
  pub record LeftBy (least : ℕ) (p next : Partition) : Type 0 where
    pub sent : (target : ℕ) → StoodBefore least (p.outboxes target) (next.outboxes target)
    pub read : (source : ℕ) → (next.inboxes source).reader.position < least → next.inboxes source ≡ p.inboxes source

  pub chain_leaves : (least : ℕ) (entries : List Entry) (p next : Partition) → least ≤ p.position → alone.placed flows count p entries ≡ Ok next → LeftBy least p next
  chain_leaves least [] p next late is = let same : p ≡ next = cc is in subst (LeftBy least p) same (record { sent = λ target source number message early has. has; read = λ source early. refl })
  chain_leaves least (entry ∷ entries) p next late is =
      let first = both_placed entry.position (entry_accepted flows count p entry) (λ q. alone.placed flows count q entries) next is in
      let middle = first.0 in
      let entered = enter entry.incarnation p in
      let one = entry_moves flows count entry p middle first.1 in
      let at : least ≤ (entry_of entered).position = omega (arith, late) in
      let two = chain_leaves least entries middle next (omega (arith, late, one.position)) first.2 in
      record {
        sent = λ target source number message early has. extends_stood least (entry_of entered) (p.outboxes target) (middle.outboxes target) at (one.sent target) source number message early (two.sent target source number message early has);
        read = λ source early. let same = two.read source early in same ∙ reads middle source late (subst (λ (box : Inbox). box.reader.position < least) same early) (one.read source).old;
      }
    where
      reads : (middle : Partition) (source : ℕ) → least ≤ p.position → (middle.inboxes source).reader.position < least → (middle.inboxes source ≡ p.inboxes source) ⊎ ((middle.inboxes source).reader ≡ entry_of (enter entry.incarnation p)) → middle.inboxes source ≡ p.inboxes source
      reads middle source at early (inl same) = same
      reads middle source at early (inr its) = let is_at = ap (λ (e : Identity). e.position) its in absurd (omega (arith, is_at, early, at))
