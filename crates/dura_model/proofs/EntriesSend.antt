-- Entries that a partition accepts one after another send to others, take in from them and let go as their items say.
use Rattle.std.proofs.Common.{◌≡◌, ◌<◌, ◌≤◌, ◌+◌, ◌-◌, ◌==◌, ◌&&◌, ℕ, Bool, true, false, cond, List, [], ◌∷◌, ◌++◌, length, Some, Ok, refl, sym, ap, subst, ◌∙◌, arith}
use Rattle.std.specs.Prelude.{nat_le, nat_lt, not, is_some}
use Rattle.std.specs.List.{All, Contains}
use Rattle.std.proofs.lemmas.Bool.{eqb-true, leb-true, ltb-true, and_parts, not-true}
use Rattle.std.proofs.lemmas.List.Elements.{All-nil, All-cons, All-head, All-append, All-weaker, Contains-append_right}
use Rattle.dura_value.specs.Ids.{home}
use Rattle.dura_value.specs.Items.{Identity, Item, Entry, took, got, ran, ended, fired, trim}
use Rattle.dura_value.specs.Messages.{Message}
use Rattle.flow_syntax.specs.Syntax.{Flows}
use Rattle.log_items.specs.Entries.{items_in, identity_at, identities_at, AreInTurn}
use Rattle.log_items.specs.Readings.{with_next, nexts_after, with_reader, readers_after, ReadOn, readers_behind}
use Rattle.log_items.specs.Streams.{Outbox, with_first, Sent, with_sent, boxes_after, LetGoInside}
use Rattle.log_items.proofs.Commutes.{end, ends_grow, sent_both, sent_commutes}
use Rattle.dura_model.specs.Partition.{Inbox, Partition, entry_of, enter, with_inbox, accepted, label_in}
use Rattle.dura_model.specs.Entries.{all_accepted, entry_accepted, placed}
use Rattle.dura_model.specs.Placed.{IsOther, IsSameEntry}
use Rattle.dura_model.specs.Sends.{nexts_in, readers_in, IsOfOthers, IsLocal, Sends}
use Rattle.dura_model.proofs.Appending.{both_placed}
use Rattle.dura_model.proofs.Basics.{passed, eqb_apart}
use Rattle.dura_model.proofs.Joining.{IsIn, IsOurs, Joins, goes_in, same_entry_then, label_joins}
use Rattle.dura_value.proofs.Basics.{some_same, both_some}

-- another partition, by the test of an item
other_by : (count partition number other : ℕ) (more : Bool) → number ≡ partition → (not (other == number) && (nat_lt other count && more)) ≡ true → IsOther count partition other × (more ≡ true)
other_by count partition number other more is test =
    let one = and_parts (not (other == number)) (nat_lt other count && more) test in
    let two = and_parts (nat_lt other count) more one.1 in
    (record { apart = λ wrong. eqb_apart other number (not-true (other == number) one.0) (wrong ∙ sym is); below = ltb-true other count two.0 }, two.1)

-- the parts of an inbox that is another one by a test
inbox_next : (box other : Inbox) (test : Bool) → (cond test box other).next ≡ cond test box.next other.next
inbox_next box other true = refl
inbox_next box other false = refl

inbox_reader : (box other : Inbox) (test : Bool) → (cond test box other).reader ≡ cond test box.reader other.reader
inbox_reader box other true = refl
inbox_reader box other false = refl

-- From a state on these items send, take in and let go, up to another state. `Of` says who may send; `behind` makes of who took in
-- the last messages before them who did behind them.
record Trades (count partition : ℕ) (Of : Sent → Type 0) (behind : (ℕ → Identity) → ℕ → Identity) (q : Partition) (items : List Item) (next : Partition) : Type 0 where
  sent : List Sent
  of : All Of sent
  boxes : next.outboxes ≡ boxes_after (with_sent q.outboxes sent) items
  let_go : LetGoInside (with_sent q.outboxes sent) items
  nexts : nexts_in next ≡ nexts_after (nexts_in q) items
  reads : ReadOn (nexts_in q) items
  readers : readers_in next ≡ behind (readers_in q)
  inside : All (IsOfOthers count partition) items

-- ---- what comes in, and what is let go

abbrev got_makes : Partition → Identity → ℕ → Message → Partition
got_makes q source number message = record q { queue = q.queue ++ message ∷ []; inboxes = with_inbox q.inboxes source.partition (record { next = number + 1; reader = entry_of q }) }

abbrev trim_makes : Partition → Identity → ℕ → Partition
trim_makes q reader number = record q { outboxes = with_first q.outboxes reader.partition number }

abbrev may_get : ℕ → Partition → Identity → ℕ → Message → Bool
may_get count q source number message = number == (q.inboxes source.partition).next && home count message.to == q.number

abbrev may_trim : Partition → Identity → ℕ → Bool
may_trim q reader number = nat_le number (end (q.outboxes reader.partition))

got_is : (flows : Flows) (count : ℕ) (q next : Partition) (source : Identity) (number : ℕ) (message : Message) → accepted flows count q (got source number message) ≡ Some next
    → ((not (source.partition == q.number) && (nat_lt source.partition count && may_get count q source number message)) ≡ true) × (got_makes q source number message ≡ next)
got_is flows count q next source number message made = passed (not (source.partition == q.number) && (nat_lt source.partition count && may_get count q source number message)) (got_makes q source number message) next made

trim_is : (flows : Flows) (count : ℕ) (q next : Partition) (reader : Identity) (number : ℕ) → accepted flows count q (trim reader number) ≡ Some next
    → ((not (reader.partition == q.number) && (nat_lt reader.partition count && may_trim q reader number)) ≡ true) × (trim_makes q reader number ≡ next)
trim_is flows count q next reader number made = passed (not (reader.partition == q.number) && (nat_lt reader.partition count && may_trim q reader number)) (trim_makes q reader number) next made

module _ (flows : Flows) (count partition : ℕ) (below : partition < count) where
  -- ---- one item

  -- the entry goes on
  item_goes_on : (e : Identity) (item : Item) (q next : Partition) → IsIn partition e q → accepted flows count q item ≡ Some next → IsSameEntry q next
  item_goes_on e (took message) q next is made = (label_joins count partition e flows below (took message) q next refl is made).same
  item_goes_on e (ran from to stamp) q next is made = (label_joins count partition e flows below (ran from to stamp) q next refl is made).same
  item_goes_on e (ended id task outcome) q next is made = (label_joins count partition e flows below (ended id task outcome) q next refl is made).same
  item_goes_on e (fired id task stamp) q next is made = (label_joins count partition e flows below (fired id task stamp) q next refl is made).same
  item_goes_on e (got source number message) q next is made = subst (IsSameEntry q) (got_is flows count q next source number message made).1 (record { number = refl; position = refl; incarnation = refl })
  item_goes_on e (trim reader number) q next is made = subst (IsSameEntry q) (trim_is flows count q next reader number made).1 (record { number = refl; position = refl; incarnation = refl })

  items_go_on : (e : Identity) (items : List Item) (q next : Partition) → IsIn partition e q → all_accepted flows count q items ≡ Some next → IsSameEntry q next
  items_go_on e [] q next is made = subst (IsSameEntry q) (some_same made) (record { number = refl; position = refl; incarnation = refl })
  items_go_on e (item ∷ items) q next is made =
      let first = both_some (accepted flows count q item) (λ s. all_accepted flows count s items) next made in
      let same = item_goes_on e item q first.0 is first.1 in
      same_entry_then q first.0 next same (items_go_on e items first.0 next (goes_in partition e q first.0 is same) first.2)

  module _ (Of : Sent → Type 0) where
    abbrev Trade : ((ℕ → Identity) → ℕ → Identity) → Partition → List Item → Partition → Type 0
    Trade = Trades count partition Of

    -- messages joined before these items
    joins_trade : (e : Identity) (behind : (ℕ → Identity) → ℕ → Identity) (q middle next : Partition) (items : List Item) → ((one : Sent) → IsOurs count partition e one → Of one)
        → Joins count partition e q middle → Trade behind middle items next → Trade behind q items next
    joins_trade e behind q middle next items of joins t = record {
      sent = joins.sent ++ t.sent;
      of = All-append Of joins.sent t.sent (All-weaker (IsOurs count partition e) Of of joins.sent joins.ours) t.of;
      boxes = t.boxes ∙ ap (λ (boxes : ℕ → Outbox). boxes_after boxes items) streams;
      let_go = subst (λ (boxes : ℕ → Outbox). LetGoInside boxes items) streams t.let_go;
      nexts = t.nexts ∙ ap (λ (nexts : ℕ → ℕ). nexts_after nexts items) nexts;
      reads = subst (λ (nexts : ℕ → ℕ). ReadOn nexts items) nexts t.reads;
      readers = t.readers ∙ ap (λ (boxes : ℕ → Inbox). behind (λ source. (boxes source).reader)) joins.inboxes;
      inside = t.inside;
    }
      where
        streams : with_sent middle.outboxes t.sent ≡ with_sent q.outboxes (joins.sent ++ t.sent)
        streams = ap (λ (boxes : ℕ → Outbox). with_sent boxes t.sent) joins.outboxes ∙ sym (sent_both q.outboxes joins.sent t.sent)

        nexts : nexts_in middle ≡ nexts_in q
        nexts = ap {B = ℕ → ℕ} (λ (boxes : ℕ → Inbox). λ source. (boxes source).next) joins.inboxes

    -- a label is no item of streams
    label_trades : (behind : (ℕ → Identity) → ℕ → Identity) (item : Item) (q next : Partition) (items : List Item) → is_some (label_in item) ≡ true → Trade behind q items next → Trade behind q (item ∷ items) next
    label_trades behind (took message) q next items some t =
        record { sent = t.sent; of = t.of; boxes = t.boxes; let_go = t.let_go; nexts = t.nexts; reads = t.reads; readers = t.readers; inside = All-cons (IsOfOthers count partition) (took message) items tt t.inside }
    label_trades behind (ran from to stamp) q next items some t =
        record { sent = t.sent; of = t.of; boxes = t.boxes; let_go = t.let_go; nexts = t.nexts; reads = t.reads; readers = t.readers; inside = All-cons (IsOfOthers count partition) (ran from to stamp) items tt t.inside }
    label_trades behind (ended id task outcome) q next items some t =
        record { sent = t.sent; of = t.of; boxes = t.boxes; let_go = t.let_go; nexts = t.nexts; reads = t.reads; readers = t.readers; inside = All-cons (IsOfOthers count partition) (ended id task outcome) items tt t.inside }
    label_trades behind (fired id task stamp) q next items some t =
        record { sent = t.sent; of = t.of; boxes = t.boxes; let_go = t.let_go; nexts = t.nexts; reads = t.reads; readers = t.readers; inside = All-cons (IsOfOthers count partition) (fired id task stamp) items tt t.inside }
    label_trades behind (got source number message) q next items some t = absurd (cc some)
    label_trades behind (trim reader number) q next items some t = absurd (cc some)

    got_trades : (e : Identity) (behind : (ℕ → Identity) → ℕ → Identity) (q middle next : Partition) (source : Identity) (number : ℕ) (message : Message) (items : List Item) → IsIn partition e q
        → accepted flows count q (got source number message) ≡ Some middle → Trade behind middle items next → Trade (λ r. behind (with_reader r source.partition e)) q (got source number message ∷ items) next
    got_trades e behind q middle next source number message items is made later = record {
      sent = t.sent;
      of = t.of;
      boxes = t.boxes;
      let_go = t.let_go;
      nexts = t.nexts ∙ ap (λ (nexts : ℕ → ℕ). nexts_after nexts items) nexts;
      reads = (eqb-true number (q.inboxes source.partition).next (and_parts (number == (q.inboxes source.partition).next) (home count message.to == q.number) other.1).0, subst (λ (nexts : ℕ → ℕ). ReadOn nexts items) nexts t.reads);
      readers = t.readers ∙ ap behind readers;
      inside = All-cons (IsOfOthers count partition) (got source number message) items other.0 t.inside;
    }
      where
        after : Partition
        after = got_makes q source number message

        t : Trade behind after items next
        t = subst (λ (s : Partition). Trade behind s items next) (sym (got_is flows count q middle source number message made).1) later

        other : IsOther count partition source.partition × (may_get count q source number message ≡ true)
        other = other_by count partition q.number source.partition (may_get count q source number message) is.number (got_is flows count q middle source number message made).0

        nexts : nexts_in after ≡ with_next (nexts_in q) source.partition (number + 1)
        nexts = λ i from. inbox_next (record { next = number + 1; reader = entry_of q }) (q.inboxes from) (source.partition == from) i

        readers : readers_in after ≡ with_reader (readers_in q) source.partition e
        readers =
            (λ i from. inbox_reader (record { next = number + 1; reader = entry_of q }) (q.inboxes from) (source.partition == from) i)
            ∙ ap (with_reader (readers_in q) source.partition) is.entry

    trim_trades : (e : Identity) (behind : (ℕ → Identity) → ℕ → Identity) (q middle next : Partition) (reader : Identity) (number : ℕ) (items : List Item) → IsIn partition e q
        → accepted flows count q (trim reader number) ≡ Some middle → Trade behind middle items next → Trade behind q (trim reader number ∷ items) next
    trim_trades e behind q middle next reader number items is made later = record {
      sent = t.sent;
      of = t.of;
      boxes = t.boxes ∙ ap (λ (boxes : ℕ → Outbox). boxes_after boxes items) (sym commutes);
      let_go = (omega (arith, low, grows), subst (λ (boxes : ℕ → Outbox). LetGoInside boxes items) (sym commutes) t.let_go);
      nexts = t.nexts;
      reads = t.reads;
      readers = t.readers;
      inside = All-cons (IsOfOthers count partition) (trim reader number) items other.0 t.inside;
    }
      where
        after : Partition
        after = trim_makes q reader number

        t : Trade behind after items next
        t = subst (λ (s : Partition). Trade behind s items next) (sym (trim_is flows count q middle reader number made).1) later

        other : IsOther count partition reader.partition × (may_trim q reader number ≡ true)
        other = other_by count partition q.number reader.partition (may_trim q reader number) is.number (trim_is flows count q middle reader number made).0

        low : number ≤ end (q.outboxes reader.partition)
        low = leb-true number (end (q.outboxes reader.partition)) other.1

        grows : end (q.outboxes reader.partition) ≤ end (with_sent q.outboxes t.sent reader.partition)
        grows = ends_grow q.outboxes t.sent reader.partition

        commutes : with_first (with_sent q.outboxes t.sent) reader.partition number ≡ with_sent (with_first q.outboxes reader.partition number) t.sent
        commutes = sent_commutes q.outboxes t.sent reader.partition number low

    -- ---- items one after another

    module _ (e : Identity) (of : (one : Sent) → IsOurs count partition e one → Of one) (behind : (ℕ → Identity) → ℕ → Identity) where
      abbrev Behind : List Item → (ℕ → Identity) → ℕ → Identity
      Behind items readers = behind (readers_after e readers items)

      -- one item more before these, and others
      item_trades : (item : Item) (items rest : List Item) (q middle next : Partition) → IsIn partition e q → accepted flows count q item ≡ Some middle
          → Trade (Behind items) middle (items ++ rest) next → Trade (Behind (item ∷ items)) q (item ∷ items ++ rest) next
      item_trades (took message) items rest q middle next is made t =
          label_trades (Behind items) (took message) q next (items ++ rest) refl (joins_trade e (Behind items) q middle next (items ++ rest) of (label_joins count partition e flows below (took message) q middle refl is made) t)
      item_trades (ran from to stamp) items rest q middle next is made t =
          label_trades (Behind items) (ran from to stamp) q next (items ++ rest) refl (joins_trade e (Behind items) q middle next (items ++ rest) of (label_joins count partition e flows below (ran from to stamp) q middle refl is made) t)
      item_trades (ended id task outcome) items rest q middle next is made t =
          label_trades (Behind items) (ended id task outcome) q next (items ++ rest) refl (joins_trade e (Behind items) q middle next (items ++ rest) of (label_joins count partition e flows below (ended id task outcome) q middle refl is made) t)
      item_trades (fired id task stamp) items rest q middle next is made t =
          label_trades (Behind items) (fired id task stamp) q next (items ++ rest) refl (joins_trade e (Behind items) q middle next (items ++ rest) of (label_joins count partition e flows below (fired id task stamp) q middle refl is made) t)
      item_trades (got source number message) items rest q middle next is made t = got_trades e (Behind items) q middle next source number message (items ++ rest) is made t
      item_trades (trim reader number) items rest q middle next is made t = trim_trades e (Behind items) q middle next reader number (items ++ rest) is made t

      items_trade : (items rest : List Item) (q middle next : Partition) → IsIn partition e q → all_accepted flows count q items ≡ Some middle → Trade behind middle rest next → Trade (Behind items) q (items ++ rest) next
      items_trade [] rest q middle next is made t = subst (λ (s : Partition). Trade behind s rest next) (sym (some_same made)) t
      items_trade (item ∷ items) rest q middle next is made t =
          let first = both_some (accepted flows count q item) (λ s. all_accepted flows count s items) middle made in
          let goes_on = goes_in partition e q first.0 is (item_goes_on e item q first.0 is first.1) in
          item_trades item items rest q first.0 next is first.1 (items_trade items rest first.0 middle next goes_on first.2 t)

  -- ---- entries

  -- the entry that begins is at the position that it keeps
  enter_in : (p : Partition) (entry : Entry) → p.number ≡ partition → entry.position ≡ p.position → IsIn partition (identity_at partition entry) (enter entry.incarnation p)
  enter_in p entry number at = record {
    number = number;
    entry =
        let before : p.position + 1 - 1 ≡ entry.position = omega (arith, at) in
        ap (λ (n : ℕ). record { partition = n; incarnation = entry.incarnation; position = p.position + 1 - 1 }) number
        ∙ ap (λ (n : ℕ). record { partition = partition; incarnation = entry.incarnation; position = n }) before;
  }

  -- one of these entries sends it to another partition
  abbrev IsOf : List Entry → Sent → Type 0
  IsOf entries one = IsOther count partition one.to × Contains (identities_at partition entries) one.posted.entry

  -- an entry more before these
  wider : (entry : Entry) (entries : List Entry) (one : Sent) → IsOf entries one → IsOf (entry ∷ entries) one
  wider entry entries one is = (is.0, Contains-append_right (identity_at partition entry ∷ []) (identities_at partition entries) one.posted.entry is.1)

  first_sends : (entry : Entry) (entries : List Entry) (one : Sent) → IsOurs count partition (identity_at partition entry) one → IsOf (entry ∷ entries) one
  first_sends entry entries one ours = (ours.to, (0, omega arith, sym ours.entry))

  abbrev EntriesTrade : Partition → List Entry → Partition → Type 0
  EntriesTrade p entries next = Trades count partition (IsOf entries) (λ readers. readers_behind partition readers entries) p (items_in entries) next

  -- an entry before these
  entry_trades : (entry : Entry) (entries : List Entry) (p middle next : Partition) → IsIn partition (identity_at partition entry) (enter entry.incarnation p) → entry_accepted flows count p entry ≡ Some middle
      → EntriesTrade middle entries next → EntriesTrade p (entry ∷ entries) next
  entry_trades entry entries p middle next is made t =
      let Of = IsOf (entry ∷ entries) in
      let behind : (ℕ → Identity) → ℕ → Identity = λ readers. readers_behind partition readers entries in
      let of = All-weaker (IsOf entries) Of (wider entry entries) t.sent t.of in
      let later : Trades count partition Of behind middle (items_in entries) next =
      record { sent = t.sent; of = of; boxes = t.boxes; let_go = t.let_go; nexts = t.nexts; reads = t.reads; readers = t.readers; inside = t.inside } in
      let all = items_trade Of (identity_at partition entry) (first_sends entry entries) behind entry.items (items_in entries) (enter entry.incarnation p) middle next is made later in
      record { sent = all.sent; of = all.of; boxes = all.boxes; let_go = all.let_go; nexts = all.nexts; reads = all.reads; readers = all.readers; inside = all.inside }

  entries_trade : (entries : List Entry) (p next : Partition) → p.number ≡ partition → AreInTurn p.position entries → placed flows count p entries ≡ Ok next
      → EntriesTrade p entries next × (next.position ≡ p.position + length entries) × (next.number ≡ p.number)
  entries_trade [] p next number turn made = subst (λ (s : Partition). EntriesTrade p [] s × (s.position ≡ p.position + 0) × (s.number ≡ p.number)) same (none, omega arith, refl)
    where
      same : p ≡ next
      same = cc made

      none : EntriesTrade p [] p
      none = record { sent = []; of = All-nil (IsOf []); boxes = refl; let_go = tt; nexts = refl; reads = tt; readers = refl; inside = All-nil (IsOfOthers count partition) }
  entries_trade (entry ∷ entries) p next number turn made =
      let first = both_placed entry.position (entry_accepted flows count p entry) (λ s. placed flows count s entries) next made in
      let is_in = enter_in p entry number turn.0 in
      let same = items_go_on (identity_at partition entry) entry.items (enter entry.incarnation p) first.0 is_in first.1 in
      let others = entries_trade entries first.0 next (same.number ∙ number) (subst (λ (n : ℕ). AreInTurn n entries) (sym same.position) turn.1) first.2 in
      (entry_trades entry entries p first.0 next is_in first.1 others.0, omega (arith, same.position, others.1), others.2 ∙ same.number)

  pub entries_send : (p next : Partition) (entries : List Entry) → p.number ≡ partition → AreInTurn p.position entries → placed flows count p entries ≡ Ok next → Sends count partition p entries next
  entries_send p next entries number turn made =
      let all = entries_trade entries p next number turn made in
      let t = all.0 in
      record {
        sent = t.sent;
        senders = All-weaker (IsOf entries) (λ one. (one.to < count) × Contains (identities_at partition entries) one.posted.entry) (λ one is. (is.0.below, is.1)) t.sent t.of;
        away = All-weaker (IsOf entries) (λ one. one.to ≡ partition → ⊥) (λ one is. is.0.apart) t.sent t.of;
        boxes = t.boxes;
        let_go = t.let_go;
        nexts = t.nexts;
        reads = t.reads;
        readers = t.readers;
        inside = t.inside;
        position = all.1;
        number = all.2;
      }

-- ---- one partition alone

-- there is no other one
no_other : (other : ℕ) → IsOther 1 0 other → ⊥
no_other other is = let first : other ≡ 0 = omega (arith, is.below) in is.apart first

no_sent : (e : Identity) (sent : List Sent) → All (IsOurs 1 0 e) sent → sent ≡ []
no_sent e [] ours = refl
no_sent e (one ∷ sent) ours = absurd (no_other one.to (All-head (IsOurs 1 0 e) one sent ours).to)

module _ (flows : Flows) where
  -- the streams to others are as they were, and so is the number
  abbrev IsSilent : Partition → Partition → Type 0
  IsSilent q next = (next.outboxes ≡ q.outboxes) × (next.number ≡ 0)

  label_alone : (item : Item) (q next : Partition) → is_some (label_in item) ≡ true → q.number ≡ 0 → accepted flows 1 q item ≡ Some next → IsSilent q next
  label_alone item q next some number made =
      let joins = label_joins 1 0 (entry_of q) flows (omega arith) item q next some (record { number = number; entry = refl }) made in
      (joins.outboxes ∙ ap (with_sent q.outboxes) (no_sent (entry_of q) joins.sent joins.ours), joins.same.number ∙ number)

  item_alone : (item : Item) (q next : Partition) → q.number ≡ 0 → accepted flows 1 q item ≡ Some next → IsLocal item × IsSilent q next
  item_alone (took message) q next number made = (tt, label_alone (took message) q next refl number made)
  item_alone (ran from to stamp) q next number made = (tt, label_alone (ran from to stamp) q next refl number made)
  item_alone (ended id task outcome) q next number made = (tt, label_alone (ended id task outcome) q next refl number made)
  item_alone (fired id task stamp) q next number made = (tt, label_alone (fired id task stamp) q next refl number made)
  item_alone (got source at message) q next number made =
      absurd (no_other source.partition (other_by 1 0 q.number source.partition (may_get 1 q source at message) number (got_is flows 1 q next source at message made).0).0)
  item_alone (trim reader at) q next number made =
      absurd (no_other reader.partition (other_by 1 0 q.number reader.partition (may_trim q reader at) number (trim_is flows 1 q next reader at made).0).0)

  items_alone : (items : List Item) (q next : Partition) → q.number ≡ 0 → all_accepted flows 1 q items ≡ Some next → All IsLocal items × IsSilent q next
  items_alone [] q next number made = let same = some_same made in (All-nil IsLocal, subst (IsSilent q) same (refl, number))
  items_alone (item ∷ items) q next number made =
      let first = both_some (accepted flows 1 q item) (λ s. all_accepted flows 1 s items) next made in
      let one = item_alone item q first.0 number first.1 in
      let others = items_alone items first.0 next one.1.1 first.2 in
      (All-cons IsLocal item items one.0 others.0, (others.1.0 ∙ one.1.0, others.1.1))

  pub entries_alone : (p next : Partition) (entries : List Entry) → p.number ≡ 0 → placed flows 1 p entries ≡ Ok next → (next.outboxes ≡ p.outboxes) × All IsLocal (items_in entries)
  entries_alone p next [] number made = let same : p ≡ next = cc made in (ap (λ (s : Partition). s.outboxes) (sym same), All-nil IsLocal)
  entries_alone p next (entry ∷ entries) number made =
      let first = both_placed entry.position (entry_accepted flows 1 p entry) (λ s. placed flows 1 s entries) next made in
      let one = items_alone entry.items (enter entry.incarnation p) first.0 number first.1 in
      let others = entries_alone first.0 next entries one.1.1 first.2 in
      (others.0 ∙ one.1.0, All-append IsLocal entry.items (items_in entries) one.0 others.1)
