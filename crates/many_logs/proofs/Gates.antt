-- What passes the gate is ready where all is settled.
use Rattle.std.proofs.Common.{◌≡◌, ◌<◌, ◌||◌, ℕ, zero, suc, Bool, true, false, Option, Some, None, List, [], ◌∷◌, Ok, refl, subst, arith}
use Rattle.std.specs.Prelude.{nat_lt}
use Rattle.std.proofs.lemmas.Bool.{ltb-true, and_parts}
use Rattle.std.specs.List.{All, Contains}
use Rattle.dura_value.specs.Dependencies.{named_by}
use Rattle.dura_value.specs.Messages.{Message}
use Rattle.dura_value.specs.Items.{Identity, Item, took, got, ran, ended, fired, trim, Entry, Posted}
use Rattle.dura_value.proofs.Ids.{and_true}
use Rattle.flow_syntax.specs.Syntax.{Flows}
use Rattle.dura_model.specs.Partition.{Partition}
use Rattle.dura_model.specs.Entries as alone
use Rattle.dura_value.specs.Same.{identity_eq, message_eq}
use Rattle.many_logs.specs.Names.{AreOf, AreNamed, TrimNamed, TrimsNamed}
use Rattle.dura_value.proofs.Same.{identity_same}
use Rattle.many_logs.specs.Placing.{message_at, is_of, stands_at, is_ready, are_ready, AllReady}
use Rattle.many_logs.specs.Gates.{may_pass, all_pass, frame_passes}
use Rattle.many_logs.proofs.Streams.{chain_leaves}

all_cons : {X : Type 0} (P : X → Type 0) (x : X) (xs : List X) → P x → All P xs → All P (x ∷ xs)
all_cons P x xs first rest zero d inside = first
all_cons P x xs first rest (suc k) d inside = rest k d (omega (arith, inside))

or_second : (a b : Bool) → b ≡ true → a || b ≡ true
or_second true b is = refl
or_second false b is = is

module _ (flows : Flows) (count : ℕ) (settled ahead : ℕ → Partition) (under_way : ℕ → List Entry) (goes : (partition : ℕ) → alone.placed flows count (settled partition) (under_way partition) ≡ Ok (ahead partition)) where
  abbrev lengths : ℕ → ℕ
  lengths partition = (settled partition).position

  abbrev reads : ℕ → ℕ → ℕ
  reads partition source = ((settled partition).inboxes source).next

  -- what passes stands in what is settled
  got_stands : (partition : ℕ) (source : Identity) (number : ℕ) (message : Message) → may_pass ahead lengths reads partition (got source number message) ≡ true → stands_at ((settled source.partition).outboxes partition) source number message ≡ true
  got_stands partition source number message is =
      let both = and_parts (stands_at ((ahead source.partition).outboxes partition) source number message) (nat_lt source.position (lengths source.partition)) is in
      let early : source.position < (settled source.partition).position = ltb-true source.position (lengths source.partition) both.1 in
      let left = chain_leaves flows count (settled source.partition).position (under_way source.partition) (settled source.partition) (ahead source.partition) (omega arith) (goes source.partition) in
      left.sent partition source number message early both.0

  item_ready : (partition : ℕ) (item : Item) → may_pass ahead lengths reads partition item ≡ true → is_ready settled partition item ≡ true
  item_ready partition (got source number message) is =
      or_second (nat_lt number ((settled source.partition).outboxes partition).first) (stands_at ((settled source.partition).outboxes partition) source number message) (got_stands partition source number message is)
  item_ready partition (trim reader number) is = is
  item_ready partition (took message) is = refl
  item_ready partition (ran from to stamp) is = refl
  item_ready partition (ended id task outcome) is = refl
  item_ready partition (fired id task stamp) is = refl

  items_ready : (partition : ℕ) (items : List Item) → all_pass ahead lengths reads partition items ≡ true → are_ready settled partition items ≡ true
  items_ready partition [] is = refl
  items_ready partition (item ∷ items) is =
      let both = and_parts (may_pass ahead lengths reads partition item) (all_pass ahead lengths reads partition items) is in
      and_true (is_ready settled partition item) (are_ready settled partition items) (item_ready partition item both.0) (items_ready partition items both.1)

  pub frame_ready : (partition : ℕ) (going : List Entry) → frame_passes ahead (λ p. (settled p).position) (λ p source. ((settled p).inboxes source).next) partition going ≡ true → AllReady settled partition going
  frame_ready partition [] is = tt
  frame_ready partition (entry ∷ going) is =
      let both = and_parts (all_pass ahead lengths reads partition entry.items) (frame_passes ahead lengths reads partition going) is in
      (items_ready partition entry.items both.0, frame_ready partition going both.1)

  -- ---- what it names

  module _ (known : List Identity) (are : AreOf known settled) where
    of_sender : (partition : ℕ) (source : Identity) (number : ℕ) (message : Message) → stands_at ((settled source.partition).outboxes partition) source number message ≡ true → Contains known source
    of_sender partition source number message is = by (message_at ((settled source.partition).outboxes partition) number) refl is
      where
        by : (there : Option Posted) → message_at ((settled source.partition).outboxes partition) number ≡ there → is_of source message there ≡ true → Contains known source
        by None at of_it = absurd (cc of_it)
        by (Some posted) at of_it =
            subst (Contains known) (identity_same posted.entry source (and_parts (identity_eq posted.entry source) (message_eq posted.message message) of_it).0) (are.senders source.partition partition number posted at)

    items_named : (partition : ℕ) (items : List Item) → All (TrimNamed known) items → all_pass ahead lengths reads partition items ≡ true → All (Contains known) (named_by items)
    items_named partition [] trims is = λ k d inside. absurd (omega (arith, inside))
    items_named partition (item ∷ items) trims is =
        let both = and_parts (may_pass ahead lengths reads partition item) (all_pass ahead lengths reads partition items) is in
        let rest = items_named partition items (λ k d inside. trims (suc k) d (omega (arith, inside))) both.1 in
        by item (trims 0 item (omega arith)) both.0 rest
      where
        by : (one : Item) → TrimNamed known one → may_pass ahead lengths reads partition one ≡ true → All (Contains known) (named_by items) → All (Contains known) (named_by (one ∷ items))
        by (got source number message) named passes rest = all_cons (Contains known) source (named_by items) (of_sender partition source number message (got_stands partition source number message passes)) rest
        by (trim reader number) named passes rest = all_cons (Contains known) reader (named_by items) named rest
        by (took message) named passes rest = rest
        by (ran from to stamp) named passes rest = rest
        by (ended id task outcome) named passes rest = rest
        by (fired id task stamp) named passes rest = rest

    pub frame_named : (partition : ℕ) (going : List Entry) → TrimsNamed known going → frame_passes ahead (λ p. (settled p).position) (λ p source. ((settled p).inboxes source).next) partition going ≡ true → AreNamed known going
    frame_named partition [] trims is = λ k d inside. absurd (omega (arith, inside))
    frame_named partition (entry ∷ going) trims is =
        let both = and_parts (all_pass ahead lengths reads partition entry.items) (frame_passes ahead lengths reads partition going) is in
        all_cons (λ (one : Entry). All (Contains known) (named_by one.items)) entry going (items_named partition entry.items (trims 0 entry (omega arith)) both.0) (frame_named partition going (λ k d inside. trims (suc k) d (omega (arith, inside))) both.1)
