-- Entries of many partitions that are accepted in an order leave states that show a world, whatever outcomes they have.
use Rattle.std.proofs.Common.{◌≡◌, ◌<◌, ◌≤◌, ◌+◌, ◌-◌, ◌==◌, ◌&&◌, ◌||◌, ℕ, drop, Bool, true, false, cond, List, [], ◌∷◌, Option, Some, None, refl, sym, ap, subst, ◌∙◌, arith}
use Rattle.std.specs.Prelude.{not, nat_lt}
use Rattle.std.proofs.lemmas.Bool.{leb-true, ltb-true, eqb-true, and_parts}
use Rattle.dura_model.proofs.Basics.{passes}
use Rattle.dura_model.proofs.Kept.{item_keeps, item_stands, enter_keeps}
use Rattle.dura_model.specs.Entries.{all_accepted}
use Rattle.dura_model.specs.Partition.{Partition, enter, accepted, with_part}
use Rattle.dura_model.specs.Placed.{AreShown, IsStreamed, IsOfStreams}
use Rattle.dura_value.proofs.Basics.{some_same, both_some}
use Rattle.dura_value.proofs.Same.{identity_same, message_same}
use Rattle.dura_value.specs.Ids.{home}
use Rattle.dura_value.specs.Items.{Identity, Item, took, got, ran, ended, fired, trim, Entry, Posted}
use Rattle.dura_value.specs.Messages.{Message}
use Rattle.dura_value.specs.Same.{identity_eq, message_eq}
use Rattle.flow_syntax.specs.Syntax.{Flows}
use Rattle.log_items.specs.Streams.{Outbox}
use Rattle.many_logs.proofs.Apart.{part_here, AllGrow, all_ready_still, accepted_parts}
use Rattle.many_logs.proofs.Basics.{self_eqb}
use Rattle.many_logs.proofs.Leads.{parts_again, parts_same, item_all_grow}
use Rattle.many_logs.proofs.Moving.{message_on}
use Rattle.many_logs.proofs.Streams.{Grows, same_grows}
use Rattle.many_logs.specs.Labels.{AreNumbered, state_next}
use Rattle.many_logs.specs.Placing.{first_of, message_at, is_of, stands_at, has_sent, is_ready, are_ready, commit_accepted, Commit, states_after, of_partition, AllBelow}
use Rattle.part_items.specs.Numbered.{Next, behind, IsNumbered}

-- ---- streams

first_found : (messages : List Posted) (posted : Posted) → first_of messages ≡ Some posted → (later : List Posted) × (messages ≡ posted ∷ later)
first_found [] posted is = absurd (cc is)
first_found (one ∷ later) posted is = (later, ap (λ (p : Posted). p ∷ later) (some_same is))

-- what was sent stands in the stream, if that has not begun behind it
has_streamed : (parts : ℕ → Partition) (source : Identity) (partition number : ℕ) (message : Message) → ((parts source.partition).outboxes partition).first ≤ number
    → has_sent ((parts source.partition).outboxes partition) source number message ≡ true → IsStreamed parts source partition number message
has_streamed parts source partition number message begun is = by (nat_lt number box.first) refl is
  where
    box : Outbox
    box = (parts source.partition).outboxes partition

    stands : (there : Option Posted) → message_at box number ≡ there → is_of source message there ≡ true → IsStreamed parts source partition number message
    stands None at of_it = absurd (cc of_it)
    stands (Some posted) at of_it =
        let both = and_parts (identity_eq posted.entry source) (message_eq posted.message message) of_it in
        let entry = identity_same posted.entry source both.0 in
        let said = message_same posted.message message both.1 in
        let found = first_found (drop (number - box.first) box.messages) posted (message_on box number (nat_lt number box.first) refl posted at).1 in
        record { begun = begun; later = found.0; stands = found.1 ∙ (λ i. record { entry = entry i; message = said i } ∷ found.0) }

    by : (early : Bool) → nat_lt number box.first ≡ early → (early || stands_at box source number message) ≡ true → IsStreamed parts source partition number message
    by true early has = absurd (let low : number < box.first = ltb-true number box.first early in omega (arith, low, begun))
    by false early has = stands (message_at box number) refl has

module _ (flows : Flows) (count : ℕ) where
  -- what comes in was sent, and what is let go was read
  of_streams : (item : Item) (parts : ℕ → Partition) (partition : ℕ) (next : Partition) → AreShown count parts → partition < count → is_ready parts partition item ≡ true → accepted flows count (parts partition) item ≡ Some next → IsOfStreams parts partition item
  of_streams (got source number message) parts partition next shows below ready is =
      let p = parts partition in
      let away = not (source.partition == p.number) in
      let low = nat_lt source.partition count in
      let in_turn = number == (p.inboxes source.partition).next in
      let lives = home count message.to == p.number in
      let one = and_parts away (low && (in_turn && lives)) (passes (away && (low && (in_turn && lives))) _ next is).0 in
      let two = and_parts low (in_turn && lives) one.1 in
      let turn = eqb-true number (p.inboxes source.partition).next (and_parts in_turn lives two.1).0 in
      let first = (shows.readers source.partition partition (ltb-true source.partition count two.0) below).from_first in
      has_streamed parts source partition number message (omega (arith, turn, first)) ready
  of_streams (trim reader number) parts partition next shows below ready is = leb-true number ((parts reader.partition).inboxes partition).next ready
  of_streams (took message) parts partition next shows below ready is = tt
  of_streams (ran from to stamp) parts partition next shows below ready is = tt
  of_streams (ended id task outcome) parts partition next shows below ready is = tt
  of_streams (fired id task stamp) parts partition next shows below ready is = tt

  -- With this state of one partition all show a world still, and its log goes on here.
  record Keeps (parts : ℕ → Partition) (partition : ℕ) (q : Partition) (next : Next) : Type 0 where
    shown : AreShown count (with_part parts partition q)
    goes_on : state_next q ≡ next

  -- ---- items

  items_keep : (items : List Item) (parts : ℕ → Partition) (partition : ℕ) (q : Partition) → AreShown count parts → partition < count → 0 < (parts partition).position → are_ready parts partition items ≡ true
      → all_accepted flows count (parts partition) items ≡ Some q → Keeps parts partition q (state_next (parts partition))
  items_keep [] parts partition q shows below begun ready all =
      let same : parts partition ≡ q = cc all in
      subst (λ (s : Partition). Keeps parts partition s (state_next (parts partition))) same (record { shown = subst (AreShown count) (sym (parts_same parts partition)) shows; goes_on = refl })
  items_keep (item ∷ items) parts partition q shows below begun ready all =
      let first = both_some (accepted flows count (parts partition) item) (λ next. all_accepted flows count next items) q all in
      let next = first.0 in
      let readies = and_parts (is_ready parts partition item) (are_ready parts partition items) ready in
      let then_parts = with_part parts partition next in
      let here : then_parts partition ≡ next = part_here parts partition next in
      let still = item_keeps flows count parts partition item next shows below begun (of_streams item parts partition next shows below readies.0 first.1) first.1 in
      let stands = item_stands flows count parts partition item next shows below begun first.1 in
      let rest = items_keep items then_parts partition q still below
      (subst (λ (s : Partition). 0 < s.position) (sym here) (omega (arith, begun, stands.position)))
      (all_ready_still parts then_parts partition items (item_all_grow flows count item parts partition next first.1) readies.1)
      (ap (λ (s : Partition). all_accepted flows count s items) here ∙ first.2) in
      record {
        shown = subst (AreShown count) (parts_again parts partition next q) rest.shown;
        goes_on = rest.goes_on ∙ ap state_next here ∙ same_next next (parts partition) stands.position stands.incarnation;
      }
    where
      same_next : (a b : Partition) → a.position ≡ b.position → a.incarnation ≡ b.incarnation → state_next a ≡ state_next b
      same_next a b position incarnation = λ i. record { position = position i; incarnation = incarnation i }

  -- ---- entries

  entry_keeps : (entry : Entry) (parts : ℕ → Partition) (partition : ℕ) (q : Partition) → AreShown count parts → partition < count → entry.position ≡ (parts partition).position → (parts partition).incarnation ≤ entry.incarnation
      → commit_accepted flows count parts partition entry ≡ Some q → Keeps parts partition q (behind entry)
  entry_keeps entry parts partition q shows below position incarnation is =
      let both = accepted_parts flows count parts partition entry q is in
      let entered = enter entry.incarnation (parts partition) in
      let begins = with_part parts partition entered in
      let here : begins partition ≡ entered = part_here parts partition entered in
      let grow : AllGrow parts begins = λ other. enter_grows other (partition == other) refl in
      let inside = items_keep entry.items begins partition q (enter_keeps flows count parts partition entry.incarnation shows below incarnation) below
      (subst (λ (s : Partition). 0 < s.position) (sym here) (omega arith))
      (all_ready_still parts begins partition entry.items grow both.0)
      (ap (λ (s : Partition). all_accepted flows count s entry.items) here ∙ both.1) in
      record {
        shown = subst (AreShown count) (parts_again parts partition entered q) inside.shown;
        goes_on = inside.goes_on ∙ ap state_next here ∙ ap (λ (n : ℕ). record { position = n + 1; incarnation = entry.incarnation }) (sym position);
      }
    where
      enter_grows : (other : ℕ) (test : Bool) → (partition == other) ≡ test → Grows (parts other) (cond test (enter entry.incarnation (parts partition)) (parts other))
      enter_grows other true same = subst (λ (p : ℕ). Grows (parts p) (enter entry.incarnation (parts partition))) (eqb-true partition other same) (same_grows (parts partition) (enter entry.incarnation (parts partition)) refl refl refl)
      enter_grows other false apart = same_grows (parts other) (parts other) refl refl refl

  -- entries in an order
  pub commits_keep : (run : List Commit) (parts later : ℕ → Partition) → AreShown count parts → AllBelow count run → AreNumbered parts run → states_after flows count parts run ≡ Some later → AreShown count later
  commits_keep [] parts later shows below numbered all = let same : parts ≡ later = cc all in subst (AreShown count) same shows
  commits_keep (one ∷ run) parts later shows below numbered all =
      let first = both_some (commit_accepted flows count parts one.partition one.entry) (λ x. states_after flows count (with_part parts one.partition x) run) later all in
      let mine = subst (IsNumbered (state_next (parts one.partition))) own (numbered one.partition) in
      let keeps = entry_keeps one.entry parts one.partition first.0 shows below.0 mine.0 mine.1 first.1 in
      commits_keep run (with_part parts one.partition first.0) later keeps.shown below.1 (λ partition. numbers partition first.0 (one.partition == partition) keeps.goes_on (numbered partition)) first.2
    where
      own : of_partition one.partition (one ∷ run) ≡ one.entry ∷ of_partition one.partition run
      own = ap (λ (b : Bool). cond b (one.entry ∷ of_partition one.partition run) (of_partition one.partition run)) (self_eqb one.partition)

      numbers : (partition : ℕ) (x : Partition) (test : Bool) → state_next x ≡ behind one.entry → IsNumbered (state_next (parts partition)) (cond test (one.entry ∷ of_partition partition run) (of_partition partition run))
          → IsNumbered (state_next (cond test x (parts partition))) (of_partition partition run)
      numbers partition x true goes is = subst (λ (n : Next). IsNumbered n (of_partition partition run)) (sym goes) is.2
      numbers partition x false goes is = is
