-- Entries of many partitions that are accepted lead the world that these show where their labels do.
use Rattle.std.proofs.Common.{◌≡◌, ◌<◌, ◌≤◌, ◌+◌, ◌-◌, ◌==◌, ◌&&◌, ◌||◌, ℕ, drop, Bool, true, false, cond, List, [], ◌∷◌, ◌++◌, Option, Some, None, refl, sym, ap, subst, ◌∙◌, append_assoc, arith}
use Rattle.std.specs.Prelude.{option_map, not, nat_lt}
use Rattle.std.specs.Option.{option_and_then}
use Rattle.std.proofs.lemmas.Bool.{leb-true, ltb-true, eqb-true, and_parts}
use Rattle.dura_value.specs.Ids.{Id, home}
use Rattle.dura_value.specs.Items.{Identity, Item, took, got, ran, ended, fired, trim, Entry, Posted}
use Rattle.dura_value.specs.Messages.{Message}
use Rattle.flow_syntax.specs.Syntax.{Flows}
use Rattle.dura_model.specs.Legal.{after_from}
use Rattle.dura_model.specs.Partition.{Partition, enter, accepted, label_in, shown, with_part}
use Rattle.log_items.specs.Streams.{Outbox}
use Rattle.dura_model.specs.Placed.{AreShown, IsStreamed, IsOfStreams, IsGiven, happens_at}
use Rattle.dura_model.specs.Steps.{Label, take, deliver, finish, fire, step, number_in}
use Rattle.dura_model.specs.World.{World}
use Rattle.dura_model.proofs.Basics.{passes}
use Rattle.dura_model.proofs.Shown.{item_labelled, item_silent}
use Rattle.dura_model.proofs.Kept.{item_keeps, item_stands, item_lives, enter_keeps, enter_silent}
use Rattle.part_items.specs.Numbered.{Next, behind, behind_all, IsNumbered}
use Rattle.dura_model.specs.Entries.{all_accepted, and_label, labels_of, AreGiven}
use Rattle.dura_value.specs.Same.{identity_eq, message_eq}
use Rattle.many_logs.specs.Placing.{first_of, message_at, is_of, stands_at, has_sent, is_ready, are_ready, commit_accepted, Commit, states_after, of_partition, AllBelow}
use Rattle.many_logs.specs.Labels.{labels_of_commits, AllGiven, AreNumbered, state_next}
use Rattle.many_logs.proofs.Basics.{self_eqb}
use Rattle.dura_value.proofs.Same.{identity_same, message_same}
use Rattle.many_logs.proofs.Moving.{message_on}
use Rattle.many_logs.proofs.Streams.{Grows, same_grows, item_grows}
use Rattle.many_logs.proofs.Apart.{part_here, AllGrow, all_ready_still, accepted_parts}
use Rattle.dura_value.proofs.Basics.{some_same, both_some}

-- ---- streams

first_found : (messages : List Posted) (posted : Posted) → first_of messages ≡ Some posted → (later : List Posted) × (messages ≡ posted ∷ later)
first_found [] posted is = absurd (cc is)
first_found (one ∷ later) posted is = (later, ap (λ (p : Posted). p ∷ later) (some_same is))

-- what was sent stands in the stream, if that has not begun behind it
has_streamed : (parts : ℕ → Partition) (source : Identity) (partition number : ℕ) (message : Message) → ((parts source.partition).outboxes partition).first ≤ number
    → has_sent ((parts source.partition).outboxes partition) source number message ≡ true → IsStreamed parts source partition number message
has_streamed parts source partition number message begun is = by (nat_lt number box.first) refl is
  where
    box : Outbox
    box = (parts source.partition).outboxes partition

    stands : (there : Option Posted) → message_at box number ≡ there → is_of source message there ≡ true → IsStreamed parts source partition number message
    stands None at of_it = absurd (cc of_it)
    stands (Some posted) at of_it =
        let both = and_parts (identity_eq posted.entry source) (message_eq posted.message message) of_it in
        let entry = identity_same posted.entry source both.0 in
        let said = message_same posted.message message both.1 in
        let found = first_found (drop (number - box.first) box.messages) posted (message_on box number (nat_lt number box.first) refl posted at).1 in
        record { begun = begun; later = found.0; stands = found.1 ∙ (λ i. record { entry = entry i; message = said i } ∷ found.0) }

    by : (early : Bool) → nat_lt number box.first ≡ early → (early || stands_at box source number message) ≡ true → IsStreamed parts source partition number message
    by true early has = absurd (let low : number < box.first = ltb-true number box.first early in omega (arith, low, begun))
    by false early has = stands (message_at box number) refl has

-- one of the states is put in partition twice
pub parts_again : (parts : ℕ → Partition) (partition : ℕ) (x y : Partition) → with_part (with_part parts partition x) partition y ≡ with_part parts partition y
parts_again parts partition x y = λ i other. at other (partition == other) i
  where
    at : (other : ℕ) (test : Bool) → cond test y (cond test x (parts other)) ≡ cond test y (parts other)
    at other true = refl
    at other false = refl

pub parts_same : (parts : ℕ → Partition) (partition : ℕ) → with_part parts partition (parts partition) ≡ parts
parts_same parts partition = λ i other. at other (partition == other) refl i
  where
    at : (other : ℕ) (test : Bool) → (partition == other) ≡ test → cond test (parts partition) (parts other) ≡ parts other
    at other true same = ap parts (eqb-true partition other same)
    at other false apart = refl

-- one run behind another
pub after_both : (flows : Flows) (w v : World) (run more : List Label) → after_from flows w run ≡ Some v → after_from flows w (run ++ more) ≡ after_from flows v more
after_both flows w v [] more is = let same : w ≡ v = cc is in ap (λ (from : World). after_from flows from more) same
after_both flows w v (label ∷ run) more is =
    let first = both_some (step flows w label) (λ next. after_from flows next run) v is in
    ap (option_and_then (λ next. after_from flows next (run ++ more))) first.1 ∙ after_both flows first.0 v run more first.2

module _ (flows : Flows) (count : ℕ) where
  -- ---- items

  of_streams : (item : Item) (parts : ℕ → Partition) (partition : ℕ) (next : Partition) → AreShown count parts → partition < count → is_ready parts partition item ≡ true → accepted flows count (parts partition) item ≡ Some next → IsOfStreams parts partition item
  of_streams (got source number message) parts partition next shows below ready is =
      let p = parts partition in
      let away = not (source.partition == p.number) in
      let low = nat_lt source.partition count in
      let in_turn = number == (p.inboxes source.partition).next in
      let incarnations = home count message.to == p.number in
      let it = (passes (away && (low && (in_turn && incarnations))) _ next is).0 in
      let one = and_parts away (low && (in_turn && incarnations)) it in
      let two = and_parts low (in_turn && incarnations) one.1 in
      let turn = eqb-true number (p.inboxes source.partition).next (and_parts in_turn incarnations two.1).0 in
      let reader = shows.readers source.partition partition (ltb-true source.partition count two.0) below in
      let first = reader.from_first in
      has_streamed parts source partition number message (omega (arith, turn, first)) ready
  of_streams (trim reader number) parts partition next shows below ready is = leb-true number ((parts reader.partition).inboxes partition).next ready
  of_streams (took message) parts partition next shows below ready is = tt
  of_streams (ran from to stamp) parts partition next shows below ready is = tt
  of_streams (ended id task outcome) parts partition next shows below ready is = tt
  of_streams (fired id task stamp) parts partition next shows below ready is = tt

  labelled_comes : (item : Item) (label : Label) (id : Id) (parts : ℕ → Partition) (partition : ℕ) (next : Partition) → AreShown count parts → partition < count → label_in item ≡ Some label → happens_at item ≡ Some id → IsGiven (parts partition) item
      → accepted flows count (parts partition) item ≡ Some next → step flows (shown flows count parts) label ≡ Some (shown flows count (with_part parts partition next))
  labelled_comes item label id parts partition next shows below labelled happens given is =
      sym (item_labelled flows count parts partition item label id shows below labelled happens (item_lives flows count parts partition item next id shows below happens is) given)
      ∙ ap (option_map (λ (s : Partition). shown flows count (with_part parts partition s))) is

  -- what an item does to the world that is shown its label does, if it is one
  item_comes : (item : Item) (parts : ℕ → Partition) (partition : ℕ) (next : Partition) (labels : List Label) → AreShown count parts → partition < count → IsOfStreams parts partition item → IsGiven (parts partition) item → accepted flows count (parts partition) item ≡ Some next
      → after_from flows (shown flows count parts) (and_label (label_in item) labels) ≡ after_from flows (shown flows count (with_part parts partition next)) labels
  item_comes (took message) parts partition next labels shows below streams given is =
      ap (option_and_then (λ w. after_from flows w labels)) (labelled_comes (took message) (take message.from (number_in message.body) message) message.from parts partition next shows below refl refl given is)
  item_comes (ran from to stamp) parts partition next labels shows below streams given is = ap (option_and_then (λ w. after_from flows w labels)) (labelled_comes (ran from to stamp) (deliver from to stamp) to parts partition next shows below refl refl given is)
  item_comes (ended id task outcome) parts partition next labels shows below streams given is = ap (option_and_then (λ w. after_from flows w labels)) (labelled_comes (ended id task outcome) (finish id task outcome) id parts partition next shows below refl refl given is)
  item_comes (fired id task stamp) parts partition next labels shows below streams given is = ap (option_and_then (λ w. after_from flows w labels)) (labelled_comes (fired id task stamp) (fire id task stamp) id parts partition next shows below refl refl given is)
  item_comes (got source number message) parts partition next labels shows below streams given is = ap (λ (w : World). after_from flows w labels) (sym (item_silent flows count parts partition (got source number message) shows below refl streams next is))
  item_comes (trim reader number) parts partition next labels shows below streams given is = ap (λ (w : World). after_from flows w labels) (sym (item_silent flows count parts partition (trim reader number) shows below refl streams next is))

  -- after an item all states are as far or further
  pub item_all_grow : (item : Item) (parts : ℕ → Partition) (partition : ℕ) (next : Partition) → accepted flows count (parts partition) item ≡ Some next → AllGrow parts (with_part parts partition next)
  item_all_grow item parts partition next is other = by (partition == other) refl
    where
      by : (test : Bool) → (partition == other) ≡ test → Grows (parts other) (cond test next (parts other))
      by true same = subst (λ (p : ℕ). Grows (parts p) next) (eqb-true partition other same) (item_grows flows count item (parts partition) next is)
      by false apart = same_grows (parts other) (parts other) refl refl refl

  -- The states show a world, which these labels lead to, and the partition's log goes on here.
  pub record Leads (parts later : ℕ → Partition) (partition : ℕ) (labels : List Label) (next : Next) : Type 0 where
    pub shown_still : AreShown count later
    pub comes : (more : List Label) → after_from flows (shown flows count parts) (labels ++ more) ≡ after_from flows (shown flows count later) more
    pub goes_on : state_next (later partition) ≡ next

  items_lead : (items : List Item) (parts : ℕ → Partition) (partition : ℕ) (q : Partition) → AreShown count parts → partition < count → 0 < (parts partition).position → are_ready parts partition items ≡ true → AreGiven flows count (parts partition) items
      → all_accepted flows count (parts partition) items ≡ Some q → Leads parts (with_part parts partition q) partition (labels_of items) (state_next (parts partition))
  items_lead [] parts partition q shows below begun ready given all =
      let same : parts partition ≡ q = cc all in
      subst (λ (s : Partition). Leads parts (with_part parts partition s) partition [] (state_next (parts partition))) same
      (subst (λ (later : ℕ → Partition). Leads parts later partition [] (state_next (parts partition))) (sym (parts_same parts partition)) (record { shown_still = shows; comes = λ more. refl; goes_on = refl }))
  items_lead (item ∷ items) parts partition q shows below begun ready given all =
      let first = both_some (accepted flows count (parts partition) item) (λ next. all_accepted flows count next items) q all in
      let next = first.0 in
      let readies = and_parts (is_ready parts partition item) (are_ready parts partition items) ready in
      let streams = of_streams item parts partition next shows below readies.0 first.1 in
      let then_parts = with_part parts partition next in
      let here : then_parts partition ≡ next = part_here parts partition next in
      let still = item_keeps flows count parts partition item next shows below begun streams first.1 in
      let stands = item_stands flows count parts partition item next shows below begun first.1 in
      let position : 0 < (then_parts partition).position = subst (λ (s : Partition). 0 < s.position) (sym here) (omega (arith, begun, stands.position)) in
      let rest = items_lead items then_parts partition q still below position
      (all_ready_still parts then_parts partition items (item_all_grow item parts partition next first.1) readies.1)
      (subst (λ (s : Partition). AreGiven flows count s items) (sym here) (given.1 next first.1))
      (ap (λ (s : Partition). all_accepted flows count s items) here ∙ first.2) in
      let whole = subst (λ (later : ℕ → Partition). Leads then_parts later partition (labels_of items) (state_next (then_parts partition))) (parts_again parts partition next q) rest in
      record {
        shown_still = whole.shown_still;
        comes = λ more.
            ap (after_from flows (shown flows count parts)) (label_first (label_in item) (labels_of items) more)
            ∙ item_comes item parts partition next (labels_of items ++ more) shows below streams given.0 first.1
            ∙ whole.comes more;
        goes_on = whole.goes_on ∙ ap state_next here ∙ same_next next (parts partition) stands.position stands.incarnation;
      }
    where
      label_first : (label : Option Label) (labels more : List Label) → and_label label labels ++ more ≡ and_label label (labels ++ more)
      label_first None labels more = refl
      label_first (Some label) labels more = refl

      same_next : (a b : Partition) → a.position ≡ b.position → a.incarnation ≡ b.incarnation → state_next a ≡ state_next b
      same_next a b position incarnation = λ i. record { position = position i; incarnation = incarnation i }

  -- ---- entries

  entry_leads : (entry : Entry) (parts : ℕ → Partition) (partition : ℕ) (q : Partition) → AreShown count parts → partition < count → entry.position ≡ (parts partition).position → (parts partition).incarnation ≤ entry.incarnation
      → AreGiven flows count (enter entry.incarnation (parts partition)) entry.items → commit_accepted flows count parts partition entry ≡ Some q → Leads parts (with_part parts partition q) partition (labels_of entry.items) (behind entry)
  entry_leads entry parts partition q shows below position incarnation given is =
      let both = accepted_parts flows count parts partition entry q is in
      let entered = enter entry.incarnation (parts partition) in
      let begins = with_part parts partition entered in
      let here : begins partition ≡ entered = part_here parts partition entered in
      let begun : 0 < (begins partition).position = subst (λ (s : Partition). 0 < s.position) (sym here) (omega arith) in
      let grow : AllGrow parts begins = λ other. enter_grows parts partition entry.incarnation other in
      let inside = items_lead entry.items begins partition q (enter_keeps flows count parts partition entry.incarnation shows below incarnation) below begun
      (all_ready_still parts begins partition entry.items grow both.0)
      (subst (λ (s : Partition). AreGiven flows count s entry.items) (sym here) given)
      (ap (λ (s : Partition). all_accepted flows count s entry.items) here ∙ both.1) in
      let whole = subst (λ (later : ℕ → Partition). Leads begins later partition (labels_of entry.items) (state_next (begins partition))) (parts_again parts partition entered q) inside in
      record {
        shown_still = whole.shown_still;
        comes = λ more. ap (λ (w : World). after_from flows w (labels_of entry.items ++ more)) (sym (enter_silent flows count parts partition entry.incarnation)) ∙ whole.comes more;
        goes_on = whole.goes_on ∙ ap state_next here ∙ ap (λ (n : ℕ). record { position = n + 1; incarnation = entry.incarnation }) (sym position);
      }
    where
      enter_grows : (parts : ℕ → Partition) (partition incarnation other : ℕ) → Grows (parts other) (with_part parts partition (enter incarnation (parts partition)) other)
      enter_grows parts partition incarnation other = by (partition == other) refl
        where
          by : (test : Bool) → (partition == other) ≡ test → Grows (parts other) (cond test (enter incarnation (parts partition)) (parts other))
          by true same = subst (λ (p : ℕ). Grows (parts p) (enter incarnation (parts partition))) (eqb-true partition other same) (same_grows (parts partition) (enter incarnation (parts partition)) refl refl refl)
          by false apart = same_grows (parts other) (parts other) refl refl refl

  -- The states show a world still, which the labels of all lead to; and each log goes on behind its entries.
  pub record AllLead (parts later : ℕ → Partition) (run : List Commit) : Type 0 where
    pub shown_still : AreShown count later
    pub comes : (more : List Label) → after_from flows (shown flows count parts) (labels_of_commits run ++ more) ≡ after_from flows (shown flows count later) more
    pub goes_on : (partition : ℕ) → state_next (later partition) ≡ behind_all (state_next (parts partition)) (of_partition partition run)

  pub commits_lead : (run : List Commit) (parts later : ℕ → Partition) → AreShown count parts → AllBelow count run → AreNumbered parts run → AllGiven flows count parts run → states_after flows count parts run ≡ Some later → AllLead parts later run
  commits_lead [] parts later shows below numbered given all =
      let same : parts ≡ later = cc all in
      subst (λ (l : ℕ → Partition). AllLead parts l []) same (record { shown_still = shows; comes = λ more. refl; goes_on = λ partition. refl })
  commits_lead (one ∷ run) parts later shows below numbered given all =
      let first = both_some (commit_accepted flows count parts one.partition one.entry) (λ x. states_after flows count (with_part parts one.partition x) run) later all in
      let next = with_part parts one.partition first.0 in
      let mine = subst (IsNumbered (state_next (parts one.partition))) (own one run) (numbered one.partition) in
      let lead = entry_leads one.entry parts one.partition first.0 shows below.0 mine.0 mine.1 given.0 first.1 in
      let goes : state_next first.0 ≡ behind one.entry = ap state_next (sym (part_here parts one.partition first.0)) ∙ lead.goes_on in
      let rest = commits_lead run next later lead.shown_still below.1 (λ partition. numbers partition first.0 (one.partition == partition) goes (numbered partition)) (given.1 first.0 first.1) first.2 in
      record {
        shown_still = rest.shown_still;
        comes = λ more.
            ap (after_from flows (shown flows count parts)) (append_assoc (labels_of one.entry.items) (labels_of_commits run) more)
            ∙ lead.comes (labels_of_commits run ++ more)
            ∙ rest.comes more;
        goes_on = λ partition. rest.goes_on partition ∙ sym (behinds partition first.0 (one.partition == partition) goes);
      }
    where
      own : (one : Commit) (run : List Commit) → of_partition one.partition (one ∷ run) ≡ one.entry ∷ of_partition one.partition run
      own one run = ap (λ (b : Bool). cond b (one.entry ∷ of_partition one.partition run) (of_partition one.partition run)) (self_eqb one.partition)

      at : (partition : ℕ) (x : Partition) (test : Bool) → Partition
      at partition x test = cond test x (parts partition)

      numbers : (partition : ℕ) (x : Partition) (test : Bool) → state_next x ≡ behind one.entry → IsNumbered (state_next (parts partition)) (cond test (one.entry ∷ of_partition partition run) (of_partition partition run))
          → IsNumbered (state_next (at partition x test)) (of_partition partition run)
      numbers partition x true goes is = subst (λ (n : Next). IsNumbered n (of_partition partition run)) (sym goes) is.2
      numbers partition x false goes is = is

      behinds : (partition : ℕ) (x : Partition) (test : Bool) → state_next x ≡ behind one.entry
          → behind_all (state_next (parts partition)) (cond test (one.entry ∷ of_partition partition run) (of_partition partition run)) ≡ behind_all (state_next (at partition x test)) (of_partition partition run)
      behinds partition x true goes = ap (λ (n : Next). behind_all n (of_partition partition run)) (sym goes)
      behinds partition x false goes = refl
