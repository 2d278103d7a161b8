-- What the files of one partition stand for, by its own entries alone.
use Rattle.std.proofs.Common.{◌≡◌, ◌<◌, ◌==◌, ◌&&◌, ℕ, Bool, true, List, [], ◌∷◌, ◌++◌, Some, Ok, refl, sym, ap, subst, ◌∙◌, append-nil, arith}
use Rattle.std.specs.Prelude.{nat_lt, nat_le, not, length, ◌+◌}
use Rattle.std.proofs.lemmas.Bool.{ltb-true, not-true, and_parts}
use Rattle.dura_value.specs.Ids.{home}
use Rattle.dura_value.specs.Items.{Item, took, got, ran, ended, fired, trim, Entry}
use Rattle.dura_value.proofs.Ids.{and_true}
use Rattle.flow_syntax.specs.Syntax.{Flows}
use Rattle.dura_model.specs.Partition.{Partition, fresh, enter, accepted, shown, with_part}
use Rattle.dura_model.specs.Steps.{Label}
use Rattle.dura_model.specs.World.{World}
use Rattle.dura_model.proofs.Basics.{passes, eqb_apart}
use Rattle.dura_model.specs.Entries as alone
use Rattle.dura_model.specs.Entries.{all_accepted, entry_accepted}
use Rattle.dura_model.specs.Legal.{Legal}
use Rattle.dura_model.proofs.Alone.{shown_alone}
use Rattle.dura_model.proofs.Appending.{both_placed}
use Rattle.many_logs.specs.Placing.{is_ready, are_ready, of_partition, placed, commits_at, AllReady, HasPlaced}
use Rattle.part_items.specs.Logs.{alone_with, logs_in, entries_in}
use Rattle.many_logs.specs.Stands.{asked_at, FilesStand}
use Rattle.many_logs.proofs.Streams.{item_grows, entry_grows}
use Rattle.many_logs.proofs.Apart.{part_here}
use Rattle.many_logs.proofs.Orders.{any_order}
use Rattle.many_logs.proofs.OrdersStand.{placed_in_order}
use Rattle.many_logs.proofs.Frames.{of_own, below_at}
use Rattle.many_logs.proofs.Own.{own_chain, chain_goes}
use Rattle.dura_value.proofs.Basics.{both_some}

-- The log has entries, all of them are accepted one after another, and the state that they make shows the world after the run, which is
-- legal.
pub record StandsAlone (flows : Flows) (digest : ℕ) (files : ℕ → List ℕ) (run : List Label) : Type 0 where
  pub entries : List Entry
  pub kept : entries_in (logs_in (alone_with digest) files) ≡ Some entries
  pub state : Partition
  pub all : alone.placed flows 1 (fresh 0) entries ≡ Ok state
  pub legal : Legal flows run (alone.shown_by flows state)

-- there is no other partition
no_other : (p : Partition) (other : ℕ) (more : Bool) → p.number ≡ 0 → (not (other == p.number) && (nat_lt other 1 && more)) ≡ true → ⊥
no_other p other more number passes_it =
    let parts = and_parts (not (other == p.number)) (nat_lt other 1 && more) passes_it in
    let below : other < 1 = ltb-true other 1 (and_parts (nat_lt other 1) more parts.1).0 in
    let same : other ≡ p.number = omega (arith, below, number) in
    eqb_apart other p.number (not-true (other == p.number) parts.0) same

item_ready : (flows : Flows) (parts : ℕ → Partition) (item : Item) (p next : Partition) → p.number ≡ 0 → accepted flows 1 p item ≡ Some next → is_ready parts 0 item ≡ true
item_ready flows parts (took message) p next number is = refl
item_ready flows parts (ran from to stamp) p next number is = refl
item_ready flows parts (ended id task outcome) p next number is = refl
item_ready flows parts (fired id task stamp) p next number is = refl
item_ready flows parts (got source at message) p next number is = absurd (no_other p source.partition (at == (p.inboxes source.partition).next && home 1 message.to == p.number) number (passes _ _ next is).0)
item_ready flows parts (trim reader at) p next number is =
    absurd (no_other p reader.partition (nat_le at ((p.outboxes reader.partition).first + length (p.outboxes reader.partition).messages)) number (passes _ _ next is).0)

items_ready : (flows : Flows) (parts : ℕ → Partition) (items : List Item) (p next : Partition) → p.number ≡ 0 → all_accepted flows 1 p items ≡ Some next → are_ready parts 0 items ≡ true
items_ready flows parts [] p next number is = refl
items_ready flows parts (item ∷ items) p next number is =
    let first = both_some (accepted flows 1 p item) (λ q. all_accepted flows 1 q items) next is in
    and_true (is_ready parts 0 item) (are_ready parts 0 items) (item_ready flows parts item p first.0 number first.1) (items_ready flows parts items first.0 next ((item_grows flows 1 item p first.0 first.1).number ∙ number) first.2)

all_ready : (flows : Flows) (parts : ℕ → Partition) (entries : List Entry) (p q : Partition) → p.number ≡ 0 → alone.placed flows 1 p entries ≡ Ok q → AllReady parts 0 entries
all_ready flows parts [] p q number made = tt
all_ready flows parts (entry ∷ entries) p q number made =
    let first = both_placed entry.position (entry_accepted flows 1 p entry) (λ next. alone.placed flows 1 next entries) q made in
    (items_ready flows parts entry.items (enter entry.incarnation p) first.0 number first.1, all_ready flows parts entries first.0 q ((entry_grows flows 1 entry p first.0 first.1).number ∙ number) first.2)

-- where a log's entries are all accepted, none of them is left
pub none_left : (flows : Flows) (entries : List Entry) (state : Partition) (logs : ℕ → List Entry) → logs 0 ≡ entries → alone.placed flows 1 (fresh 0) entries ≡ Ok state → HasPlaced 1 (placed flows 1 logs) (with_part fresh 0 state) (λ partition. [])
none_left flows entries state logs its all =
    any_order flows 1 (commits_at 0 entries) logs (with_part fresh 0 state) (below_at 1 0 entries (omega arith)) (chain_goes flows 1 entries fresh 0 state (all_ready flows fresh entries (fresh 0) state refl all) all)
    (λ partition below. let is : 0 ≡ partition = omega (arith, below) in subst (λ (p : ℕ). logs p ≡ of_partition p (commits_at 0 entries)) is (its ∙ sym (of_own 0 entries)))

pub stands_among : (flows : Flows) (digest : ℕ) (files : ℕ → List ℕ) (run : List Label) → StandsAlone flows digest files run → FilesStand flows 1 digest files run
stands_among flows digest files run stands =
    let logs : ℕ → List Entry = λ partition. of_partition partition (commits_at 0 stands.entries) in
    let final = with_part fresh 0 stands.state in
    let they = none_left flows stands.entries stands.state logs (of_own 0 stands.entries) stands.all in
    record {
      logs = logs;
      kept = λ partition below. let is : 0 ≡ partition = omega (arith, below) in subst (λ (p : ℕ). Kept p) is (stands.kept ∙ ap (λ (l : List Entry). Some l) (sym (of_own 0 stands.entries)));
      none_left = they.left;
      legal = stands.legal ∙ ap (λ (w : World). Some w) (sym (ap (shown flows 1) they.states ∙ shown_alone flows final stands.state (part_here fresh 0 stands.state)));
    }
  where
    Kept : ℕ → Type 0
    Kept partition = entries_in (logs_in (asked_at 1 digest partition) files) ≡ Some (of_partition partition (commits_at 0 stands.entries))

pub stands_alone : (flows : Flows) (digest : ℕ) (files : ℕ → List ℕ) (run : List Label) → FilesStand flows 1 digest files run → StandsAlone flows digest files run
stands_alone flows digest files run stands =
    let order = placed_in_order flows 1 stands.logs in
    let states = (placed flows 1 stands.logs).states in
    let its : stands.logs 0 ≡ of_partition 0 order.run = order.left 0 ∙ ap (λ (l : List Entry). of_partition 0 order.run ++ l) (stands.none_left 0 (omega arith)) ∙ append-nil (of_partition 0 order.run) in
    record {
      entries = stands.logs 0;
      kept = stands.kept 0 (omega arith);
      state = states 0;
      all = ap (λ (l : List Entry). alone.placed flows 1 (fresh 0) l) its ∙ own_chain flows 1 order.run fresh states 0 order.all;
      legal = stands.legal ∙ ap (λ (w : World). Some w) (shown_alone flows states (states 0) refl);
    }
