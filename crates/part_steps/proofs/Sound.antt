-- The state of a partition stays sound.
use Rattle.std.proofs.Common.{◌≡◌, ◌∙◌, ◌==◌, ◌&&◌, ◌+◌, ◌++◌, ◌∷◌, [], length, cond, Bool, ◌<◌, ◌≤◌, ℕ, Some, None, refl, ap, sym, subst}
use Rattle.flow_syntax.specs.Syntax.{Flows}
use Rattle.std.specs.Prelude.{not, nat_lt, nat_le}
use Rattle.dura_value.specs.Ids.{home}
use Rattle.dura_value.specs.Items.{Item, took, got, ran, ended, fired, trim}
use Rattle.part_rows.specs.Timers.{InOrder}
use Rattle.dura_model.specs.Partition.{Partition, fresh, enter, entry_of, with_inbox, accepted}
use Rattle.log_items.specs.Streams.{with_first}
use Rattle.dura_model.specs.Placed.{Belongs, AreOfInstances}
use Rattle.dura_model.proofs.Kept.{item_belongs, fresh_belongs, label_comes}
use Rattle.dura_model.proofs.Belonging.{enter_belongs}
use Rattle.dura_model.proofs.Basics.{passed}
use Rattle.dura_model.proofs.Owned.{item_owned, fresh_owned}
use Rattle.part_rows.specs.Parts.{part_of}
use Rattle.part_rows.specs.declared.parts.PartRows.{PartRows}
use Rattle.part_steps.specs.States.{AreSound}

pub fresh_sound : (rows : PartRows) (number : ℕ) → rows.number < rows.partitions → rows.number ≡ number → InOrder rows.timers → part_of rows ≡ fresh number → AreSound rows
fresh_sound rows number below is order seen = record {
  order = order;
  below = below;
  belongs = subst (λ (p : Partition). Belongs rows.partitions rows.number p) (sym seen) (subst (λ (n : ℕ). Belongs rows.partitions rows.number (fresh n)) is (fresh_belongs rows.partitions rows.number));
  owned = subst AreOfInstances (sym seen) (fresh_owned number);
}

pub entered_sound : (old new : PartRows) (incarnation : ℕ) → AreSound old → old.incarnation ≤ incarnation → InOrder new.timers → new.number ≡ old.number → new.partitions ≡ old.partitions
    → part_of new ≡ enter incarnation (part_of old) → AreSound new
entered_sound old new incarnation sound young order number partitions seen = record {
  order = order;
  below = subst (λ (n : ℕ). n < new.partitions) (sym number) (subst (λ (k : ℕ). old.number < k) (sym partitions) sound.below);
  belongs = subst (λ (n : ℕ). Belongs new.partitions n (part_of new)) (sym number) (subst (λ (k : ℕ). Belongs k old.number (part_of new)) (sym partitions)
      (subst (λ (p : Partition). Belongs old.partitions old.number p) (sym seen) (enter_belongs old.partitions old.number (part_of old) incarnation sound.belongs young)));
  owned = subst AreOfInstances (sym seen) (record { pending = sound.owned.pending; due = sound.owned.due });
}

pub applied_sound : (old new : PartRows) (flows : Flows) (item : Item) → AreSound old → 0 < old.position → InOrder new.timers → new.partitions ≡ old.partitions
    → accepted flows old.partitions (part_of old) item ≡ Some (part_of new) → AreSound new
applied_sound old new flows item sound begun order partitions is =
    let belongs = item_belongs flows old.partitions old.number item (part_of old) (part_of new) sound.below sound.belongs begun is in
    let number : new.number ≡ old.number = belongs.number in
    record {
      order = order;
      below = subst (λ (n : ℕ). n < new.partitions) (sym number) (subst (λ (k : ℕ). old.number < k) (sym partitions) sound.below);
      belongs = subst (λ (n : ℕ). Belongs new.partitions n (part_of new)) (sym number) (subst (λ (k : ℕ). Belongs k old.number (part_of new)) (sym partitions) belongs);
      owned = item_owned flows old.partitions item (part_of old) (part_of new) sound.owned is;
    }

-- rows that stand for the same are as sound
pub same_sound : (old new : PartRows) → AreSound old → InOrder new.timers → new.partitions ≡ old.partitions → part_of new ≡ part_of old → AreSound new
same_sound old new sound order partitions seen =
    let number : new.number ≡ old.number = ap (λ (p : Partition). p.number) seen in
    record {
      order = order;
      below = subst (λ (n : ℕ). n < new.partitions) (sym number) (subst (λ (k : ℕ). old.number < k) (sym partitions) sound.below);
      belongs = subst (λ (n : ℕ). Belongs new.partitions n (part_of new)) (sym number) (subst (λ (k : ℕ). Belongs k old.number (part_of new)) (sym partitions)
          (subst (λ (p : Partition). Belongs old.partitions old.number p) (sym seen) sound.belongs));
      owned = subst AreOfInstances (sym seen) sound.owned;
    }

came_in : (test : Bool) (after next : Partition) (was : ℕ) → after.position ≡ was → cond test (Some after) None ≡ Some next → next.position ≡ was
came_in test after next was same is = sym (ap (λ (p : Partition). p.position) (passed test after next is).1) ∙ same

-- an item leaves the partition in its entry
pub same_entry : (flows : Flows) (count place : ℕ) (item : Item) (q next : Partition) → place < count → Belongs count place q → 0 < q.position → accepted flows count q item ≡ Some next → next.position ≡ q.position
same_entry flows count place (took message) q next below belongs begun is = (label_comes flows count place (took message) q next refl below belongs begun is).position
same_entry flows count place (ran from to stamp) q next below belongs begun is = (label_comes flows count place (ran from to stamp) q next refl below belongs begun is).position
same_entry flows count place (ended id task outcome) q next below belongs begun is = (label_comes flows count place (ended id task outcome) q next refl below belongs begun is).position
same_entry flows count place (fired id task stamp) q next below belongs begun is = (label_comes flows count place (fired id task stamp) q next refl below belongs begun is).position
same_entry flows count place (got source number message) q next below belongs begun is =
    came_in (not (source.partition == q.number) && (nat_lt source.partition count && (number == (q.inboxes source.partition).next && home count message.to == q.number)))
    (record q { queue = q.queue ++ message ∷ []; inboxes = with_inbox q.inboxes source.partition (record { next = number + 1; reader = entry_of q }) }) next q.position refl is
same_entry flows count place (trim reader number) q next below belongs begun is =
    came_in (not (reader.partition == q.number) && (nat_lt reader.partition count && nat_le number ((q.outboxes reader.partition).first + length (q.outboxes reader.partition).messages)))
    (record q { outboxes = with_first q.outboxes reader.partition number }) next q.position refl is
