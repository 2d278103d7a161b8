-- An item leaves the partition in its incarnation, and in its place.
use Rattle.std.proofs.Common.{◌≡◌, ◌∙◌, ◌==◌, ◌&&◌, ◌+◌, ◌++◌, ◌∷◌, [], length, cond, Bool, ◌<◌, ℕ, Some, None, refl, ap, sym}
use Rattle.std.specs.Prelude.{not, nat_lt, nat_le}
use Rattle.dura_value.specs.Ids.{home}
use Rattle.dura_value.specs.Items.{Item, took, got, ran, ended, fired, trim}
use Rattle.flow_syntax.specs.Syntax.{Flows}
use Rattle.dura_model.specs.Partition.{Partition, entry_of, with_inbox, accepted}
use Rattle.log_items.specs.Streams.{with_first}
use Rattle.dura_model.specs.Placed.{Belongs}
use Rattle.dura_model.proofs.Basics.{passed}
use Rattle.dura_model.proofs.Kept.{label_comes, item_belongs}
use Rattle.part_steps.specs.declared.state.PartState.{PartState}
use Rattle.part_steps.specs.States.{IsSound, state_of, count_of}

came_in : (test : Bool) (after next : Partition) (was : ℕ) → after.incarnation ≡ was → cond test (Some after) None ≡ Some next → next.incarnation ≡ was
came_in test after next was same is = sym (ap (λ (p : Partition). p.incarnation) (passed test after next is).1) ∙ same

same_incarnation : (flows : Flows) (count place : ℕ) (item : Item) (q next : Partition) → place < count → Belongs count place q → 0 < q.position → accepted flows count q item ≡ Some next → next.incarnation ≡ q.incarnation
same_incarnation flows count place (took message) q next below belongs begun is = (label_comes flows count place (took message) q next refl below belongs begun is).incarnation
same_incarnation flows count place (ran from to stamp) q next below belongs begun is = (label_comes flows count place (ran from to stamp) q next refl below belongs begun is).incarnation
same_incarnation flows count place (ended id task outcome) q next below belongs begun is = (label_comes flows count place (ended id task outcome) q next refl below belongs begun is).incarnation
same_incarnation flows count place (fired id task stamp) q next below belongs begun is = (label_comes flows count place (fired id task stamp) q next refl below belongs begun is).incarnation
same_incarnation flows count place (got source number message) q next below belongs begun is =
    came_in (not (source.partition == q.number) && (nat_lt source.partition count && (number == (q.inboxes source.partition).next && home count message.to == q.number)))
    (record q { queue = q.queue ++ message ∷ []; inboxes = with_inbox q.inboxes source.partition (record { next = number + 1; reader = entry_of q }) }) next q.incarnation refl is
same_incarnation flows count place (trim reader number) q next below belongs begun is =
    came_in (not (reader.partition == q.number) && (nat_lt reader.partition count && nat_le number ((q.outboxes reader.partition).first + length (q.outboxes reader.partition).messages)))
    (record q { outboxes = with_first q.outboxes reader.partition number }) next q.incarnation refl is

pub stays_in_incarnation : (flows : Flows) (item : Item) (old : PartState) (next : Partition) → IsSound old → 0 < (state_of old).position → accepted flows (count_of old) (state_of old) item ≡ Some next → next.incarnation ≡ (state_of old).incarnation
stays_in_incarnation flows item old next sound begun is = same_incarnation flows (count_of old) old.rows.number item (state_of old) next sound.below sound.belongs begun is

pub stays_in_place : (flows : Flows) (item : Item) (old : PartState) (next : Partition) → IsSound old → 0 < (state_of old).position → accepted flows (count_of old) (state_of old) item ≡ Some next → next.number ≡ (state_of old).number
stays_in_place flows item old next sound begun is = (item_belongs flows (count_of old) old.rows.number item (state_of old) next sound.below sound.belongs begun is).number
