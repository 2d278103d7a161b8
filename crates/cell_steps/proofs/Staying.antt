-- An item leaves a state in its partition and its entry.
use Rattle.std.proofs.Common.{◌≡◌, ◌<◌, ◌&&◌, ℕ, Bool, true, false, cond, List, [], ◌∷◌, ◌++◌, Some, None, refl, sym, subst}
use Rattle.std.specs.Prelude.{not, nat_le, nat_lt, length, ◌==◌, ◌+◌}
use Rattle.dura_model.proofs.Joining.{label_joins, same_entry_then}
use Rattle.dura_model.specs.Entries.{all_accepted}
use Rattle.dura_model.specs.Partition.{Partition, accepted, entry_of, with_inbox}
use Rattle.dura_model.specs.Placed.{IsSameEntry}
use Rattle.dura_value.proofs.Basics.{both_some}
use Rattle.dura_value.specs.Ids.{home}
use Rattle.dura_value.specs.Items.{Item, took, got, ran, ended, fired, trim}
use Rattle.flow_syntax.specs.Syntax.{Flows}
use Rattle.log_items.specs.Streams.{with_first}

pub still_there : (p : Partition) → IsSameEntry p p
still_there p = record { number = refl; position = refl; incarnation = refl }

-- where a test passed
passed_so : (b : Bool) (p q r : Partition) → IsSameEntry p r → cond b (Some r) None ≡ Some q → IsSameEntry p q
passed_so true p q r same is = let made : r ≡ q = cc is in subst (IsSameEntry p) made same
passed_so false p q r same is = absurd (cc is)

module _ (flows : Flows) (count : ℕ) where
  pub item_stays : (p q : Partition) (item : Item) → p.number < count → accepted flows count p item ≡ Some q → IsSameEntry p q
  item_stays p q (took message) below is = (label_joins count p.number (entry_of p) flows below (took message) p q refl (record { number = refl; entry = refl }) is).same
  item_stays p q (got source number message) below is =
      passed_so (not (source.partition == p.number) && (nat_lt source.partition count && (number == (p.inboxes source.partition).next && home count message.to == p.number)))
      p q (record p { queue = p.queue ++ message ∷ []; inboxes = with_inbox p.inboxes source.partition (record { next = number + 1; reader = entry_of p }) }) (record { number = refl; position = refl; incarnation = refl }) is
  item_stays p q (ran from to stamp) below is = (label_joins count p.number (entry_of p) flows below (ran from to stamp) p q refl (record { number = refl; entry = refl }) is).same
  item_stays p q (ended id task outcome) below is = (label_joins count p.number (entry_of p) flows below (ended id task outcome) p q refl (record { number = refl; entry = refl }) is).same
  item_stays p q (fired id task stamp) below is = (label_joins count p.number (entry_of p) flows below (fired id task stamp) p q refl (record { number = refl; entry = refl }) is).same
  item_stays p q (trim reader number) below is =
      passed_so (not (reader.partition == p.number) && (nat_lt reader.partition count && nat_le number ((p.outboxes reader.partition).first + length (p.outboxes reader.partition).messages)))
      p q (record p { outboxes = with_first p.outboxes reader.partition number }) (record { number = refl; position = refl; incarnation = refl }) is

  pub items_stay : (items : List Item) (p q : Partition) → p.number < count → all_accepted flows count p items ≡ Some q → IsSameEntry p q
  items_stay [] p q below is = let same : p ≡ q = cc is in subst (IsSameEntry p) same (still_there p)
  items_stay (item ∷ items) p q below is =
      let first = both_some (accepted flows count p item) (λ next. all_accepted flows count next items) q is in
      let one = item_stays p first.0 item below first.1 in
      let number = one.number in
      same_entry_then p first.0 q one (items_stay items first.0 q (subst (λ (n : ℕ). n < count) (sym one.number) below) first.2)
