-- The plain data that a partition's rows and streams stand for.
use Rattle.std.specs.Prelude.{◌≡◌, ℕ, [], map, Option, Some, None, slice_get}
use Rattle.std.specs.BTreeMap.{get}
use Rattle.std.specs.Ordering.{nat_cmp}
use Rattle.dura_value.specs.Ids as ids
use Rattle.dura_value.specs.Items.{Posted}
use Rattle.dura_value.specs.Views.{identity_of, posted_of, id_of}
use Rattle.flow_messages.specs.Views.{past_of}
use Rattle.dura_model.specs.World as world
use Rattle.dura_model.specs.Partition as plain
use Rattle.log_items.specs.Streams as streams
use Rattle.part_rows.specs.declared.rows.Waiting.{Waiting}
use Rattle.part_rows.specs.declared.rows.Row.{Row}
use Rattle.part_rows.specs.declared.rows.Activity.{Activity}
use Rattle.part_rows.specs.declared.streams.Outbox.{Outbox}
use Rattle.part_rows.specs.declared.streams.Inbox.{Inbox}
use Rattle.part_rows.specs.declared.streams.Outboxes.{Outboxes}
use Rattle.part_rows.specs.declared.streams.Inboxes.{Inboxes}

abbrev pub waiting_of : Waiting → ids.Id × ℕ
waiting_of one = (id_of one.client, one.number)

abbrev pub row_of : Row → plain.Row
row_of row = record { stamp = row.stamp; history = map past_of row.history; waiting = map waiting_of row.waiting.items }

abbrev pub activity_of : Activity → world.Activity
activity_of one = record { name = one.name; argument = one.argument }

abbrev pub outbox_of : Outbox → streams.Outbox
outbox_of box = record { first = box.first; messages = map posted_of box.messages }

abbrev pub inbox_of : Inbox → plain.Inbox
inbox_of box = record { next = box.next; reader = identity_of box.reader }

-- a stream that has not begun
abbrev pub outbox_or_new : Option Outbox → streams.Outbox
outbox_or_new None = record { first = 0; messages = [] }
outbox_or_new (Some box) = outbox_of box

abbrev pub inbox_or_new : Option Inbox → plain.Inbox
inbox_or_new None = record { next = 0; reader = plain.nobody }
inbox_or_new (Some box) = inbox_of box

abbrev pub outboxes_of : Outboxes → ℕ → streams.Outbox
outboxes_of boxes target = outbox_or_new (get nat_cmp boxes.boxes target)

abbrev pub inboxes_of : Inboxes → ℕ → plain.Inbox
inboxes_of boxes source = inbox_or_new (get nat_cmp boxes.boxes source)

abbrev pub no_outbox : ℕ → streams.Outbox
no_outbox target = record { first = 0; messages = [] }

abbrev pub no_inbox : ℕ → plain.Inbox
no_inbox source = record { next = 0; reader = plain.nobody }

-- what is left of the streams was sent by entries of this partition
abbrev pub AreSentBy : (number : ℕ) → (ℕ → streams.Outbox) → Type 0
AreSentBy number boxes = (target place : ℕ) (posted : Posted) → slice_get (boxes target).messages place ≡ Some posted → posted.entry.partition ≡ number
