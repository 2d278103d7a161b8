-- The plain data that items, entries and frames stand for.
use Rattle.std.specs.Prelude.{List, map}
use Rattle.log_items.specs.declared.items.Item.{Item}
use Rattle.log_items.specs.declared.items.Item.TheVariants.{Took, Got, Ran, Done, Fired, Trim}
use Rattle.log_items.specs.declared.frames.Entry.{Entry}
use Rattle.dura_value.specs.Views.{id_of, message_of}
use Rattle.dura_value.specs.Items as plain

abbrev pub item_of : Item → plain.Item
item_of (Took message) = plain.took (message_of message)
item_of (Got src inc pos seq message) = plain.got (record { partition = src; incarnation = inc; position = pos }) seq (message_of message)
item_of (Ran from to stamp) = plain.ran (id_of from) (id_of to) stamp
item_of (Done id task outcome) = plain.ended (id_of id) task outcome
item_of (Fired id task stamp) = plain.fired (id_of id) task stamp
item_of (Trim dst upto inc pos) = plain.trim (record { partition = dst; incarnation = inc; position = pos }) upto

abbrev pub items_of : List Item → List plain.Item
items_of = map item_of

abbrev pub entry_of : Entry → plain.Entry
entry_of entry = record { position = entry.position; incarnation = entry.incarnation; items = items_of entry.items }

abbrev pub entries_of : List Entry → List plain.Entry
entries_of = map entry_of
