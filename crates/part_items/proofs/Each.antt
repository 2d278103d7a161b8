-- What holds of each member holds of the one at a place.
use Rattle.std.proofs.Common.{◌<◌, ℕ, List, length, get_or, map, subst, arith}
use Rattle.std.specs.List.{All}
use Rattle.std.proofs.lemmas.List.{get_or-map, length-map}
use Rattle.std.proofs.lemmas.List.Elements.{All-get_or}
use Rattle.log_items.specs.declared.items.Item.{Item}
use Rattle.log_items.specs.declared.frames.Entry.{Entry}
use Rattle.log_items.specs.Plain.{item_of, items_of, entry_of, entries_of}
use Rattle.part_items.specs.Spelling.{CanSpellItem, CanSpellEntry}

at_place : {X Y : Type 0} (P : Y → Type 0) (f : X → Y) (xs : List X) (i : ℕ) (d : X) → i < length xs → All P (map f xs) → P (f (get_or xs i d))
at_place P f xs i d within all = subst P (get_or-map f xs i d (f d) within) (All-get_or P (map f xs) i (f d) (omega (arith, length-map xs f)) all)

pub each_item : (items : List Item) (i : ℕ) (d : Item) → i < length items → All CanSpellItem (items_of items) → CanSpellItem (item_of (get_or items i d))
each_item items i d within all = at_place CanSpellItem item_of items i d within all

pub each_entry : (entries : List Entry) (i : ℕ) (d : Entry) → i < length entries → All CanSpellEntry (entries_of entries) → CanSpellEntry (entry_of (get_or entries i d))
each_entry entries i d within all = at_place CanSpellEntry entry_of entries i d within all
