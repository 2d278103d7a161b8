-- Which events can't happen.
use Rattle.std.specs.Prelude.{ℕ, Bool, true, false, ◌==◌, ◌||◌, not, ◌^◌, ◌+◌, ◌-◌, List, length, nat_lt, nat_le, Option, Some, None}
use Rattle.std.specs.List.{slice_get}
use Rattle.activity_table.specs.Table.{may}
use Rattle.hub_store.specs.declared.way.Stage.{Stage}
use Rattle.hub_store.specs.declared.way.Stage.TheVariants as stages
use Rattle.hub_store.specs.Ways.{is_open}
use Rattle.log_items.specs.declared.items.Packet.{Packet}
use Rattle.spec_tracker.specs.declared.marks.Marks.{Marks}
use Rattle.world_core.specs.World.{WorldView}
use Rattle.world_core.specs.declared.event.Event.{Event}
use Rattle.world_core.specs.declared.event.Event.TheVariants as events

-- there is no such packet, or it goes to another partition
abbrev pub is_not_to : (partition : ℕ) → Option Packet → Bool
is_not_to partition None = true
is_not_to partition (Some packet) = not (packet.dst == partition)

-- a partition's frame is written, and not yet safe
abbrev pub is_bodied : Stage → Bool
is_bodied stages.Bodied = true
is_bodied other = false

-- it is safe, behind its closed gate
abbrev pub is_synced : Stage → Bool
is_synced stages.Synced = true
is_synced other = false

-- where what was known of the logs stands, so many changes ago
abbrev pub place_ago : List Marks → (ago : ℕ) → ℕ
place_ago marks ago = length marks - (ago + 1)

-- an event names a partition, a node, a packet or marks that aren't there, a limit or a moment out of range, or an outcome that its
-- activity can't give
abbrev pub names_nothing : (count nodes : ℕ) → WorldView → Event → Bool
names_nothing count nodes w (events.Submit message) = false
names_nothing count nodes w (events.Arrive partition packet) = nat_le count partition || is_not_to partition (slice_get w.packets packet)
names_nothing count nodes w (events.Turn partition limit) = nat_le count partition || (limit == 0) || nat_lt 64 limit
names_nothing count nodes w (events.Body partition ago) = nat_le count partition || nat_le (length w.marks) ago
names_nothing count nodes w (events.SyncBody partition) = nat_le count partition
names_nothing count nodes w (events.Gate partition) = nat_le count partition
names_nothing count nodes w (events.Settle partition) = nat_le count partition
names_nothing count nodes w (events.Judge partition ago) = nat_le count partition || nat_le (length w.marks) ago
names_nothing count nodes w (events.Outcome partition ended) = nat_le count partition || not (may ended.activity.name ended.activity.argument ended.outcome)
names_nothing count nodes w (events.Fire partition now) = nat_le count partition || nat_le (2 ^ 63) now
names_nothing count nodes w (events.Trim partition ago) = nat_le count partition || nat_le (length w.marks) ago
names_nothing count nodes w (events.Stop node) = nat_le nodes node
names_nothing count nodes w (events.Own partition node) = nat_le count partition || nat_le nodes node
names_nothing count nodes w (events.Say client number) = false
names_nothing count nodes w events.Image = false

-- the partition's frame hasn't come to the call that an event makes
abbrev pub has_no_frame : WorldView → Event → Bool
has_no_frame w (events.SyncBody partition) = not (is_bodied (w.store.stage partition))
has_no_frame w (events.Gate partition) = not (is_synced (w.store.stage partition))
has_no_frame w (events.Settle partition) = not (is_open (w.store.stage partition))
has_no_frame w other = false

-- an event can't happen where the life is over, where it names what isn't there, and where there is no frame for it
abbrev pub is_unmet : (count nodes : ℕ) → WorldView → Event → Bool
is_unmet count nodes w event = w.ended || (names_nothing count nodes w event || has_no_frame w event)

-- whether an outcome is looked at, for which memory may be wanting
abbrev pub is_outcome : Event → Bool
is_outcome (events.Outcome partition ended) = true
is_outcome other = false
