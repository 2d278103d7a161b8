-- Small worlds.
use Rattle.std.specs.Prelude.{false, true, [], ◌∷◌, None}
use Rattle.hub_store.specs.declared.way.Stage.{Stage}
use Rattle.hub_store.specs.declared.way.Stage.TheVariants as stages
use Rattle.hub_store.specs.declared.way.Way.TheVariants as ways
use Rattle.log_items.specs.declared.items.Packet.{Packet}
use Rattle.spec_tracker.specs.declared.marks.Marks.{Marks}
use Rattle.world_core.specs.World.{WorldView}

-- nothing was sent, nothing is known, and no frame is under way
abbrev pub empty : WorldView
empty = record {
  store = record { latest = 0; trail = []; told = []; going = λ partition. None; stage = λ partition. stages.Resting; floors = λ partition. [] };
  halted = false;
  cut = false;
  segment = 0;
  way = λ partition. ways.Away;
  cells = [];
  packets = [];
  marks = [];
  ended = false;
}

-- the life is over
abbrev pub over : WorldView
over = record empty { ended = true }

-- just this packet was sent
abbrev pub sent : Packet → WorldView
sent packet = record empty { packets = packet ∷ [] }

-- just this is known of the logs
abbrev pub known : Marks → WorldView
known marks = record empty { marks = marks ∷ [] }

-- each partition's frame came to this stage
abbrev pub staged : Stage → WorldView
staged stage = record empty { store = record empty.store { stage = λ partition. stage } }
