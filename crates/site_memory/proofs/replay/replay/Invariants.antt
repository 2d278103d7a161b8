use Rattle.std.proofs.Common.{◌≤◌, take}
use Rattle.site_model.specs.History.{content_of}
use Rattle.site_memory.specs.Record.{history_of}
use Rattle.site_memory.specs.Place.{IsPlace, Shows}
use Rattle.site_memory.proofs.replay.replay.Given as goal

abbrev pub invariant-loop-entry : goal.invariant-loop-entry
invariant-loop-entry l = record {
  place : IsPlace l.place l.file (history_of (take l.entry-index l.kept));
  shows : Shows (content_of l.file (history_of (take l.entry-index l.kept))) l.at l.out;
  short : l.place.length ≤ l.entry-index;
}
