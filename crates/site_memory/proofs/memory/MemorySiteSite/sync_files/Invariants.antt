use Rattle.std.proofs.Common.{◌≡◌, take}
use Rattle.site_model.specs.History.{syncing}
use Rattle.site_memory.specs.Memory.{memory_history, memory_disk_faults, memory_say_faults}
use Rattle.site_memory.proofs.memory.MemorySiteSite.sync_files.Given as goal

abbrev pub invariant-loop-file : goal.invariant-loop-file
invariant-loop-file l = record {
  history : memory_history l.self ≡ syncing (take l.file-index l.files) (memory_history l.initial.self);
  disk_faults : memory_disk_faults l.self ≡ memory_disk_faults l.initial.self;
  say_faults : memory_say_faults l.self ≡ memory_say_faults l.initial.self;
}
