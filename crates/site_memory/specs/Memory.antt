-- What a site in memory is seen as.
use Rattle.std.specs.Prelude.{ℕ, List, slice_index}
use Rattle.site_model.specs.History.{Step}
use Rattle.site_memory.specs.declared.memory.MemorySite.{MemorySite}
use Rattle.site_memory.specs.declared.plan.Kind.{Kind}
use Rattle.site_memory.specs.Kinds.{slot_of}
use Rattle.site_memory.specs.Record.{history_of}

-- what has happened so far, the newest step first
abbrev pub memory_history : MemorySite → List Step
memory_history site = history_of site.record.kept.items

-- how often a length, a read, a write or a sync has failed
abbrev pub memory_disk_faults : MemorySite → ℕ
memory_disk_faults site = site.disk_faults

-- how often saying a line has failed
abbrev pub memory_say_faults : MemorySite → ℕ
memory_say_faults site = site.say_faults

-- how many more bytes it has room for
abbrev pub bytes_left : MemorySite → ℕ
bytes_left site = site.record.bytes

-- how many more writes, syncs and lines it has room for
abbrev pub calls_left : MemorySite → ℕ
calls_left site = site.record.calls

-- how many bytes it was made with room for
abbrev pub bytes_at_first : MemorySite → ℕ
bytes_at_first site = site.bytes

-- how many writes, syncs and lines it was made with room for
abbrev pub calls_at_first : MemorySite → ℕ
calls_at_first site = site.calls

-- how many calls of a kind there were
abbrev pub calls_of : Kind → MemorySite → ℕ
calls_of kind site = slice_index site.plan.calls (slot_of kind)
