-- Where a life goes on, as the call picks it that begins it.
use Rattle.std.specs.Prelude.{ℕ, ◌==◌, ◌&&◌, List, [], map, Bool, nat_le, if◌then◌else◌, slice_index_or, Result, Ok, Err}
use Rattle.commit_log.specs.declared.header.Header.{Header}
use Rattle.commit_log.specs.declared.states.Resting.{Resting}
use Rattle.commit_log.specs.Segment.{Reading, fresh, damaged, segment, first_gate, reading_of}
use Rattle.dura_model.specs.Partition.{Partition}
use Rattle.dura_value.specs.Items.{Entry}
use Rattle.hub_store.specs.Frames.{goes_on}
use Rattle.hub_store.specs.Origin.{Log, Origin}
use Rattle.many_rules.specs.Leaves.{header_at}
use Rattle.part_items.specs.Kept.{first_of, decoded}
use Rattle.part_items.specs.Logs.{first_log, second_log}
use Rattle.part_steps.specs.States.{parts_in}
use Rattle.open_logs.specs.declared.begun.Begun.{Begun}
use Rattle.site_model.specs.History.{Step, content_of}

-- the payloads behind a file's open gates
abbrev pub payloads_of : Reading → List (List ℕ)
payloads_of fresh = []
payloads_of (damaged offset) = []
payloads_of (segment h payloads gate) = payloads

-- a log in this file with these payloads, which are read as this
abbrev pub log_of : Header → (file : ℕ) → List (List ℕ) → Result (List Entry) ℕ → Log
log_of header file payloads (Ok entries) = record { file = file; header = header; payloads = payloads; entries = entries }
log_of header file payloads (Err offset) = record { file = file; header = header; payloads = []; entries = [] }

abbrev pub log_with : Header → (file : ℕ) → List (List ℕ) → Log
log_with header file payloads = log_of header file payloads (decoded first_gate (first_of header) payloads)

-- whether a log goes on where a state does: at its position, in no later incarnation
abbrev pub goes_on_at : Log → Partition → Bool
goes_on_at log state = ((goes_on log []).position == state.position) && nat_le (goes_on log []).incarnation state.incarnation

-- a log without entries that begins at this position
abbrev pub log_at : Log → (position : ℕ) → Log
log_at log position = record { file = log.file; header = record log.header { base = position }; payloads = []; entries = [] }

-- the log, where it goes on where the state does; else one without entries that begins there
abbrev pub log_from : Log → Partition → Log
log_from log state = if goes_on_at log state then log else log_at log state.position

-- the one of a partition's log files that this is, and the first where it is none
abbrev pub file_picked : (partition file : ℕ) → ℕ
file_picked partition file = if file == second_log partition then second_log partition else first_log partition

-- the log that a partition's file has by now, where it goes on where the state does
abbrev pub log_in_file : (count digest partition file : ℕ) → List Step → Partition → Log
log_in_file count digest partition file steps state = log_from (log_with (header_at count digest partition) file (payloads_of (reading_of (content_of file steps)))) state

abbrev pub log_picked : (count digest partition file : ℕ) → List Step → Partition → Log
log_picked count digest partition file steps state = log_in_file count digest partition (file_picked partition file) steps state

-- the log of each partition, by its state and the file in which it rests
abbrev pub origin_picked : (count digest : ℕ) → (files : ℕ → ℕ) → List Step → (states : ℕ → Partition) → Origin
origin_picked count digest files steps states = record { count = count; logs = λ partition. log_picked count digest partition (files partition) steps (states partition); steps = steps }

-- the files of logs in the order of the partitions
abbrev pub files_of : List Resting → ℕ → ℕ
files_of logs partition = slice_index_or (map (λ log. log.file) logs) partition (first_log partition)

-- the origin of a life
abbrev pub origin_of : (count digest : ℕ) → List Step → Begun → Origin
origin_of count digest steps begun = origin_picked count digest (files_of begun.logs.items) steps (parts_in begun.states.items)
