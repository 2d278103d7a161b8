-- Which log a partition has in its two log files.
use Rattle.std.specs.Prelude.{ℕ, ◌+◌, ◌*◌, ◌==◌, not, if◌then◌else◌, List, [], Option, Some, None}
use Rattle.dura_value.specs.Items.{Entry}
use Rattle.part_items.specs.Numbered.{Next}
use Rattle.part_items.specs.Kept.{Kept, nothing, broken, keeps, kept_in}

-- the numbers of a partition's log files
abbrev pub first_log : ℕ → ℕ
first_log partition = 16 + 4 * partition

abbrev pub second_log : ℕ → ℕ
second_log partition = 17 + 4 * partition

-- where a log's base position stands
abbrev pub base_place : ℕ
base_place = 25

-- what log files are read for: a partition, how many there are, and the digest of the flows file
pub record Asked : Type 0 where
  pub partition : ℕ
  pub count : ℕ
  pub digest : ℕ

-- the one partition, under the digest of the flows file
abbrev pub alone_with : (digest : ℕ) → Asked
alone_with digest = record { partition = 0; count = 1; digest = digest }

-- where the entries of a partition's log begin
abbrev pub first_next : Next
first_next = record { position = 0; incarnation = 0 }

-- why log files are refused: a file is damaged first at this offset, or is of so many partitions, or of flows with this digest
pub data Refusal : Type 0 where
  damaged_at : (file offset : ℕ) → Refusal
  other_shape : (found : ℕ) → Refusal
  other_flows : (found : ℕ) → Refusal

-- of one file its bytes are looked at first, then the number of partitions, then the digest
abbrev pub fault_of : Asked → (file : ℕ) → Kept → Option Refusal
fault_of asked file nothing = None
fault_of asked file (broken offset) = Some (damaged_at file offset)
fault_of asked file (keeps header entries gate) =
    if not (header.partitions == asked.count)
    then Some (other_shape header.partitions)
    else if not (header.digest == asked.digest)
    then Some (other_flows header.digest)
    else None

-- two logs with one base position: the second is damaged there
abbrev pub same_base : (file : ℕ) → Kept → Kept → Option Refusal
same_base file (keeps first some at) (keeps second more gate) = if first.base == second.base then Some (damaged_at file base_place) else None
same_base file first second = None

-- there is no checkpoint, so a log that begins behind position 0 is damaged there
abbrev pub late_base : (file : ℕ) → Kept → Option Refusal
late_base file (keeps header entries gate) = if header.base == 0 then None else Some (damaged_at file base_place)
late_base file other = None

abbrev pub or_else : {X : Type 0} → Option X → Option X → Option X
or_else None other = other
or_else (Some x) other = Some x

-- why two log files are refused: each for itself, the first first, and then for what ties them
abbrev pub first_fault : Asked → (first second : Kept) → Option Refusal
first_fault asked first second =
    let file = first_log asked.partition in
    let other = second_log asked.partition in
    or_else (fault_of asked file first) (or_else (fault_of asked other second) (or_else (same_base other first second) (or_else (late_base file first) (late_base other second))))

-- What a partition has in its log files: they are refused; or there is no log yet; or its log lies in this file, with these
-- entries, and the first closed gate at this offset.
pub data Logs : Type 0 where
  refused : (refusal : Refusal) → Logs
  no_log : Logs
  log_in : (file : ℕ) → (entries : List Entry) → (gate : ℕ) → Logs

-- the log of two files of which one has none
abbrev pub the_log : ℕ → (first second : Kept) → Logs
the_log partition (keeps header entries gate) second = log_in (first_log partition) entries gate
the_log partition first (keeps header entries gate) = log_in (second_log partition) entries gate
the_log partition first second = no_log

abbrev pub unless : Option Refusal → Logs → Logs
unless None found = found
unless (Some refusal) found = refused refusal

abbrev pub logs_of : Asked → (first second : Kept) → Logs
logs_of asked first second = unless (first_fault asked first second) (the_log asked.partition first second)

abbrev pub logs_in : Asked → (ℕ → List ℕ) → Logs
logs_in asked files = logs_of asked (kept_in asked.partition (files (first_log asked.partition))) (kept_in asked.partition (files (second_log asked.partition)))

-- the entries that are there, unless the files are refused
abbrev pub entries_in : Logs → Option (List Entry)
entries_in (refused refusal) = None
entries_in no_log = Some []
entries_in (log_in file entries gate) = Some entries
