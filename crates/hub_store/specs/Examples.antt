-- How things stand while an answer is said that waits for a commit, where no partition has a log, and how where one has, by
-- example.
use Rattle.std.specs.Prelude.{◌≡◌, ◌<◌, ℕ, List, [], ◌∷◌, length, codes}
use Rattle.site_model.specs.History.{Step, on, said, synced, wrote, changes_of}
use Rattle.dura_value.specs.Items.{Entry}
use Rattle.part_items.specs.Examples.{digest, empty_log}
use Rattle.hub_store.specs.Origin.{no_entry, Origin}
use Rattle.hub_store.specs.Trail.{Settled, Said}
use Rattle.hub_store.specs.Moments.{WroteGate, SaidSoFar, StandsWith, StoreStands, AtEveryMoment}

abbrev pub nowhere : Origin
nowhere = record {
  count = 0;
  logs = λ partition. no_entry 16;
  steps = [];
}

-- a frame of one entry, and what is settled where it was in this partition, at this moment
abbrev pub entry : Entry
entry = record { position = 0; incarnation = 0; items = [] }

abbrev pub frame : List Entry
frame = entry ∷ []

abbrev pub settled_in : (partition moment : ℕ) → List Settled
settled_in partition moment = record { partition = partition; entry = entry; at = moment } ∷ []

abbrev pub settled_when : (moment : ℕ) → List Settled
settled_when = settled_in 0

-- client a's request 1, and its answer
abbrev pub request : Said
request = record { client = codes "a"; number = 1 }

abbrev pub answer : List ℕ
answer = 65 ∷ 10 ∷ []

-- any frame of partition 0 may follow, and the answer may be said once an entry was settled
abbrev pub MayFollow : List Settled → List Said → ℕ → List Entry → Type 0
MayFollow trail told partition going = partition ≡ 0

abbrev pub MaySay : List Settled → List Said → Said → List ℕ → Type 0
MaySay trail told one line = (0 < length trail) × (line ≡ answer)

-- half of the answer was said, and all of it
abbrev pub speaking : List Step
speaking = said 65 ∷ []

abbrev pub spoken : List Step
spoken = said 10 ∷ said 65 ∷ []

-- a file that is no log was made safe
abbrev pub other_file : List Step
other_file = on 3 synced ∷ []

abbrev pub IsTold : List Settled → List Said → List ℕ → Type 0
IsTold = SaidSoFar MayFollow MaySay

abbrev pub Stand : List Step → List Settled → Type 0
Stand = StoreStands MayFollow MaySay nowhere

abbrev pub StandWith : List Step → List Settled → List Said → List ℕ → Type 0
StandWith = StandsWith MayFollow MaySay nowhere

abbrev pub StandAlways : List Step → List Settled → Type 0
StandAlways = AtEveryMoment MayFollow MaySay nowhere

-- ---- with a log

-- the log was written, without entries, and made safe
abbrev pub log_written : List Step
log_written = on 16 synced ∷ on 16 (wrote 0 34 empty_log) ∷ []

-- then its gate was opened, with no frame behind it
abbrev pub gate_opened : List Step
gate_opened = on 16 (wrote 33 1 (0xC3 ∷ [])) ∷ log_written

-- and synced, and once more
abbrev pub gate_synced : List Step
gate_synced = on 16 synced ∷ on 16 synced ∷ gate_opened

abbrev pub one_log : Origin
one_log = record {
  count = 1;
  logs = λ partition. record { file = 16; header = record { partition = 0; partitions = 1; digest = digest; base = 0 }; payloads = []; entries = [] };
  steps = log_written;
}

abbrev pub LogStands : List Step → List Settled → Type 0
LogStands steps trail = StandsWith MayFollow MaySay one_log steps trail [] []

abbrev pub GateWritten : List Step → Type 0
GateWritten steps = WroteGate (one_log.logs 0) [] (changes_of 16 steps)
