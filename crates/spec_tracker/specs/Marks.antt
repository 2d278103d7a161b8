-- What is known of entries.
use Rattle.std.specs.Prelude.{ℕ, ◌≤◌, ◌&&◌, ◌==◌, Bool, nat_lt, nat_le, List, map, Option, Some, None, slice_get}
use Rattle.std.specs.List.{find}
use Rattle.dura_value.specs.Items.{Identity, Floor}
use Rattle.dura_value.specs.Dependencies.{Lost, Ready}
use Rattle.dura_value.specs.Views.{floor_of}
use Rattle.spec_tracker.specs.declared.marks.Dep.{Dep}
use Rattle.spec_tracker.specs.declared.marks.Read.{Read}
use Rattle.spec_tracker.specs.declared.marks.Marks.{Marks}
use Rattle.spec_tracker.specs.declared.marks.Verdict.{Verdict}
use Rattle.spec_tracker.specs.declared.marks.Verdict.TheVariants as verdicts

-- who it is
abbrev pub identity_of : Dep → Identity
identity_of dep = record { partition = dep.src; incarnation = dep.inc; position = dep.pos }

abbrev pub floors_of : Marks → List Floor
floors_of marks = map floor_of marks.floors.items

abbrev pub or_none : Option ℕ → ℕ
or_none None = 0
or_none (Some n) = n

-- how many entries of a partition are settled
abbrev pub length_in : Marks → ℕ → ℕ
length_in marks partition = or_none (slice_get marks.lengths.items partition)

-- whether this incarnation gave up this entry
abbrev pub gives_up : Floor → Identity → Bool
gives_up floor e = floor.partition == e.partition && nat_lt e.incarnation floor.incarnation && nat_le floor.from e.position

-- An entry that was given up is lost; else one that is settled is ready; else it is undecided.
abbrev pub IsVerdict : List Floor → (lengths : ℕ → ℕ) → Identity → Verdict → Type 0
IsVerdict floors lengths e verdicts.Lost = Lost floors e
IsVerdict floors lengths e verdicts.Ready = Ready lengths floors e
IsVerdict floors lengths e verdicts.Undecided = (Lost floors e → ⊥) × (lengths e.partition ≤ e.position)

-- whether this tells how far a partition has read the stream from another
abbrev pub is_read_of : (reader source : ℕ) → Read → Bool
is_read_of reader source read = read.reader == reader && read.source == source

-- how far a partition has read the stream from another: what is told of that first
abbrev pub read_in : Marks → (reader source : ℕ) → Option Read
read_in marks reader source = find (is_read_of reader source) marks.reads.items
