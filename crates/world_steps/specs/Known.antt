-- What is known of the logs.
use Rattle.std.specs.Prelude.{◌≡◌, ◌<◌, ℕ, option_map, Some}
use Rattle.std.specs.List.{Contains, flat_map, range_with_len}
use Rattle.cell_frames.specs.Joined.{StoreView, read_by}
use Rattle.commit_gate.specs.Ledgers.{log_length, IsKnown}
use Rattle.hub_store.specs.Trail.{of_part}
use Rattle.many_rules.specs.Ledgers.{ledgers}
use Rattle.many_rules.specs.Rules.{Rules}
use Rattle.spec_tracker.specs.Marks.{length_in, floors_of, read_in}
use Rattle.spec_tracker.specs.declared.marks.Marks.{Marks}
use Rattle.spec_tracker.specs.declared.marks.Read.{Read}

-- What is known of the logs, as the store has it: how many entries of each are settled, where its incarnations began, and how far each
-- stream was read, the last of it by an entry that was recovered or settled.
pub record AreMarksOf (rules : Rules) (s : StoreView) (marks : Marks) : Type 0 where
  pub lengths : (partition : ℕ) → partition < rules.count → length_in marks partition ≡ log_length (ledgers rules partition (of_part partition s.trail))
  pub floors : floors_of marks ≡ flat_map s.floors (range_with_len 0 rules.count)
  pub reads : (read : Read) → Contains marks.reads.items read → read.next ≡ read_by rules s read.source read.reader
  pub readers : (read : Read) → Contains marks.reads.items read → 0 < read.next → IsKnown (ledgers rules read.reader (of_part read.reader s.trail)) (record { partition = read.reader; incarnation = read.inc; position = read.pos })
  pub all : (reader source : ℕ) → reader < rules.count → source < rules.count → option_map (λ read. read.next) (read_in marks reader source) ≡ Some (read_by rules s source reader)
