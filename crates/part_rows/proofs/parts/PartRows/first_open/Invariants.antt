use Rattle.std.proofs.Common.{◌≡◌, ◌-◌, drop, length}
use Rattle.std.specs.List.{find}
use Rattle.part_rows.specs.Parts.{part_of}
use Rattle.part_rows.proofs.Opening.{is_taken}
use Rattle.part_rows.proofs.parts.PartRows.first_open.Given as goal

-- the first that is taken lies from this place on
abbrev pub invariant-loop-place : goal.invariant-loop-place
invariant-loop-place l = find (is_taken (part_of l.fn.self).entities) l.fn.self.queue ≡ find (is_taken (part_of l.fn.self).entities) (drop l.place l.fn.self.queue)

abbrev pub decreases-loop-place : goal.decreases-loop-place
decreases-loop-place l = length l.fn.self.queue - l.place
