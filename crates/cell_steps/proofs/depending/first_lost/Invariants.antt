use Rattle.std.proofs.Common.{option_map}
use Rattle.spec_tracker.specs.Marks.{identity_of}
use Rattle.cell_steps.proofs.Losing.{HasLooked}
use Rattle.cell_steps.proofs.depending.first_lost.Given as goal

-- none of those before depends on what was given up
abbrev pub invariant-loop-place : goal.invariant-loop-place
invariant-loop-place l = HasLooked l.marks l.number (option_map identity_of l.fn.before) l.from l.steps (option_map identity_of l.before) l.place
