use Rattle.std.proofs.Common.{take}
use Rattle.state_lines.specs.Heads.{IsLeastOf, heads_of, least_of}
use Rattle.state_lines.proofs.heads.least.Given as goal

abbrev pub invariant-loop-place : goal.invariant-loop-place
invariant-loop-place l = IsLeastOf (heads_of (take l.place l.heads)) (least_of l.least)
