use Rattle.std.proofs.Common.{◌≡◌, ◌+◌, drop, not}
use Rattle.std.specs.List.{prefix_len}
use Rattle.dura_value.specs.Reading.{is_slash}
use Rattle.dura_value.proofs.reading.count_to_slash.Given as goal

-- those before this one pass
abbrev pub invariant-loop-index : goal.invariant-loop-index
invariant-loop-index l = l.index + prefix_len (λ byte. not (is_slash byte)) (drop l.index l.bytes) ≡ prefix_len (λ byte. not (is_slash byte)) l.bytes
