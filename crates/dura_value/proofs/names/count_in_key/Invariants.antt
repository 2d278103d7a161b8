use Rattle.std.proofs.Common.{◌≡◌, ◌+◌, drop}
use Rattle.std.specs.List.{prefix_len}
use Rattle.dura_value.specs.Names.{stands_in_key}
use Rattle.dura_value.proofs.names.count_in_key.Given as goal

-- those before this one pass
abbrev pub invariant-loop-index : goal.invariant-loop-index
invariant-loop-index l = l.index + prefix_len stands_in_key (drop l.index l.bytes) ≡ prefix_len stands_in_key l.bytes
