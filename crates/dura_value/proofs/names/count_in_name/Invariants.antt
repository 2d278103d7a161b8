use Rattle.std.proofs.Common.{◌≡◌, ◌+◌, drop}
use Rattle.std.specs.List.{prefix_len}
use Rattle.dura_value.specs.Names.{goes_on_name}
use Rattle.dura_value.proofs.names.count_in_name.Given as goal

-- those before this one pass
abbrev pub invariant-loop-index : goal.invariant-loop-index
invariant-loop-index l = l.index + prefix_len goes_on_name (drop l.index l.bytes) ≡ prefix_len goes_on_name l.bytes
