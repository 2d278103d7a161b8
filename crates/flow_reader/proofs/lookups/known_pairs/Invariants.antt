-- The pairs that are left lead on to all of them.
use Rattle.std.proofs.Common.{◌≡◌, drop, map}
use Rattle.flow_syntax.specs.Views.{flows_of, locked_of}
use Rattle.flow_reader.specs.Names.{known_pairs}
use Rattle.flow_reader.proofs.lookups.known_pairs.Given as goal

abbrev pub invariant-loop-index : goal.invariant-loop-index
invariant-loop-index l = known_pairs (flows_of l.file) l.index (map locked_of (drop l.index l.pairs)) ≡ known_pairs (flows_of l.file) 0 (map locked_of l.pairs)
