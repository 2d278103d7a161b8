-- The statements that are left lead on to all of them.
use Rattle.std.proofs.Common.{◌≡◌, drop}
use Rattle.flow_syntax.specs.Views.{block_of, flows_of}
use Rattle.flow_reader.specs.Names.{known_block}
use Rattle.flow_reader.proofs.lookups.+names.Given as goal

abbrev pub invariant-known_block-loop-index : goal.invariant-known_block-loop-index
invariant-known_block-loop-index l = known_block (flows_of l.file) l.index (block_of (drop l.index l.block)) ≡ known_block (flows_of l.file) 0 (block_of l.block)
