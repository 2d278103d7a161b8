use Rattle.std.proofs.Common.{◌≡◌, drop}
use Rattle.activity_table.specs.Table.{joined, before}
use Rattle.activity_table.proofs.table.joined.Given as goal

abbrev pub invariant-loop-part : goal.invariant-loop-part
invariant-loop-part l = before l.bytes.items (joined (drop l.part-index l.parts)) ≡ joined l.parts
