use Rattle.std.proofs.Common.{◌≡◌, take}
use Rattle.hub_store.specs.Waiting.{waiting}
use Rattle.hub_store.proofs.together.waiting_files.Given as goal

abbrev pub invariant-loop-way : goal.invariant-loop-way
invariant-loop-way l = l.files.items ≡ waiting (take l.way-index l.ways)
