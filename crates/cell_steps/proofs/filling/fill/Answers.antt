use Rattle.std.proofs.Common.{◌≡◌, ◌++◌, map, arith}
use Rattle.part_steps.specs.Outputs.{outputs_of}
use Rattle.cell_steps.proofs.Filled.{filled_on}
use Rattle.cell_steps.proofs.filling.fill.Goals as goal

pub returns-in-Ok-clause-on : goal.returns-in-Ok-clause-on
returns-in-Ok-clause-on g c = λ waits.
    let items : c.append.new.self.items ≡ c.args.filling.items.items ++ c.in_ok-batch.batch.items.items = c.in-Ok.ensures.items in
    filled_on (g.R.Reactions.flows c.args.reactions.now) c.args.now c.args.filling _ c.in_ok-batch.batch.items.items (map outputs_of c.in_ok-batch.batch.outputs.items) c.in_ok-batch.ensures.made items
    (record { sound = c.in_ok-batch.ensures.sound; begun = omega (arith, c.in_ok-batch.ensures.entry, c.requires.way.begun) })
    c.in_ok-batch.ensures.partitions waits
