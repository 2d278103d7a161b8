use Rattle.std.proofs.Common.{◌∙◌, Some, ap, option_map, sym}
use Rattle.std.specs.Borrow.{Bor}
use Rattle.dura_value.specs.Views.{id_of}
use Rattle.dura_model.specs.Partition.{instance_in}
use Rattle.flow_syntax.specs.Views.{flows_of}
use Rattle.part_rows.specs.Views.{row_of}
use Rattle.part_rows.specs.declared.rows.Row.{Row}
use Rattle.flow_steps.proofs.machines.instance_if.Goals as goal

pub returns-in_ok-instance-in-Some : goal.returns-in_ok-instance-in-Some
returns-in_ok-instance-in-Some c =
    ap Some c.in_ok-instance-in-Some.ensures
    ∙ ap (option_map (λ (r : Bor Row). instance_in (flows_of c.args.flows.now) (id_of c.args.id.now) (row_of r.now))) (sym c.in-Some.is)
