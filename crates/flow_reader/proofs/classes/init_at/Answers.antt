use Rattle.std.proofs.Common.{ap, codes}
use Rattle.json_tree.specs.View.{view}
use Rattle.flow_values.specs.Faults.{at, to_key}
use Rattle.flow_values.proofs.Parts.{fails_under}
use Rattle.flow_values.specs.Values.{value_in}
use Rattle.flow_reader.proofs.classes.init_at.Goals as goal

pub returns-in-Ok : goal.returns-in-Ok
returns-in-Ok c = ap (at (to_key (codes "init"))) c.in-Ok.ensures

pub returns-in-Err : goal.returns-in-Err
returns-in-Err c =
    fails_under (value_in (view c.args.value.now)) (to_key (codes "init")) c.in-Err.error c.under.result c.in-Err.ensures c.under.ensures
