use Rattle.std.proofs.Common.{ap}
use Rattle.dura_value.specs.Views.{id_of}
use Rattle.shared_maps.specs.Maps.{by_task}
use Rattle.part_rows.specs.Parts.{part_of}
use Rattle.part_rows.proofs.Seen.{activities_cleared}
use Rattle.part_rows.proofs.parts.PartRows.clear_activities.Goals as goal

pub returns-clause-cleared : goal.returns-clause-cleared
returns-clause-cleared c =
    let was = c.args.self.now in
    ap (λ a. record (part_of was) { activities = a }) (activities_cleared (by_task was.activities) (by_task c.clear.new.self) (id_of c.args.id.now) c.in_ok-clear.ensures.cleared)
