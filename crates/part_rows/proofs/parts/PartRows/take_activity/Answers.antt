use Rattle.std.proofs.Common.{None, ap}
use Rattle.dura_value.specs.Views.{id_of}
use Rattle.shared_maps.specs.Maps.{by_task}
use Rattle.part_rows.specs.Parts.{part_of}
use Rattle.part_rows.proofs.Seen.{activities_put}
use Rattle.part_rows.proofs.parts.PartRows.take_activity.Goals as goal

pub returns-clause-taken : goal.returns-clause-taken
returns-clause-taken c =
    let was = c.args.self.now in
    ap (λ a. record (part_of was) { activities = a }) (activities_put (by_task was.activities) (by_task c.take.new.self) (id_of c.args.id.now) c.args.task None c.in_ok-activity.ensures.taken)
