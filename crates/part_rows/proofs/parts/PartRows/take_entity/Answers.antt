use Rattle.std.proofs.Common.{None, ap}
use Rattle.dura_value.specs.Views.{id_of}
use Rattle.shared_maps.specs.Maps.{by_id}
use Rattle.part_rows.specs.Parts.{part_of}
use Rattle.part_rows.proofs.Seen.{entities_put}
use Rattle.part_rows.proofs.parts.PartRows.take_entity.Goals as goal

pub returns-clause-taken : goal.returns-clause-taken
returns-clause-taken c =
    let was = c.args.self.now in
    ap (λ a. record (part_of was) { entities = a }) (entities_put (by_id was.entities) (by_id c.take.new.self) (id_of c.args.id.now) None c.in_ok-entity.ensures.taken)
