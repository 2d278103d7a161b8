use Rattle.std.proofs.Common.{◌∙◌, Some, ap}
use Rattle.dura_value.specs.Views.{id_of}
use Rattle.shared_maps.specs.Maps.{by_id}
use Rattle.dura_value.specs.ById.{at_id}
use Rattle.part_rows.specs.Parts.{part_of}
use Rattle.part_rows.proofs.Seen.{instances_put}
use Rattle.part_rows.proofs.parts.PartRows.put_instance.Goals as goal

pub returns-clause-put : goal.returns-clause-put
returns-clause-put c =
    let was = c.args.self.now in
    let put = c.in_ok-put.ensures.put ∙ ap (λ i. at_id (by_id was.instances) (id_of i) (Some c.args.row)) c.in_ok-id.ensures in
    ap (λ a. record (part_of was) { instances = a }) (instances_put (by_id was.instances) (by_id c.put.new.self) (id_of c.args.id.now) (Some c.args.row) put)
