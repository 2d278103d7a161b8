use Rattle.std.proofs.Common.{◌≡◌, ◌∙◌, IfOk, Some, ap, subst}
use Rattle.dura_value.specs.Views.{id_of}
use Rattle.shared_maps.specs.Maps.{by_id}
use Rattle.dura_value.specs.ById.{at_id}
use Rattle.part_rows.specs.Parts.{part_of}
use Rattle.part_rows.proofs.Seen.{entities_put}
use Rattle.part_rows.proofs.parts.PartRows.put_entity.Goals as goal

pub returns-clause-put : goal.returns-clause-put
returns-clause-put c =
    let was = c.args.self.now in
    let copied = subst (λ r. IfOk r (λ copy. copy ≡ c.args.id.now)) c.in_ok-id.ensures.ok.0 c.copy_id.ensures in
    let put = c.in_ok-put.ensures.put ∙ ap (λ i. at_id (by_id was.entities) (id_of i) (Some c.in_ok-id.entity)) copied ∙ ap (λ v. at_id (by_id was.entities) (id_of c.args.id.now) (Some v)) c.in_ok-id.ensures.ok.1 in
    ap (λ a. record (part_of was) { entities = a }) (entities_put (by_id was.entities) (by_id c.put.new.self) (id_of c.args.id.now) (Some c.args.entity) put)
