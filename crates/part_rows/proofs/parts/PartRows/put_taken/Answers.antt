use Rattle.std.proofs.Common.{◌≡◌, ◌∙◌, IfOk, Some, ap, subst}
use Rattle.dura_value.specs.Views.{id_of}
use Rattle.shared_maps.specs.Maps.{by_number}
use Rattle.dura_value.specs.ById.{at_number}
use Rattle.part_rows.specs.Parts.{part_of}
use Rattle.part_rows.proofs.Seen.{taken_put}
use Rattle.part_rows.proofs.parts.PartRows.put_taken.Goals as goal

pub returns-clause-put : goal.returns-clause-put
returns-clause-put c =
    let was = c.args.self.now in
    let copied = subst (λ r. IfOk r (λ copy. copy ≡ c.args.client.now)) c.in_ok-client.ensures.ok.0 c.copy_id.ensures in
    let put = c.in_ok-put.ensures.put ∙ ap (λ i. at_number (by_number was.taken) (id_of i) c.args.number (Some c.in_ok-client.message)) copied ∙ ap (λ v. at_number (by_number was.taken) (id_of c.args.client.now) c.args.number (Some v)) c.in_ok-client.ensures.ok.1 in
    ap (λ a. record (part_of was) { taken = a }) (taken_put (by_number was.taken) (by_number c.put.new.self) (id_of c.args.client.now) c.args.number (Some c.args.message) put)
