use Rattle.std.proofs.Common.{◌≡◌, ◌∙◌, IfOk, Some, ap, subst}
use Rattle.dura_value.specs.Views.{id_of}
use Rattle.shared_maps.specs.Maps.{by_task}
use Rattle.dura_value.specs.ById.{at_number}
use Rattle.part_rows.specs.Parts.{part_of}
use Rattle.part_rows.proofs.Seen.{activities_put}
use Rattle.part_rows.proofs.parts.PartRows.put_activity.Goals as goal

pub returns-clause-put : goal.returns-clause-put
returns-clause-put c =
    let was = c.args.self.now in
    let copied = subst (λ r. IfOk r (λ copy. copy ≡ c.args.id.now)) c.in_ok-id.ensures.ok.0 c.copy_id.ensures in
    let put = c.in_ok-put.ensures.put ∙ ap (λ i. at_number (by_task was.activities) (id_of i) c.args.task (Some c.in_ok-id.activity)) copied ∙ ap (λ v. at_number (by_task was.activities) (id_of c.args.id.now) c.args.task (Some v)) c.in_ok-id.ensures.ok.1 in
    ap (λ a. record (part_of was) { activities = a }) (activities_put (by_task was.activities) (by_task c.put.new.self) (id_of c.args.id.now) c.args.task (Some c.args.activity) put)
