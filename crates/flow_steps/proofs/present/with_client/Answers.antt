use Rattle.std.proofs.Common.{◌∙◌, [], ◌∷◌, ◌++◌, ap}
use Rattle.std.proofs.lemmas.List.{map_push}
use Rattle.dura_value.specs.Views.{id_of}
use Rattle.part_rows.specs.Views.{waiting_of}
use Rattle.part_rows.specs.declared.rows.Waiting.{Waiting}
use Rattle.part_rows.specs.Reactions.{waits_of}
use Rattle.flow_steps.proofs.present.with_client.Goals as goal

pub returns : goal.returns
returns c =
    let waiting = c.args.waiting.items in
    let one : Waiting = record { client = c.in_ok-client.client; number = c.args.number } in
    ap waits_of c.in_ok-push.ensures.items ∙ map_push waiting_of waiting one ∙ ap (λ i. waits_of waiting ++ (id_of i, c.args.number) ∷ []) c.in_ok-client.ensures
