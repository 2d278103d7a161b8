use Rattle.std.proofs.Common.{◌∙◌, ◌++◌, ◌∷◌, [], Some, ap}
use Rattle.std.proofs.lemmas.Result.{on_ok_weaker}
use Rattle.dura_value.specs.ById.{at_number}
use Rattle.dura_value.specs.Views.{id_of}
use Rattle.shared_maps.specs.Maps.{by_number}
use Rattle.cell_waits.proofs.Placing.{place_pushed}
use Rattle.cell_waits.proofs.places.Places.push_at.Goals as goal

pub returns : goal.returns
returns c =
    let kept = c.push.new.self in
    let mid = by_number c.lift.new.self.places in
    on_ok_weaker c.put.result
    (λ put.
    place_pushed (by_number c.args.self.now.places) mid (by_number c.put.new.self) (id_of c.args.id.now) c.args.number c.args.place kept c.in_ok-line.ensures.lifted
    (put ∙ ap (λ i. at_number mid (id_of i) c.args.number (Some kept)) c.in_ok-copy_id.ensures) (c.in_ok-push.ensures ∙ ap (λ l. l ++ c.args.place ∷ []) c.in_ok-line.ensures.places))
    c.put.ensures.put
