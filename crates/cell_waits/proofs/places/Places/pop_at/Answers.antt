use Rattle.std.proofs.Common.{◌∙◌, Some, drop, ap, sym}
use Rattle.std.proofs.lemmas.Result.{on_ok_weaker}
use Rattle.dura_value.specs.ById.{at_number}
use Rattle.dura_value.specs.Views.{id_of}
use Rattle.shared_maps.specs.Maps.{by_number}
use Rattle.cell_waits.proofs.Placing.{place_popped, place_gone, emptied}
use Rattle.cell_waits.proofs.places.Places.pop_at.Goals as goal

pub returns-then-is_empty : goal.returns-then-is_empty
returns-then-is_empty c =
    place_gone (by_number c.args.self.now.places) (by_number c.lift.new.self.places) (id_of c.args.id.now) c.args.number c.in_ok-line.ensures.lifted
    (sym (c.pop.ensures ∙ ap (drop 1) c.in_ok-line.ensures.places) ∙ emptied c.pop.new.self (sym c.is_empty.ensures ∙ c.if-is_empty.true))

pub returns : goal.returns
returns c =
    let kept = c.pop.new.self in
    let mid = by_number c.lift.new.self.places in
    on_ok_weaker c.put.result
    (λ put.
    place_popped (by_number c.args.self.now.places) mid (by_number c.put.new.self) (id_of c.args.id.now) c.args.number kept c.in_ok-line.ensures.lifted
    (put ∙ ap (λ i. at_number mid (id_of i) c.args.number (Some kept)) c.in_ok-copy_id.ensures) (c.pop.ensures ∙ ap (drop 1) c.in_ok-line.ensures.places))
    c.put.ensures.put
