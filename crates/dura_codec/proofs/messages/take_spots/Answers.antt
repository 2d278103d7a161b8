use Rattle.std.proofs.Common.{◌≡◌, ◌++◌, ◌∷◌, []}
use Rattle.std.proofs.lemmas.Result.{err_from_is_err_and}
use Rattle.std.proofs.lemmas.List.{map_push}
use Rattle.dura_value.specs.Views.{spot_of, spots_of}
use Rattle.dura_codec.specs.Fields.{several_at}
use Rattle.dura_codec.specs.Grammar.{spot_at}
use Rattle.dura_codec.proofs.Several.{goes_on, ends, is_done}
use Rattle.dura_codec.proofs.messages.take_spots.Goals as goal

pub returns-in_err-spot : goal.returns-in_err-spot
returns-in_err-spot c =
    let p = err_from_is_err_and c.from_residual.result c.from_residual.ensures.1 in
    rw (p.1, p.2) (ends spot_at c.in_err-spot.field-0.0 (spots_of c.loop.spots.items) c.args.count c.loop.counter c.loop.rest.now (several_at spot_at c.args.count c.args.bytes.now) c.loop-test.true c.in_err-spot.ensures c.loop.invariant)

pub loop-preserved : goal.loop-preserved
loop-preserved c =
    let e : spots_of c.push.new.self.items ≡ spots_of c.loop.spots.items ++ spot_of c.in_ok-spot.spot ∷ [] = rw c.in_ok-push.ensures.items (map_push _ c.loop.spots.items c.in_ok-spot.spot) in
    rw e (goes_on spot_at (spots_of c.loop.spots.items) c.args.count c.loop.counter c.loop.rest.now (spot_of c.in_ok-spot.spot) c.in_ok-spot.after.now (several_at spot_at c.args.count c.args.bytes.now) c.loop-test.true c.in_ok-spot.ensures c.loop.invariant)

pub returns : goal.returns
returns c = is_done spot_at (spots_of c.loop.spots.items) c.args.count c.loop.counter c.loop.rest.now (several_at spot_at c.args.count c.args.bytes.now) c.loop-test.false c.loop.invariant
