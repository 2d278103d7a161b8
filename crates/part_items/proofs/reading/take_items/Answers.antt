use Rattle.std.proofs.Common.{◌≡◌, ◌++◌, ◌∷◌, []}
use Rattle.std.proofs.lemmas.Result.{err_from_is_err_and}
use Rattle.std.proofs.lemmas.List.{map_push}
use Rattle.log_items.specs.Plain.{item_of, items_of}
use Rattle.dura_codec.specs.Fields.{several_at}
use Rattle.part_items.specs.Grammar.{item_at}
use Rattle.dura_codec.proofs.Several.{goes_on, ends, is_done}
use Rattle.part_items.proofs.reading.take_items.Goals as goal

pub returns-in_err-item : goal.returns-in_err-item
returns-in_err-item c =
    let p = err_from_is_err_and c.from_residual.result c.from_residual.ensures.1 in
    rw (p.1, p.2) (ends item_at c.in_err-item.field-0.0 (items_of c.loop.items.items) c.args.count c.loop.counter c.loop.rest.now (several_at item_at c.args.count c.args.bytes.now) c.loop-test.true c.in_err-item.ensures c.loop.invariant)

pub loop-preserved : goal.loop-preserved
loop-preserved c =
    let e : items_of c.push.new.self.items ≡ items_of c.loop.items.items ++ item_of c.in_ok-item.item ∷ [] = rw c.in_ok-push.ensures.items (map_push _ c.loop.items.items c.in_ok-item.item) in
    rw e (goes_on item_at (items_of c.loop.items.items) c.args.count c.loop.counter c.loop.rest.now (item_of c.in_ok-item.item) c.in_ok-item.after.now (several_at item_at c.args.count c.args.bytes.now) c.loop-test.true c.in_ok-item.ensures c.loop.invariant)

pub returns : goal.returns
returns c = is_done item_at (items_of c.loop.items.items) c.args.count c.loop.counter c.loop.rest.now (several_at item_at c.args.count c.args.bytes.now) c.loop-test.false c.loop.invariant
