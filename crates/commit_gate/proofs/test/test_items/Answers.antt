use Rattle.std.proofs.Common.{arith, subst, List}
use Rattle.std.specs.List.{All}
use Rattle.std.proofs.lemmas.List.{take_all}
use Rattle.log_items.specs.declared.items.Item.{Item}
use Rattle.log_items.specs.Plain.{items_of}
use Rattle.commit_gate.specs.Refused.{Passes}
use Rattle.commit_gate.specs.Views.{ledgers_of, floors_of}
use Rattle.commit_gate.proofs.Tested.{item_stops, item_passes}
use Rattle.commit_gate.proofs.test.test_items.Goals as goal

pub returns-in-Err : goal.returns-in-Err
returns-in-Err c = item_stops (ledgers_of c.args.ledgers.now) (floors_of c.args.ledgers.now) c.args.partition c.args.items.now c.loop-item.item-index c.item-item.result c.in-Err.unmet (omega arith) c.item-item.is c.loop-item.invariant c.in-Err.ensures.err

pub loop-item-preserved : goal.loop-item-preserved
loop-item-preserved c = item_passes (ledgers_of c.args.ledgers.now) (floors_of c.args.ledgers.now) c.args.partition c.args.items.now c.loop-item.item-index c.item-item.result (omega arith) c.item-item.is c.loop-item.invariant c.in_default.ensures.ok

pub returns : goal.returns
returns c = subst (λ (l : List Item). All (Passes (ledgers_of c.args.ledgers.now) (floors_of c.args.ledgers.now) c.args.partition) (items_of l)) (take_all _ c.args.items.now (omega arith)) c.loop-item.invariant
