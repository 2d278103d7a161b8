use Rattle.std.proofs.Common.{subst, sym}
use Rattle.log_items.specs.declared.items.Item.{Item}
use Rattle.log_items.specs.Plain.{item_of}
use Rattle.commit_gate.specs.Refused.{Refuses}
use Rattle.commit_gate.specs.Refused.Names.{by_got, by_trim}
use Rattle.dura_value.specs.declared.identity.Identity.{Identity}
use Rattle.commit_gate.specs.Views.{ledgers_of, floors_of}
use Rattle.commit_gate.specs.declared.unmet.Unmet.TheVariants.{Differs}
use Rattle.commit_gate.proofs.Tested.{name_refuses, taken_wrong, not_true}
use Rattle.commit_gate.proofs.test.test_item.Goals as goal

pub returns-in-Err-clause-err : goal.returns-in-Err-clause-err
returns-in-Err-clause-err c =
    subst (λ (i : Item). Refuses (ledgers_of c.args.ledgers.now) (floors_of c.args.ledgers.now) c.args.partition (item_of i) c.in-Err.unmet) (sym c.in-Got.is)
    (name_refuses (ledgers_of c.args.ledgers.now) (floors_of c.args.ledgers.now) c.args.partition _ _ c.in-Err.unmet by_got c.in-Err.ensures.err)

pub returns-in-Err-test_name-clause-err : goal.returns-in-Err-test_name-clause-err
returns-in-Err-test_name-clause-err c =
    subst (λ (i : Item). Refuses (ledgers_of c.args.ledgers.now) (floors_of c.args.ledgers.now) c.args.partition (item_of i) c.in-Err-test_name.unmet) (sym c.in-Trim.is)
    (name_refuses (ledgers_of c.args.ledgers.now) (floors_of c.args.ledgers.now) c.args.partition _ _ c.in-Err-test_name.unmet by_trim c.in-Err-test_name.ensures.err)

pub returns-else-is_streamed-clause-err : goal.returns-else-is_streamed-clause-err
returns-else-is_streamed-clause-err c =
    let dep : Identity = record { partition = c.in-Got.source; incarnation = c.in-Got.incarnation; position = c.in-Got.position } in
    subst (λ (i : Item). Refuses (ledgers_of c.args.ledgers.now) (floors_of c.args.ledgers.now) c.args.partition (item_of i) (Differs dep)) (sym c.in-Got.is)
    (taken_wrong (ledgers_of c.args.ledgers.now) (floors_of c.args.ledgers.now) c.args.partition _ dep by_got c.in_default-test_name.ensures.ok (not_true _ _ c.if-is_streamed.false c.is_streamed.ensures))

pub returns-else-is_read-clause-err : goal.returns-else-is_read-clause-err
returns-else-is_read-clause-err c =
    let dep : Identity = record { partition = c.in-Trim.reader; incarnation = c.in-Trim.incarnation; position = c.in-Trim.position } in
    subst (λ (i : Item). Refuses (ledgers_of c.args.ledgers.now) (floors_of c.args.ledgers.now) c.args.partition (item_of i) (Differs dep)) (sym c.in-Trim.is)
    (taken_wrong (ledgers_of c.args.ledgers.now) (floors_of c.args.ledgers.now) c.args.partition _ dep by_trim c.in_default-test_name-2.ensures.ok (not_true _ _ c.if-is_read.false c.is_read.ensures))
