use Rattle.part_steps.specs.States.{state_of}
use Rattle.state_ledgers.proofs.LedgerShowsState.{one_more}
use Rattle.state_ledgers.proofs.ledger.nexts_of.Goals as goal

pub loop-source-preserved : goal.loop-source-preserved
loop-source-preserved c =
    let p = state_of c.args.state.now in
    one_more (λ source. (p.inboxes source).next) c.loop-source.source c.push.new.self.items c.loop-source.nexts.items c.taken_in.result c.in_ok-push.ensures.items c.loop-source.invariant c.taken_in.ensures
