use Rattle.std.proofs.Common.{map, ap, ◌∙◌}
use Rattle.std.proofs.lemmas.List.{map_push}
use Rattle.dura_value.specs.Views.{identity_of}
use Rattle.part_steps.specs.States.{state_of}
use Rattle.state_ledgers.proofs.LedgerShowsState.{one_more}
use Rattle.state_ledgers.proofs.ledger.readers_of.Goals as goal

pub loop-source-preserved : goal.loop-source-preserved
loop-source-preserved c =
    let p = state_of c.args.state.now in
    let before = c.loop-source.readers.items in
    let one = c.taken_by.result in
    let pushed = ap (map identity_of) c.in_ok-push.ensures.items ∙ map_push identity_of before one in
    one_more (λ source. (p.inboxes source).reader) c.loop-source.source (map identity_of c.push.new.self.items) (map identity_of before) (identity_of one) pushed c.loop-source.invariant c.taken_by.ensures
