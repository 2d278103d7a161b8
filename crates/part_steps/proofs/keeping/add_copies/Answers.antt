use Rattle.std.proofs.Common.{◌∙◌, ◌+◌, ◌++◌, List, drop, ap}
use Rattle.dura_value.specs.declared.messages.Message.{Message}
use Rattle.part_steps.proofs.Copying.{one_copied}
use Rattle.part_steps.proofs.keeping.add_copies.Goals as goal

pub loop-message-preserved : goal.loop-message-preserved
loop-message-preserved c =
    let ms = c.args.messages.now in
    let place = c.loop-message.message-index in
    ap (λ (l : List Message). l ++ drop (place + 1) ms) c.in_ok-push.ensures.items
    ∙ one_copied c.loop-message.copies.items ms _ place c.message-item.result c.in_ok-copy.copy c.loop-message-test.true c.message-item.is c.in_ok-copy.ensures c.loop-message.invariant
