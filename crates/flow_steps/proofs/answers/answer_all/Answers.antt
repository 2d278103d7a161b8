use Rattle.std.proofs.Common.{◌∙◌, ◌++◌, ap}
use Rattle.dura_value.specs.Views.{answer_of, id_of, messages_of}
use Rattle.dura_model.specs.Deliveries.{answering_all}
use Rattle.part_rows.specs.Reactions.{waits_of}
use Rattle.part_rows.specs.Views.{waiting_of}
use Rattle.flow_steps.proofs.Answering.{answers, one_answered}
use Rattle.flow_steps.proofs.answers.answer_all.Goals as goal

pub loop-one-preserved : goal.loop-one-preserved
loop-one-preserved c =
    let from = id_of c.args.from.now in
    let answer = answer_of c.args.answer.now in
    let one = c.one-item.result in
    let said = c.in_ok-answer_request.ensures ∙ ap (λ a. answers from (answer_of a) (waiting_of one)) c.in_ok-copy_answer.ensures in
    let total = messages_of c.args.sent.now.items ++ answering_all from (waits_of c.args.waiting.now) answer in
    rw c.in_ok-push.ensures.items (one_answered c.loop-one.sent.items c.in_ok-answer_request.field-0 from answer c.args.waiting.now c.loop-one.one-index one total c.loop-one-test.true c.one-item.is said c.loop-one.invariant)
