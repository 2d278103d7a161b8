use Rattle.std.proofs.Common.{◌∙◌, sym}
use Rattle.dura_value.specs.declared.messages.Body.TheVariants.{Start, Raise, Result, Op, Lock}
use Rattle.part_rows.proofs.copies.copy_body.Goals as goal
use Rattle.part_rows.proofs.copies.copy_body.Goals.{in-Start+in_ok-copy_value-in-Start, in-Raise+in_ok-copy_name-in-Raise+in_ok-copy_value-in-Raise, in-Query, in-Wait, in-Result+in_ok-copy_answer-in-Result, in-Op+in_ok-copy_name-in-Op+in_ok-copy_value-in-Op, in-Lock+in_ok-copy_id-in-Lock+in_ok-copy_spots-in-Lock, in-Granted, in-Release}

pub returns : goal.returns
returns c = elim c.match-body.branch [
  | in-Start+in_ok-copy_value-in-Start w ↦ w.result-is ∙ (λ i. Start (w.in_ok-copy_value-in-Start.ensures i) (w.copy_reply.ensures i)) ∙ sym w.in-Start.is
  | in-Raise+in_ok-copy_name-in-Raise+in_ok-copy_value-in-Raise w ↦
      w.result-is ∙ (λ i. Raise (w.in_ok-copy_name-in-Raise.ensures i) (w.in_ok-copy_value-in-Raise.ensures i) w.in-Raise.number) ∙ sym w.in-Raise.is
  | in-Query w ↦ w.result-is ∙ sym w.in-Query.is
  | in-Wait w ↦ w.result-is ∙ sym w.in-Wait.is
  | in-Result+in_ok-copy_answer-in-Result w ↦
      w.result-is ∙ (λ i. Result (w.copy_reply-in-Result.ensures i) (w.in_ok-copy_answer-in-Result.ensures i)) ∙ sym w.in-Result.is
  | in-Op+in_ok-copy_name-in-Op+in_ok-copy_value-in-Op w ↦
      w.result-is ∙ (λ i. Op (w.in_ok-copy_name-in-Op.ensures i) (w.in_ok-copy_value-in-Op.ensures i) (w.copy_reply-in-Op.ensures i)) ∙ sym w.in-Op.is
  | in-Lock+in_ok-copy_id-in-Lock+in_ok-copy_spots-in-Lock w ↦
      w.result-is ∙ (λ i. Lock (w.in_ok-copy_id-in-Lock.ensures i) w.in-Lock.task (w.in_ok-copy_spots-in-Lock.ensures i) w.in-Lock.index) ∙ sym w.in-Lock.is
  | in-Granted w ↦ w.result-is ∙ sym w.in-Granted.is
  | in-Release w ↦ w.result-is ∙ sym w.in-Release.is
]
