use Rattle.std.proofs.Common.{◌≡◌, ◌++◌, drop}
use Rattle.dura_value.specs.Views.{id_of, answer_of, messages_of}
use Rattle.dura_model.specs.Deliveries.{answering_all}
use Rattle.part_rows.specs.Reactions.{waits_of}
use Rattle.flow_steps.proofs.answers.answer_all.Given as goal

-- the answers so far, and those of the rest
abbrev pub invariant-loop-one : goal.invariant-loop-one
invariant-loop-one l =
    messages_of l.sent.items ++ answering_all (id_of l.from) (waits_of (drop l.one-index l.waiting)) (answer_of l.answer) ≡ messages_of l.initial.sent.items ++ answering_all (id_of l.from) (waits_of l.waiting) (answer_of l.answer)
