use Rattle.std.proofs.Common.{◌∙◌, ◌&&◌, Bool, Some, None, ap}
use Rattle.dura_value.specs.Same.{message_eq}
use Rattle.dura_value.specs.Views.{identity_of, message_of, posted_of}
use Rattle.part_steps.specs.States.{state_of}
use Rattle.recover_core.proofs.StreamsSent.{has_there}
use Rattle.recover_core.proofs.ready.has_sent.Goals as goal

pub returns-then-is_same_entry : goal.returns-then-is_same_entry
returns-then-is_same_entry c =
    let there = has_there ((state_of c.args.state.now).outboxes c.args.target) (identity_of c.args.entry) c.args.number (message_of c.args.message.now) c.first_left-first.result (Some (posted_of c.in-Some.posted.now)) c.first_left-first.ensures c.if-number-first.false c.in-Some.ensures in
    c.is_same_message.ensures ∙ ap (λ (b : Bool). b && message_eq (message_of c.in-Some.posted.now.message) (message_of c.args.message.now)) c.if-is_same_entry.ensures ∙ there

pub returns-else-is_same_entry : goal.returns-else-is_same_entry
returns-else-is_same_entry c =
    let there = has_there ((state_of c.args.state.now).outboxes c.args.target) (identity_of c.args.entry) c.args.number (message_of c.args.message.now) c.first_left-first.result (Some (posted_of c.in-Some.posted.now)) c.first_left-first.ensures c.if-number-first.false c.in-Some.ensures in
    c.if-is_same_entry.false ∙ ap (λ (b : Bool). b && message_eq (message_of c.in-Some.posted.now.message) (message_of c.args.message.now)) c.if-is_same_entry.ensures ∙ there

pub returns-in-None : goal.returns-in-None
returns-in-None c =
    has_there ((state_of c.args.state.now).outboxes c.args.target) (identity_of c.args.entry) c.args.number (message_of c.args.message.now) c.first_left-first.result None c.first_left-first.ensures c.if-number-first.false c.in-None.ensures
