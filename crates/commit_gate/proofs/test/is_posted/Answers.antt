use Rattle.std.proofs.Common.{◌≡◌, ◌&&◌, Bool, true, sym, ◌∙◌, ap}
use Rattle.dura_value.specs.Items.{Posted}
use Rattle.dura_value.specs.Same.{identity_eq, message_eq}
use Rattle.dura_value.specs.Views.{identity_of, message_of, posted_of}
use Rattle.commit_gate.proofs.SameMessages.{posted_decides, messages_told}
use Rattle.commit_gate.proofs.test.is_posted.Goals as goal

pub returns-then-is_same_entry : goal.returns-then-is_same_entry
returns-then-is_same_entry c =
    let wanted : Posted = record { entry = identity_of c.args.entry; message = message_of c.args.message.now } in
    let first : identity_eq (posted_of c.args.posted.now).entry wanted.entry ≡ true = sym c.is_same_entry.ensures ∙ c.if-is_same_entry.true in
    posted_decides (posted_of c.args.posted.now) wanted c.eq.result
    (messages_told c.args.posted.now.message c.args.message.now c.eq.result c.eq.ensures ∙ ap (λ (b : Bool). b && message_eq (message_of c.args.posted.now.message) wanted.message) (sym first))
