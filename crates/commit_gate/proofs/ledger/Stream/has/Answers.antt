use Rattle.std.proofs.Common.{◌-◌, arith, refl}
use Rattle.dura_value.specs.Views.{identity_of}
use Rattle.dura_value.specs.Views.{message_of}
use Rattle.dura_value.specs.Views.{posted_of}
use Rattle.commit_gate.specs.Views.{box_of}
use Rattle.commit_gate.proofs.Stands.{stands_at, has_there}
use Rattle.commit_gate.proofs.ledger.Stream.has.Goals as goal

pub returns : goal.returns
returns c =
    let s = c.args.self.now in
    let index = c.args.number - s.first in
    has_there (box_of s) c.args.number index (posted_of c.index.result.now) (record { entry = identity_of c.args.entry; message = message_of c.args.message.now }) c.is_posted.result (omega arith) refl
    (stands_at s.messages.items s.settled index c.index.result.now (omega arith) s.inside c.index.ensures) c.is_posted.ensures
