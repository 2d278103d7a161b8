use Rattle.std.proofs.Common.{arith, ap}
use Rattle.log_items.specs.Streams as plain
use Rattle.commit_gate.proofs.Boxes.{begun}
use Rattle.commit_gate.proofs.ledger.Stream.begin_at.Goals as goal

pub invariant_of-self-in-loop-self : goal.invariant_of-self-in-loop-self
invariant_of-self-in-loop-self c = record { inside = omega arith }

pub returns-clause-settled : goal.returns-clause-settled
returns-clause-settled c =
    let s = c.args.self.now in
    let inv = c.loop-self.invariant in
    begun s.first c.args.number c.loop-self.self.first c.len-self.result s.settled s.messages.items c.loop-self.self.messages.items (omega arith) (omega arith) inv.3 (omega arith) (ap (λ (b : plain.Outbox). b.messages) c.requires.rests)
