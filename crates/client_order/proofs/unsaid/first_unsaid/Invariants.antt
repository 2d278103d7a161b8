use Rattle.std.proofs.Common.{◌≡◌, None, take}
use Rattle.std.specs.List.{All}
use Rattle.std.specs.Prelude.{IfSome}
use Rattle.client_port.specs.Ports.{due_of}
use Rattle.client_order.specs.Unsaid.{IsUnsaid}
use Rattle.client_order.proofs.Ordered.{DueLater}
use Rattle.client_order.proofs.unsaid.first_unsaid.Given as goal

-- of the clients so far nothing is due where none was found, and what was found is due, and comes first
abbrev pub invariant-loop-client : goal.invariant-loop-client
invariant-loop-client l = record {
  none : l.first ≡ None → All (λ name. due_of name l.port ≡ None) (take l.client-index l.clients);
  some : IfSome l.first (λ one. IsUnsaid l.port one.0.now one.1);
  first : IfSome l.first (λ one. All (DueLater l.port (one.0.now, one.1)) (take l.client-index l.clients));
}
