use Rattle.std.proofs.Common.{◌≡◌, true, None, length, map, take}
use Rattle.std.specs.List.{All}
use Rattle.std.specs.Prelude.{IfSome}
use Rattle.client_order.specs.Clashes.{clashes, taken_in, HasClash, NoClash}
use Rattle.client_order.specs.Order.{no_later}
use Rattle.client_order.proofs.clashes.first_clash.Given as goal
use Rattle.part_steps.specs.States.{parts_in}
use Rattle.request_reader.specs.Line.{request_of}

-- of the requests so far none clashes where none was found, and what was found clashes, and comes first
abbrev pub invariant-loop-request : goal.invariant-loop-request
invariant-loop-request l = record {
  none : l.first ≡ None → NoClash (taken_in (length l.states) (parts_in l.states)) (map request_of (take l.request-index l.requests));
  some : IfSome l.first (λ r. HasClash (taken_in (length l.states) (parts_in l.states)) (map request_of l.requests) r.now.client r.now.number);
  first : IfSome l.first (λ one. All (λ r. clashes (taken_in (length l.states) (parts_in l.states)) r ≡ true → no_later (one.now.client, one.now.number) (r.client, r.number) ≡ true) (map request_of (take l.request-index l.requests)));
}
