use Rattle.std.proofs.Common.{◌≡◌, [], ◌∷◌, Result, List, IfOk, sym, subst, arith}
use Rattle.std.specs.declared.alloc.AllocError.{AllocError}
use Rattle.std.proofs.Common.{Vec, Global}
use Rattle.dura_value.specs.Items.{Entry}
use Rattle.log_items.specs.Plain.{entries_of}
use Rattle.log_items.specs.Streams.{Sent}
use Rattle.log_items.specs.declared.frames.Frame.{Frame}
use Rattle.commit_gate.specs.Views.{all_sent}
use Rattle.commit_gate.specs.declared.ledger.Sending.{Sending}
use Rattle.crossing_tests.specs.Crossing.{asking, sent_on, taking}
use Rattle.crossing_tests.specs.Standing.{MayWrite}
use Rattle.crossing_tests.proofs.Begun.{may_ask, may_take}
use Rattle.crossing_tests.proofs.calls.write_frame.Goals as goal

pub write-requires-clause-may : goal.write-requires-clause-may
write-requires-clause-may g c =
    let frame = subst (λ (r : Result Frame AllocError). IfOk r (λ frame. entries_of frame ≡ asking ∷ [])) c.expect-frame.ensures c.asking.ensures in
    let sent = subst (λ (r : Result (Vec Sending Global) AllocError). IfOk r (λ sending. all_sent sending.items ≡ sent_on ∷ [])) c.expect-sent.ensures c.sending.ensures in
    subst (λ (going : List Entry). MayWrite 0 going (all_sent c.expect-sent.result.items)) (sym frame) (subst (λ (l : List Sent). MayWrite 0 (asking ∷ []) l) (sym sent) may_ask)

pub write-requires-2-clause-may : goal.write-requires-2-clause-may
write-requires-2-clause-may g c =
    let number = c.args.number in
    let frame = subst (λ (r : Result Frame AllocError). IfOk r (λ frame. entries_of frame ≡ taking number ∷ [])) c.expect-frame-2.ensures c.taking.ensures in
    let may = may_take number (omega (arith, c.if-number-eq0.false)) (omega (arith, c.ranges.number.fits)) in
    subst (λ (going : List Entry). MayWrite 1 going (all_sent c.new.result.items)) (sym frame) (subst (λ (l : List Sending). MayWrite 1 (taking number ∷ []) (all_sent l)) (sym c.new.ensures.items) may)
