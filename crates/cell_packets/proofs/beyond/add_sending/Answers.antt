use Rattle.std.proofs.Common.{◌≡◌, ◌∙◌, ℕ, ◌-◌, ◌++◌, Some, ap, sym, arith}
use Rattle.std.specs.List.{slice_get}
use Rattle.std.proofs.lemmas.List.{map_push}
use Rattle.commit_gate.specs.Views.{all_sent, sent_of}
use Rattle.commit_gate.specs.declared.ledger.Sending.{Sending}
use Rattle.dura_value.specs.Views.{posted_of}
use Rattle.dura_value.specs.declared.identity.Posted.{Posted}
use Rattle.part_rows.specs.Views.{outboxes_of}
use Rattle.cell_packets.specs.Packets.{sent_to, sent_from}
use Rattle.cell_packets.proofs.Numbered.{sending_joined, sendings_joined}
use Rattle.cell_packets.proofs.beyond.add_sending.Goals as goal

pub loop-posted-preserved : goal.loop-posted-preserved
loop-posted-preserved c =
    let target = c.args.target in
    let box = outboxes_of c.args.boxes.now target in
    let number = c.loop-posted.number in
    let posted = posted_of c.in-Some.posted.now in
    let before = c.loop-posted.sending.items in
    let copy = c.in_ok-copy_posted.field-0 in
    let so_far = c.loop-posted.invariant in
    let there : slice_get box.messages (number - box.first) ≡ Some posted = sym c.in-Some.ensures in
    let made : Sending = record { to = target; posted = copy } in
    let joined =
    sending_joined target number box posted (sent_of made) (all_sent before) (all_sent c.push.new.self.items) (all_sent c.args.sending.now.items ++ sent_from target c.args.from box) so_far.begun there
    (ap (λ (x : Posted). sent_to target (posted_of x)) c.in_ok-copy_posted.ensures)
    (ap all_sent c.in_ok-push.ensures.items ∙ map_push sent_of before made) so_far.so_far in
    let next = c.in_ok-number.ensures in
    record {
      begun = let begun = so_far.begun in omega (arith, next, begun);
      so_far = ap (λ (n : ℕ). all_sent c.push.new.self.items ++ sent_from target n box) next ∙ joined;
    }

pub returns : goal.returns
returns c =
    let target = c.args.target in
    let box = outboxes_of c.args.boxes.now target in
    sendings_joined target c.loop-posted.number box (all_sent c.loop-posted.sending.items) (all_sent c.args.sending.now.items ++ sent_from target c.args.from box)
    (sym c.in_default.ensures) c.loop-posted.invariant.so_far
