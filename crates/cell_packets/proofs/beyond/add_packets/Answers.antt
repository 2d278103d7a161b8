use Rattle.std.proofs.Common.{◌≡◌, ◌∙◌, ℕ, ◌-◌, ◌++◌, map, Some, ap, sym, arith}
use Rattle.std.specs.List.{slice_get}
use Rattle.std.proofs.lemmas.List.{map_push}
use Rattle.dura_value.specs.Views.{posted_of}
use Rattle.part_rows.specs.Views.{outboxes_of}
use Rattle.cell_packets.specs.Packets.{packet_of, packet_with, packets_from}
use Rattle.cell_packets.proofs.Numbered.{packet_joined, packets_joined}
use Rattle.cell_packets.proofs.beyond.add_packets.Goals as goal

pub packet_to-requires : goal.packet_to-requires
packet_to-requires c =
    let target = c.args.target in
    let first = (outboxes_of c.args.boxes.now target).first in
    c.requires target (c.loop-posted.number - first) (posted_of c.in-Some.posted.now) (sym c.in-Some.ensures)

pub loop-posted-preserved : goal.loop-posted-preserved
loop-posted-preserved c =
    let source = c.args.source in
    let target = c.args.target in
    let box = outboxes_of c.args.boxes.now target in
    let number = c.loop-posted.number in
    let posted = posted_of c.in-Some.posted.now in
    let before = c.loop-posted.packets.items in
    let made = c.in_ok-packet_to.field-0 in
    let so_far = c.loop-posted.invariant in
    let there : slice_get box.messages (number - box.first) ≡ Some posted = sym c.in-Some.ensures in
    let same : packet_of made ≡ packet_with source target (number, posted) = c.in_ok-packet_to.ensures in
    let joined =
    packet_joined source target number box posted (packet_of made) (map packet_of before) (map packet_of c.push.new.self.items) (map packet_of c.args.packets.now.items ++ packets_from source target c.args.from box) so_far.begun there same
    (ap (map packet_of) c.in_ok-push.ensures.items ∙ map_push packet_of before made) so_far.so_far in
    let next = c.in_ok-number.ensures in
    record {
      begun = let begun = so_far.begun in omega (arith, next, begun);
      so_far = ap (λ (n : ℕ). map packet_of c.push.new.self.items ++ packets_from source target n box) next ∙ joined;
    }

pub returns : goal.returns
returns c =
    let source = c.args.source in
    let target = c.args.target in
    let box = outboxes_of c.args.boxes.now target in
    packets_joined source target c.loop-posted.number box (map packet_of c.loop-posted.packets.items) (map packet_of c.args.packets.now.items ++ packets_from source target c.args.from box)
    (sym c.in_default.ensures) c.loop-posted.invariant.so_far
