use Rattle.std.proofs.Common.{◌∙◌, refl}
use Rattle.node_core.proofs.Waits.{more_came, nothing_came, one_came}
use Rattle.node_core.proofs.stepping.take_in.Goals as goal

pub packets-init : goal.packets-init
packets-init g c = record { many = refl; waits = nothing_came c.args.part c.args.cells.now.items c.requires.place; joined = λ s all. all }

pub packets-preserved : goal.packets-preserved
packets-preserved g c =
    let inv = c.packets.invariant in
    let h = c.in_ok-arrive_at.ensures in
    let came = one_came g.M.Picked.rules c.args.part c.in-Some.packet c.in_ok-arrive_at.field-0 c.packets.cells.items c.arrive_at.new.cells.items h.arrives in
    record {
      many = h.many ∙ inv.many;
      waits = more_came c.args.part c.args.cells.now.items c.packets.cells.items c.arrive_at.new.cells.items inv.waits came;
      joined = λ s all. h.joined s (inv.joined s all);
    }
