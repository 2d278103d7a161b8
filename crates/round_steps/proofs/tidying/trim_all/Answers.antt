use Rattle.std.proofs.Common.{◌∙◌}
use Rattle.std.proofs.Math.Nat.{le_of_eq}
use Rattle.cell_frames.specs.Joined.{view_of}
use Rattle.node_core.proofs.Frames.{short_cells}
use Rattle.round_steps.proofs.tidying.trim_all.Goals as goal

pub parts-preserved : goal.parts-preserved
parts-preserved g c =
    let h = c.in_ok-trim_at.ensures in
    let inv = c.parts.invariant in
    let view = view_of c.args.store.now in
    let joined = h.joined view (λ read inside. le_of_eq (c.requires.marks.reads read inside)) inv.joined in
    record {
      begun = inv.begun;
      serves = inv.serves;
      some = inv.some;
      few = inv.few;
      many = h.many ∙ inv.many;
      short = short_cells g.M.Picked.rules view c.parts.cells.items c.trim_at.new.cells.items h.many inv.joined joined inv.short;
      kept = inv.kept;
      still = inv.still;
      whole = inv.whole;
      joined = joined;
    }
