use Rattle.std.proofs.Common.{◌+◌, ◌-◌, ◌/◌, arith}
use Rattle.commit_gate.specs.declared.past.Stretch.{Stretch}
use Rattle.commit_gate.proofs.Stretches.{first, next_at}
use Rattle.commit_gate.proofs.past.stretch_at.Goals as goal

pub loop-low-init : goal.loop-low-init
loop-low-init c = record {
  apart = omega arith;
  inside = omega arith;
  begun = let from_zero = first 0 c.args.stretches.now in omega (arith, from_zero);
  not_ended = λ low. absurd (omega (arith, low));
}

pub loop-low-preserved-then-stretches-middle : goal.loop-low-preserved-then-stretches-middle
loop-low-preserved-then-stretches-middle c =
    let inv = c.loop-low.invariant in
    let none : Stretch = record { incarnation = 0; end = 0 } in
    let middle = c.loop-low.low + (c.loop-low.high - c.loop-low.low) / 2 in
    let ends = next_at c.args.stretches.now middle none (omega (arith, inv.inside)) in
    record {
      apart = omega arith;
      inside = inv.inside;
      begun = omega (arith, ends);
      not_ended = inv.not_ended;
    }

pub loop-low-preserved : goal.loop-low-preserved
loop-low-preserved c =
    let inv = c.loop-low.invariant in
    let none : Stretch = record { incarnation = 0; end = 0 } in
    let middle = c.loop-low.low + (c.loop-low.high - c.loop-low.low) / 2 in
    let ends = next_at c.args.stretches.now middle none (omega (arith, inv.inside)) in
    record {
      apart = omega arith;
      inside = omega (arith, inv.inside);
      begun = inv.begun;
      not_ended = λ low. omega (arith, ends);
    }
