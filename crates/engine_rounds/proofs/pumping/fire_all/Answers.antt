use Rattle.std.proofs.Common.{◌∙◌, refl, arith}
use Rattle.engine_rounds.proofs.Heard.{heard_one, none_heard, heard_by_all}
use Rattle.engine_rounds.proofs.pumping.fire_all.Goals as goal

pub parts-init : goal.parts-init
parts-init g c = record { many = refl; heard = none_heard c.args.now c.args.cells.now.items }

pub parts-preserved : goal.parts-preserved
parts-preserved g c =
    let h = c.fire_at.ensures in
    record {
      many = h.many ∙ c.parts.invariant.many;
      heard = heard_one c.args.now c.args.cells.now.items c.parts.cells.items c.fire_at.new.cells.items c.parts.part c.parts.invariant.heard h.moment;
    }

pub returns-clause-heard : goal.returns-clause-heard
returns-clause-heard g c =
    let test = c.parts-test.false in
    let len = c.len-count.ensures in
    let many = c.parts.invariant.many in
    let few = c.requires.few in
    heard_by_all c.args.now c.args.cells.now.items c.parts.cells.items c.parts.part (omega (arith, test, len, many, few)) c.parts.invariant.heard
