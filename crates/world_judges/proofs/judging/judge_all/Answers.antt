use Rattle.std.proofs.Common.{◌∙◌, ℕ, Bool, false, refl, subst}
use Rattle.cell_steps.specs.declared.mode.Mode.{Mode}
use Rattle.world_core.specs.World.{world}
use Rattle.world_judges.proofs.Held.{pass_holds_less}
use Rattle.world_judges.specs.Judging.{Pass}
use Rattle.world_judges.specs.Judging.Passes.{none, one_more}
use Rattle.world_judges.proofs.judging.judge_all.Goals as goal

pub passes-init : goal.passes-init
passes-init g c = record {
  tells = λ told. told;
  keeps = c.requires.kept;
  stands = c.requires.stands;
  mode = refl;
  nodes = refl;
  passes = none;
}

pub passes-smaller : goal.passes-smaller
passes-smaller g c =
    let rules = g.M.Picked.rules in
    let before = c.passes.life in
    let later = c.judge_each.new.life in
    let old = world c.passes.store before.cells.items before.packets.items before.marks.items before.ended in
    let new = world c.judge_each.new.store later.cells.items later.packets.items later.marks.items later.ended in
    pass_holds_less rules before.mode before.nodes old new (subst (λ (b : Bool). Pass rules before.mode before.nodes old rules.count b new) c.in-Ok-false.field-0-test c.in-Ok-false.ensures.judges)

pub passes-preserved : goal.passes-preserved
passes-preserved g c =
    let inv = c.passes.invariant in
    let rules = g.M.Picked.rules in
    let h = c.judge_each.ensures in
    let life = c.args.life.now in
    let before = c.passes.life in
    let later = c.judge_each.new.life in
    let old = world c.passes.store before.cells.items before.packets.items before.marks.items before.ended in
    let new = world c.judge_each.new.store later.cells.items later.packets.items later.marks.items later.ended in
    let judged : Pass rules before.mode before.nodes old rules.count false new = subst (λ (b : Bool). Pass rules before.mode before.nodes old rules.count b new) c.in-Ok-false.field-0-test c.in-Ok-false.ensures.judges in
    let pass : Pass rules life.mode life.nodes old rules.count false new = subst (λ (m : Mode). Pass rules m life.nodes old rules.count false new) inv.mode (subst (λ (n : ℕ). Pass rules before.mode n old rules.count false new) inv.nodes judged) in
    record {
      tells = λ told. inv.tells (h.tells told);
      keeps = h.kept;
      stands = h.stands;
      mode = h.fixed.0 ∙ inv.mode;
      nodes = h.fixed.1 ∙ inv.nodes;
      passes = one_more inv.passes new pass;
    }
