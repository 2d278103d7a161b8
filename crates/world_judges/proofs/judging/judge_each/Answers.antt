use Rattle.std.proofs.Common.{◌≡◌, ◌∙◌, ◌&&◌, ◌+◌, ℕ, Bool, true, false, refl, sym, ap, subst, arith}
use Rattle.cell_steps.specs.declared.mode.Mode.{Mode}
use Rattle.world_core.specs.Happens.{Happens}
use Rattle.world_steps.specs.Cells.{AllKnown}
use Rattle.world_core.specs.World.{world}
use Rattle.spec_tracker.specs.declared.marks.Dep.{Dep}
use Rattle.world_core.specs.declared.answer.Answer.{Answer}
use Rattle.world_core.specs.declared.answer.Answer.TheVariants as answers
use Rattle.world_core.specs.declared.event.Event.{Event}
use Rattle.world_core.specs.declared.event.Event.TheVariants as events
use Rattle.world_judges.specs.Judging.{is_kept, is_judged, Pass}
use Rattle.world_judges.specs.Judging.Pass.{begins, goes_on}
use Rattle.world_laws.proofs.Grounds.{well_known}
use Rattle.world_judges.proofs.judging.judge_each.Goals as goal
use Rattle.world_judges.proofs.judging.judge_each.Goals.{in-Kept, in-Rewound}

and_true : (b : Bool) → (b && true) ≡ b
and_true true = refl
and_true false = refl

and_false : (b : Bool) → (b && false) ≡ false
and_false true = refl
and_false false = refl

-- what is neither Kept nor Rewound judged no cell
not_judged : (answer : Answer) → (answer ≡ answers.Kept → ⊥) → ((floor : ℕ) (dep : Dep) → answer ≡ answers.Rewound floor dep → ⊥) → is_judged answer ≡ false
not_judged answers.Kept not_kept not_rewound = absurd (not_kept refl)
not_judged (answers.Rewound floor dep) not_kept not_rewound = absurd (not_rewound floor dep refl)
not_judged other not_kept not_rewound = refl

pub parts-init : goal.parts-init
parts-init g c = record {
  tells = λ told. told;
  keeps = c.requires.kept;
  stands = c.requires.stands;
  mode = refl;
  nodes = refl;
  pass = begins;
}

pub parts-preserved : goal.parts-preserved
parts-preserved g c =
    let inv = c.parts.invariant in
    let rules = g.M.Picked.rules in
    let h = c.happen-answer.ensures in
    let life = c.args.life.now in
    let before = c.parts.life in
    let later = c.happen-answer.new.life in
    let answer = c.happen-answer.result in
    let old = world c.parts.store before.cells.items before.packets.items before.marks.items before.ended in
    let new = world c.happen-answer.new.store later.cells.items later.packets.items later.marks.items later.ended in
    let event : Event = events.Judge c.parts.partition 0 in
    let happened : Happens rules life.mode life.nodes old event answer new = subst (λ (m : Mode). Happens rules m life.nodes old event answer new) inv.mode (subst (λ (n : ℕ). Happens rules before.mode n old event answer new) inv.nodes h.happens) in
    let known : AllKnown rules later.cells.items = subst (AllKnown rules) c.deref.ensures.value c.look_at.ensures in
    let well = well_known g.M.Picked.origin rules g.M.Picked.origin.count c.happen-answer.new.store later.cells.items later.packets.items later.marks.items later.ended c.requires.begun h.kept g.M.Picked.counts h.stands known in
    let first = world c.args.store.now life.cells.items life.packets.items life.marks.items life.ended in
    let Judged : Bool → Type 0 = λ (b : Bool). Pass rules life.mode life.nodes first (c.parts.partition + 1) b new in
    elim c.match-answer.branch [
      | in-Kept w ↦
          let both : (c.parts.kept && is_kept answer) ≡ c.match-answer.kept = ap (λ (a : Answer). c.parts.kept && is_kept a) w.in-Kept.is ∙ and_true c.parts.kept ∙ sym w.kept-is in
          record {
            tells = λ told. inv.tells (h.tells told);
            keeps = h.kept;
            stands = h.stands;
            mode = h.fixed.0 ∙ inv.mode;
            nodes = h.fixed.1 ∙ inv.nodes;
            pass = subst (λ (b : Bool). Judged b) both (goes_on inv.pass answer new (ap is_judged w.in-Kept.is) happened well);
          }
      | in-Rewound w ↦
          let both : (c.parts.kept && is_kept answer) ≡ c.match-answer.kept = ap (λ (a : Answer). c.parts.kept && is_kept a) w.in-Rewound.is ∙ and_false c.parts.kept ∙ sym w.kept-is in
          record {
            tells = λ told. inv.tells (h.tells told);
            keeps = h.kept;
            stands = h.stands;
            mode = h.fixed.0 ∙ inv.mode;
            nodes = h.fixed.1 ∙ inv.nodes;
            pass = subst (λ (b : Bool). Judged b) both (goes_on inv.pass answer new (ap is_judged w.in-Rewound.is) happened well);
          }
    ]

pub returns-in_default : goal.returns-in_default
returns-in_default g c =
    let inv = c.parts.invariant in
    let rules = g.M.Picked.rules in
    let h = c.happen-answer.ensures in
    let life = c.args.life.now in
    let before = c.parts.life in
    let later = c.happen-answer.new.life in
    let answer = c.happen-answer.result in
    let old = world c.parts.store before.cells.items before.packets.items before.marks.items before.ended in
    let new = world c.happen-answer.new.store later.cells.items later.packets.items later.marks.items later.ended in
    let event : Event = events.Judge c.parts.partition 0 in
    let happened : Happens rules life.mode life.nodes old event answer new = subst (λ (m : Mode). Happens rules m life.nodes old event answer new) inv.mode (subst (λ (n : ℕ). Happens rules before.mode n old event answer new) inv.nodes h.happens) in
    let known : AllKnown rules later.cells.items = subst (AllKnown rules) c.deref.ensures.value c.look_at.ensures in
    let well = well_known g.M.Picked.origin rules g.M.Picked.origin.count c.happen-answer.new.store later.cells.items later.packets.items later.marks.items later.ended c.requires.begun h.kept g.M.Picked.counts h.stands known in
    record {
      tells = λ told. inv.tells (h.tells told);
      kept = h.kept;
      stands = h.stands;
      judges = record {
        judged = c.parts.partition;
        kept = c.parts.kept;
        before = old;
        pass = inv.pass;
        below = let test = c.parts-test.true in let len = c.len-count.ensures in let many = c.requires.stands.many in let few = c.requires.stands.few in let ok = life.cells.ok.0 in omega (arith, test, len, many, few, ok);
        other = not_judged answer c.in_default.not-Kept c.in_default.not-Rewound;
        happens = happened;
        well = well;
      };
      fixed = (h.fixed.0 ∙ inv.mode, h.fixed.1 ∙ inv.nodes);
    }
