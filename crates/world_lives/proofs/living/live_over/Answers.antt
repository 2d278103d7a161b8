use Rattle.std.proofs.Common.{◌∙◌, ℕ, List, [], sym, ap, subst}
use Rattle.call_begins.proofs.Further.{run_further, nothing_before}
use Rattle.call_begins.proofs.Says.{all_said}
use Rattle.call_begins.specs.Says.{SaysAll}
use Rattle.cell_steps.specs.declared.mode.Mode.{Mode}
use Rattle.commit_gate.specs.Ledgers.{log_length}
use Rattle.gated_store.specs.Causal.{Causal}
use Rattle.gated_store.specs.Follows.{ledgers_at}
use Rattle.hub_store.specs.Changes.{trail_in, told_in}
use Rattle.hub_store.specs.Trail.{Settled, settled_at}
use Rattle.many_rules.specs.Ledgers.{ledgers}
use Rattle.world_steps.specs.Cells.{AllKnown}
use Rattle.world_core.specs.World.{world}
use Rattle.world_laws.proofs.Grounds.{well_known}
use Rattle.site_model.specs.Moments.{Always}
use Rattle.world_lives.specs.Lives.{Lives, LeavesRuns}
use Rattle.world_lives.proofs.Going.{all_answered}
use Rattle.world_lives.proofs.Passed.{lives_pass}
use Rattle.world_lives.proofs.Saying.{lives_well}
use Rattle.world_lives.proofs.living.live_over.Goals as goal

pub returns-clause-answers : goal.returns-clause-answers
returns-clause-answers g c = λ none. all_answered _ _ _ _ _ _ _ c.play-answers.ensures.lives

pub returns-clause-was : goal.returns-clause-was
returns-clause-was g c = λ none.
    let rules = g.M.Picked.rules in
    let life = c.in-Ok.life in
    let after = c.play-answers.new.life in
    let shape = c.args.shape in
    let first = world c.begin_life.new.store life.cells.items life.packets.items life.marks.items life.ended in
    let last = world c.play-answers.new.store after.cells.items after.packets.items after.marks.items after.ended in
    let came = c.play-answers.result.items in
    let done = c.args.deeds.items in
    let known : AllKnown rules life.cells.items = subst (AllKnown rules) c.deref.ensures.value c.look_at.ensures in
    let well = well_known g.M.Picked.origin rules g.M.Picked.origin.count c.begin_life.new.store life.cells.items life.packets.items life.marks.items life.ended c.requires.begun c.begin_life.ensures.kept g.M.Picked.counts c.in-Ok.ensures.stands known in
    let lives : Lives rules shape.mode shape.nodes first done came last =
    subst (λ (m : Mode). Lives rules m shape.nodes first done came last) c.in-Ok.ensures.shape.0 (subst (λ (n : ℕ). Lives rules life.mode n first done came last) c.in-Ok.ensures.shape.1 c.play-answers.ensures.lives) in
    record {
      first = first;
      last = last;
      going = c.in-Ok.ensures.going;
      unsettled = ap trail_in c.begin_life.ensures.logs ∙ c.requires.untouched.trail;
      silent = ap told_in c.begin_life.ensures.logs ∙ c.requires.untouched.told;
      new = c.in-Ok.ensures.new;
      well = well;
      current = c.in-Ok.ensures.current;
      lives = lives;
      passed = lives_pass rules shape.mode shape.nodes first last done came well c.in-Ok.ensures.new lives;
      settled = c.end_call-site-2.ensures.trail;
      causal = subst (λ (t : List Settled). Causal (λ partition. ledgers rules partition []) (λ settled partition. log_length (ledgers_at (ledgers rules) settled partition)) t) (sym c.end_call-site-2.ensures.trail) c.end_call-site-2.ensures.causal;
      said = λ tells on.
          let e = c.end_call-site-2.ensures in
          let logs = c.play-answers.new.store.logs in
          let cut = (lives_well rules shape.mode shape.nodes first last done came well lives).stands.whole on in
          let says = all_said rules g.M.Picked.origin (g.V.Site.history logs.site) (trail_in logs) (told_in logs) ((c.play-answers.ensures.kept.sound.told (subst g.V.Site.tells e.site tells)).rests cut) in
          subst (λ site. SaysAll rules g.M.Picked.origin.steps (g.V.Site.history site) c.end_call-site-2.result.trail (told_in logs)) (sym e.site)
          (subst (λ (t : List Settled). SaysAll rules g.M.Picked.origin.steps (g.V.Site.history logs.site) t (told_in logs)) (sym e.trail) says);
    }

pub returns-clause-crash : goal.returns-clause-crash
returns-clause-crash g c = λ tells none digest begins.
    let rules = g.M.Picked.rules in
    let o = g.M.Picked.origin in
    let logs = c.play-answers.new.store.logs in
    let e = c.end_call-site-2.ensures in
    subst (λ site. LeavesRuns rules digest o (g.V.Site.history site) c.end_call-site-2.result.trail) (sym e.site)
    (subst (λ (t : List Settled). LeavesRuns rules digest o (g.V.Site.history logs.site) t) (sym e.trail)
    (λ moment low high files image. (logs.latest, e.crash digest (subst g.V.Site.tells e.site tells) begins c.requires.begun.numbered moment low high files image)))

pub returns-clause-further : goal.returns-clause-further
returns-clause-further g c = λ tells none.
    let e = c.end_call-site-2.ensures in
    subst (λ site. Always (λ moment. Unit {0}) g.M.Picked.origin.steps (g.V.Site.history site)) (sym e.site) (run_further (c.play-answers.ensures.kept.sound.told (subst g.V.Site.tells e.site tells)).runs)

pub returns-clause-unsettled : goal.returns-clause-unsettled
returns-clause-unsettled g c = λ tells none moment low.
    let e = c.end_call-site-2.ensures in
    ap (settled_at moment) e.trail ∙ nothing_before (c.play-answers.ensures.kept.sound.told (subst g.V.Site.tells e.site tells)).runs moment low
