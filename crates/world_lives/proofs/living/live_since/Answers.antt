use Rattle.std.proofs.Common.{◌≡◌, ◌∙◌, ℕ, false, List, [], Err, Option, Some, IfSome, refl, sym, ap, subst}
use Rattle.call_begins.proofs.Going.{has_begun}
use Rattle.hub_store.specs.Trail.{settled_at}
use Rattle.open_logs.proofs.KeptRun.{kept_by_other, same_own}
use Rattle.open_logs.proofs.Picked.{origin_is}
use Rattle.open_logs.specs.Begun.{AreTheirs}
use Rattle.open_logs.specs.Picks.{files_of, origin_of}
use Rattle.open_logs.specs.declared.error.OpenError.{OpenError}
use Rattle.open_logs.specs.declared.error.OpenError.TheVariants as refusals
use Rattle.recover_core.specs.declared.error.RecoverError.TheVariants as errors
use Rattle.site_model.specs.Calls.{HasRisen}
use Rattle.order_laws.proofs.Stands.{order_stands}
use Rattle.part_steps.specs.States.{parts_in}
use Rattle.site_model.specs.History.{Step, back_to, content_of}
use Rattle.world_lives.specs.Begins.{rules_of}
use Rattle.world_lives.proofs.living.live_since.Goals as goal

pub placed_by-placed-requires : goal.placed_by-placed-requires
placed_by-placed-requires g c =
    let made = c.in-Ok.ensures.placed in
    let shape = c.args.shape in
    (made.0, (made.1, λ tells. subst (λ (steps : List Step). AreTheirs shape.count shape.digest (λ file. content_of file steps) made.0) (sym c.requires.since) (made.2 tells)))

pub live_named-requires-clause-made : goal.live_named-requires-clause-made
live_named-requires-clause-made g c = c.placed_by-placed.ensures.0

pub live_named-requires-clause-goes : goal.live_named-requires-clause-goes
live_named-requires-clause-goes g c = has_begun (g.R.Reactions.flows c.args.reactions.now) c.args.shape.count c.args.shape.digest (g.V.Site.history c.open_logs.new.site) c.in-Ok.begun c.placed_by-placed.result.run 0 64 [] false c.placed_by-placed.ensures.0

pub live_named-requires-clause-origin : goal.live_named-requires-clause-origin
live_named-requires-clause-origin g c = origin_is c.args.shape.count c.args.shape.digest (files_of c.in-Ok.begun.logs.items) (g.V.Site.history c.open_logs.new.site) (parts_in c.in-Ok.begun.states.items)

pub live_named-requires-clause-begun : goal.live_named-requires-clause-begun
live_named-requires-clause-begun g c tells = (c.in-Ok.ensures.opened tells).rests

pub returns-in-Ok-clause-lived : goal.returns-in-Ok-clause-lived
returns-in-Ok-clause-lived g c = λ none.
    let e = c.live_named.ensures in
    let flows = g.R.Reactions.flows c.args.reactions.now in
    let shape = c.args.shape in
    let run = c.placed_by-placed.result.run in
    let made = c.placed_by-placed.ensures in
    let before : ℕ → List ℕ = λ file. content_of file (g.V.Site.history c.args.site) in
    let theirs : g.V.Site.tells c.open_logs.new.site → AreTheirs shape.count shape.digest before run = λ told. subst (λ (steps : List Step). AreTheirs shape.count shape.digest (λ file. content_of file steps) run) c.requires.since (made.1 told) in
    record {
      begun = c.in-Ok.begun;
      run = run;
      steps = g.V.Site.history c.open_logs.new.site;
      made = made.0;
      theirs = λ tells. theirs (e.tells tells);
      was = e.was none;
      opening = λ tells. c.open_logs.ensures.during (e.tells tells);
      further = λ tells. e.further tells none;
      nothing = λ tells. e.unsettled tells none;
      crash = λ tells other kept moment low high files image.
          let told = e.tells tells in
          let keeps = kept_by_other flows shape.count shape.digest before c.in-Ok.begun run made.0 (theirs told) other kept in
          let begins = (c.in-Ok.ensures.opened told).begins (rules_of flows shape.count c.in-Ok.begun run) (record { flows_are = refl; count_is = refl; states = refl; kept = keeps }) in
          let on = e.crash tells none shape.digest begins moment low high files image in
          let steps = g.V.Site.history c.live_named.result.site in (
            on.0,
            order_stands (rules_of flows shape.count c.in-Ok.begun run) other kept.states on.0 shape.digest (origin_of shape.count shape.digest (g.V.Site.history c.open_logs.new.site) c.in-Ok.begun) (back_to moment steps) (settled_at moment c.live_named.result.trail) files
                kept.below (λ partition low. same_own shape.count shape.digest before run other made.0.below kept.below (theirs told) kept.kept partition) kept.made on.1,
          );
    }

pub returns-in-Err-clause-fault : goal.returns-in-Err-clause-fault
returns-in-Err-clause-fault g c = λ refused.
    let is : Some c.in-Err.error ≡ Some (refusals.Refused errors.SiteFault) = sym c.refused_by.ensures.refused ∙ refused in
    let same : c.in-Err.error ≡ refusals.Refused errors.SiteFault = cc is in
    subst (λ site. HasRisen (g.V.Site.disk_faults c.args.site) (g.V.Site.disk_faults site)) (sym c.refused_by.ensures.site) (c.open_logs.ensures.fault (c.in-Err.is ∙ ap Err same))

pub returns-in-Ok-clause-fault : goal.returns-in-Ok-clause-fault
returns-in-Ok-clause-fault g c = λ refused.
    let wrong : refusals.Refused errors.SiteFault ≡ refusals.Refused errors.Memory = subst (λ (o : Option OpenError). IfSome o (λ e. e ≡ refusals.Refused errors.Memory)) refused c.live_named.ensures.memory in
    absurd (cc wrong)
