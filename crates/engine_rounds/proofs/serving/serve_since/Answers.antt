use Rattle.std.proofs.Common.{◌≡◌, ◌∙◌, Err, IfSome, ap, ℕ, List, map, refl, sym, subst, true, arith}
use Rattle.call_begins.proofs.Going.{has_begun}
use Rattle.call_begins.specs.Begins.{call_rules}
use Rattle.client_order.specs.Clashes.{taken_in, NoClash}
use Rattle.dura_value.specs.declared.messages.Request.{Request as OwnRequest}
use Rattle.engine_rounds.proofs.Given.{begins_so, fault_then}
use Rattle.engine_rounds.proofs.Opens.{stands_orderly, synced_memory, why_memory}
use Rattle.engine_rounds.specs.Served.{refusal_in}
use Rattle.engine_rounds.specs.declared.serving.Came.{Came}
use Rattle.engine_rounds.specs.declared.serving.Came.TheVariants as cames
use Rattle.open_logs.specs.declared.error.OpenError.TheVariants as refusals
use Rattle.recover_core.specs.declared.error.RecoverError.TheVariants as errors
use Rattle.site_model.specs.Calls.{HasRisen}
use Rattle.hub_store.specs.Trail.{settled_at}
use Rattle.node_core.proofs.Steps.{rises_later}
use Rattle.open_logs.proofs.KeptRun.{kept_by_other, same_own}
use Rattle.open_logs.proofs.Picked.{origin_is}
use Rattle.open_logs.specs.Begun.{AreTheirs}
use Rattle.log_files.specs.Fronts.{AreSyncs}
use Rattle.open_logs.specs.Picks.{files_of, origin_of}
use Rattle.open_logs.specs.Spent.{AreRefused}
use Rattle.order_laws.proofs.Stands.{order_stands}
use Rattle.part_steps.specs.States.{parts_in}
use Rattle.request_reader.specs.Line.{request_of}
use Rattle.site_model.specs.History.{Step, back_to, content_of}
use Rattle.engine_rounds.proofs.serving.serve_since.Goals as goal

pub placed_by-placed-requires : goal.placed_by-placed-requires
placed_by-placed-requires g c =
    let made = c.in-Ok.ensures.placed in
    let shape = c.args.shape in
    (made.0, (made.1, λ tells. subst (λ (steps : List Step). AreTheirs shape.count shape.digest (λ file. content_of file steps) made.0) (sym c.requires.since) (made.2 tells)))

pub serve_named-requires-clause-made : goal.serve_named-requires-clause-made
serve_named-requires-clause-made g c = c.placed_by-placed.ensures.0

pub serve_named-requires-clause-goes : goal.serve_named-requires-clause-goes
serve_named-requires-clause-goes g c = has_begun (g.R.Reactions.flows c.args.reactions.now) c.args.shape.count c.args.shape.digest (g.V.Site.history c.open_logs.new.site) c.in-Ok.begun c.placed_by-placed.result.run c.first_moment-since.result.0 c.args.shape.pace.batch (map request_of c.args.requests.items) true c.placed_by-placed.ensures.0

pub serve_named-requires-clause-origin : goal.serve_named-requires-clause-origin
serve_named-requires-clause-origin g c = origin_is c.args.shape.count c.args.shape.digest (files_of c.in-Ok.begun.logs.items) (g.V.Site.history c.open_logs.new.site) (parts_in c.in-Ok.begun.states.items)

pub serve_named-requires-clause-begun : goal.serve_named-requires-clause-begun
serve_named-requires-clause-begun g c tells = (c.in-Ok.ensures.opened tells).rests

pub returns-in-Ok-clause-served : goal.returns-in-Ok-clause-served
returns-in-Ok-clause-served g c = λ none.
    let e = c.serve_named.ensures in
    let flows = g.R.Reactions.flows c.args.reactions.now in
    let shape = c.args.shape in
    let requests = map request_of c.args.requests.items in
    let run = c.placed_by-placed.result.run in
    let made = c.placed_by-placed.ensures in
    let since = c.first_moment-since.result.0 in
    let moment_is = c.first_moment-since.ensures in
    let rules = call_rules flows shape.count c.in-Ok.begun run since shape.pace.batch requests true in
    let before : ℕ → List ℕ = λ file. content_of file (g.V.Site.history c.args.site) in
    let theirs : g.V.Site.tells c.open_logs.new.site → AreTheirs shape.count shape.digest before run = λ told. subst (λ (steps : List Step). AreTheirs shape.count shape.digest (λ file. content_of file steps) run) c.requires.since (made.1 told) in
    record {
      begun = c.in-Ok.begun;
      run = run;
      steps = g.V.Site.history c.open_logs.new.site;
      since = since;
      begins =
          let served = c.serve_named.result in
          begins_so rules shape.pace.steps (g.C.Clock.given c.args.clock) (g.C.Clock.given c.first_moment-since.new.clock) (g.C.Clock.given served.clock) (g.C.Clock.latest served.clock) served.trail served.came since c.first_moment-since.result.1 moment_is.given moment_is.silent (e.by_clock none)
          (λ not. e.unheard not none);
      made = made.0;
      no_clash = subst (λ (q : List OwnRequest). NoClash (taken_in shape.count (parts_in c.in-Ok.begun.states.items)) (map request_of q)) c.deref.ensures.value c.in-Ok.ensures.no_clash;
      causal = e.causal none;
      theirs = λ tells. theirs (e.tells tells);
      opening = λ tells. c.open_logs.ensures.during (e.tells tells);
      further = λ tells. e.further tells none;
      nothing = λ tells. e.unsettled tells none;
      by_the_end = λ tells. e.settled tells none;
      crash = λ tells other kept moment low high files image.
          let told = e.tells tells in
          let keeps = kept_by_other flows shape.count shape.digest before c.in-Ok.begun run made.0 (theirs told) other kept in
          let begins = (c.in-Ok.ensures.opened told).begins rules (record { flows_are = refl; count_is = refl; states = refl; kept = keeps }) in
          let on = e.crash tells none shape.digest begins moment low high files image in
          let steps = g.V.Site.history c.serve_named.result.site in
          let origin = origin_of shape.count shape.digest (g.V.Site.history c.open_logs.new.site) c.in-Ok.begun in
          let trail = settled_at moment c.serve_named.result.trail in
          let stands = order_stands rules other kept.states on.0 shape.digest origin (back_to moment steps) trail files kept.below
          (λ partition low. same_own shape.count shape.digest before run other made.0.below kept.below (theirs told) kept.kept partition) kept.made on.3.on in
          let ordered = stands_orderly (call_rules flows shape.count c.in-Ok.begun other since shape.pace.batch requests true) on.0 shape.digest origin (back_to moment steps) trail files stands in
          (on.0, on.1, ordered.0, ordered.1);
      short = λ tells. e.short tells none;
      on = e.on none;
    }

pub returns-in-Ok-clause-refused : goal.returns-in-Ok-clause-refused
returns-in-Ok-clause-refused g c = λ tells.
    let shape = c.args.shape in
    why_memory (g.R.Reactions.flows c.args.reactions.now) shape.count shape.digest (λ file. content_of file (g.V.Site.history c.args.site)) (map request_of c.args.requests.items) (refusal_in c.serve_named.result.came) c.serve_named.ensures.memory

pub returns-in-Ok-clause-halts : goal.returns-in-Ok-clause-halts
returns-in-Ok-clause-halts g c = λ halt came.
    let e = c.serve_named.ensures in
    let before = c.args.site in
    let opened = c.open_logs.new.site in
    let now = c.serve_named.result.site in
    let say = c.open_logs.ensures.say_faults in
    rises_later (g.V.Site.disk_faults before) (g.V.Site.say_faults before) (g.V.Site.disk_faults opened) (g.V.Site.say_faults opened) (g.V.Site.disk_faults now) (g.V.Site.say_faults now) halt c.open_logs.ensures.later e.later.0 (omega (arith, say)) e.later.1 (e.halts halt came)

pub returns-in-Ok-clause-clock_fault : goal.returns-in-Ok-clause-clock_fault
returns-in-Ok-clause-clock_fault g c = λ came.
    let first = c.first_moment-since.ensures in
    let e = c.serve_named.ensures in
    fault_then (g.C.Clock.clock_faults c.args.clock) (g.C.Clock.clock_faults c.first_moment-since.new.clock) (g.C.Clock.clock_faults c.serve_named.result.clock) c.first_moment-since.result.1 first.ticks e.ticks first.fault (λ was. e.clock_fault was came)

pub returns-in-Err-clause-fault : goal.returns-in-Err-clause-fault
returns-in-Err-clause-fault g c = λ came.
    let is : cames.Refused c.in-Err.error ≡ cames.Refused (refusals.Refused errors.SiteFault) = sym c.refused_by.ensures.came ∙ came in
    let same : c.in-Err.error ≡ refusals.Refused errors.SiteFault = cc is in
    subst (λ site. HasRisen (g.V.Site.disk_faults c.args.site) (g.V.Site.disk_faults site)) (sym c.refused_by.ensures.site) (c.open_logs.ensures.fault (c.in-Err.is ∙ ap Err same))

pub returns-in-Ok-clause-fault : goal.returns-in-Ok-clause-fault
returns-in-Ok-clause-fault g c = λ came.
    let wrong : refusals.Refused errors.SiteFault ≡ refusals.Refused errors.Memory = subst (λ (x : Came). IfSome (refusal_in x) (λ e. e ≡ refusals.Refused errors.Memory)) came c.serve_named.ensures.memory in
    absurd (cc wrong)

pub returns-in-Ok-clause-synced : goal.returns-in-Ok-clause-synced
returns-in-Ok-clause-synced g c =
    synced_memory c.args.shape.count (g.V.Site.history c.args.site) (g.V.Site.history c.serve_named.result.site) (refusal_in c.serve_named.result.came) c.serve_named.ensures.memory

pub returns-in-Ok-clause-clean : goal.returns-in-Ok-clause-clean
returns-in-Ok-clause-clean g c = λ tells refused.
    let shape = c.args.shape in
    let before : ℕ → List ℕ = λ file. content_of file (g.V.Site.history c.args.site) in
    absurd (c.in-Ok.ensures.accepts (c.serve_named.ensures.tells tells)
    (subst (λ (q : List OwnRequest). AreRefused (g.R.Reactions.flows c.args.reactions.now) shape.count shape.digest before (map request_of q)) (sym c.deref.ensures.value) refused))

pub returns-in-Err-clause-clean : goal.returns-in-Err-clause-clean
returns-in-Err-clause-clean g c = λ tells refused.
    let shape = c.args.shape in
    let old = g.V.Site.history c.args.site in
    let e = c.refused_by.ensures in
    let own = subst (λ (q : List OwnRequest). AreRefused (g.R.Reactions.flows c.args.reactions.now) shape.count shape.digest (λ file. content_of file old) (map request_of q)) (sym c.deref.ensures.value) refused in
    (subst (λ site. AreSyncs shape.count old (g.V.Site.history site)) (sym e.site) (c.open_logs.ensures.clean (subst g.V.Site.tells e.site tells) own), e.trail)
