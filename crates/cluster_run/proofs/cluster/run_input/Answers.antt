use Rattle.std.proofs.Common.{◌≤◌, ◌⊎◌, ◌∙◌, inl, inr, ℕ, List, sym, subst}
use Rattle.cluster_run.specs.Asked.{job_of}
use Rattle.cluster_run.specs.Comes.{KeepsFiles, LeavesLogs, NotOpened, WasServed}
use Rattle.cluster_run.proofs.Ends.{clock_fault, keeps_files, say_fault, site_fault}
use Rattle.cluster_run.proofs.Serves.{came_to, leaves}
use Rattle.cluster_run.proofs.cluster.run_input.Goals as goal
use Rattle.end_laws.proofs.FileAsked.{file_asked}
use Rattle.engine_rounds.specs.Heard.{heard_of}
use Rattle.hub_store.specs.Trail.{Settled}
use Rattle.node_core.specs.declared.halt.Halt.TheVariants as halts
use Rattle.run_causes.specs.declared.cause.Cause.{Cause}
use Rattle.site_model.specs.Calls.{HasRisen}
use Rattle.site_model.specs.History.{content_of}

pub returns-clause-comes : goal.returns-clause-comes
returns-clause-comes g c = λ tells asks.
    let e = c.serve-site.ensures in
    let r = c.serve-site.result in
    let end = c.end_with.ensures in
    let shape = c.shape_of-shape.ensures in
    let options = c.args.options in
    let old = g.V.Site.history c.args.site in
    let files : ℕ → List ℕ = λ file. content_of file old in
    let told = subst g.V.Site.tells end.site tells in
    let core = came_to options (job_of c.args.input) _ _ _ c.of-machines.ensures shape.count shape.digest old (g.V.Site.history r.site) r.trail _ _ _ (heard_of (g.C.Clock.given c.args.clock) (g.C.Clock.given r.clock) (g.C.Clock.latest r.clock)) (g.V.Site.tells r.site) r.came r.port c.cause_of-cause.result
    c.requires.some (file_asked (files 1) (job_of c.args.input).requests asks.requests_in_file) shape.segment shape.batch shape.steps c.cause_of-cause.ensures asks e.nothing (e.during told) (e.refused told) e.synced e.served in
    subst (λ site. NotOpened options files old (g.V.Site.history site) c.end_with.result.trail c.end_with.result.cause ⊎ WasServed options files (heard_of (g.C.Clock.given c.args.clock) (g.C.Clock.given c.end_with.result.clock) (g.C.Clock.latest c.end_with.result.clock)) (g.V.Site.tells site) old (g.V.Site.history site) c.end_with.result.trail c.end_with.result.cause) (sym end.site)
    (subst (λ (t : List Settled). NotOpened options files old (g.V.Site.history r.site) t c.end_with.result.cause ⊎ WasServed options files (heard_of (g.C.Clock.given c.args.clock) (g.C.Clock.given c.end_with.result.clock) (g.C.Clock.latest c.end_with.result.clock)) (g.V.Site.tells r.site) old (g.V.Site.history r.site) t c.end_with.result.cause) (sym end.trail)
    (subst (λ (x : Cause). NotOpened options files old (g.V.Site.history r.site) r.trail x ⊎ WasServed options files (heard_of (g.C.Clock.given c.args.clock) (g.C.Clock.given c.end_with.result.clock) (g.C.Clock.latest c.end_with.result.clock)) (g.V.Site.tells r.site) old (g.V.Site.history r.site) r.trail x) (sym end.cause)
    (subst (λ clock. NotOpened options files old (g.V.Site.history r.site) r.trail c.cause_of-cause.result ⊎ WasServed options files (heard_of (g.C.Clock.given c.args.clock) (g.C.Clock.given clock) (g.C.Clock.latest clock)) (g.V.Site.tells r.site) old (g.V.Site.history r.site) r.trail c.cause_of-cause.result) (sym end.clock) core)))

pub returns-clause-clean : goal.returns-clause-clean
returns-clause-clean g c = λ tells refused.
    let e = c.serve-site.ensures in
    let r = c.serve-site.result in
    let end = c.end_with.ensures in
    let shape = c.shape_of-shape.ensures in
    let options = c.args.options in
    let old = g.V.Site.history c.args.site in
    let told = subst g.V.Site.tells end.site tells in
    let core = leaves options (job_of c.args.input) _ _ _ c.of-machines.ensures shape.count shape.digest old (g.V.Site.history r.site) r.trail refused (e.clean told) in
    subst (λ site. LeavesLogs options.partitions old (g.V.Site.history site) c.end_with.result.trail) (sym end.site)
    (subst (λ (t : List Settled). LeavesLogs options.partitions old (g.V.Site.history r.site) t) (sym end.trail) core)

pub returns-clause-untouched : goal.returns-clause-untouched
returns-clause-untouched g c =
    let e = c.serve-site.ensures in
    let r = c.serve-site.result in
    let end = c.end_with.ensures in
    let old = g.V.Site.history c.args.site in
    let core = keeps_files c.shape_of-shape.result.count old (g.V.Site.history r.site) r.came r.port c.cause_of-cause.result c.cause_of-cause.ensures e.synced in
    subst (λ site. KeepsFiles c.args.options.partitions old (g.V.Site.history site) c.end_with.result.cause) (sym end.site)
    (subst (λ (x : Cause). KeepsFiles c.args.options.partitions old (g.V.Site.history r.site) x) (sym end.cause)
    (subst (λ (n : ℕ). KeepsFiles n old (g.V.Site.history r.site) c.cause_of-cause.result) c.shape_of-shape.ensures.count core))

pub returns-clause-faults : goal.returns-clause-faults
returns-clause-faults g c =
    let e = c.serve-site.ensures in
    let r = c.serve-site.result in
    let end = c.end_with.ensures in
    let by = c.cause_of-cause.ensures in
    let cause = c.cause_of-cause.result in record {
      of_disk = λ is. subst (λ site. HasRisen (g.V.Site.disk_faults c.args.site) (g.V.Site.disk_faults site)) (sym end.site) (elim (site_fault r.came r.port cause by (sym end.cause ∙ is)) [ inl opened ↦ e.fault opened | inr halted ↦ e.halts halts.SiteFault halted ]);
      of_tape = λ is. subst (λ site. HasRisen (g.V.Site.say_faults c.args.site) (g.V.Site.say_faults site)) (sym end.site) (e.halts halts.SayFault (say_fault r.came r.port cause by (sym end.cause ∙ is)));
      of_clock = λ is. subst (λ clock. HasRisen (g.C.Clock.clock_faults c.args.clock) (g.C.Clock.clock_faults clock)) (sym end.clock) (e.clock_fault (clock_fault r.came r.port cause by (sym end.cause ∙ is)));
      disk = subst (λ site. g.V.Site.disk_faults c.args.site ≤ g.V.Site.disk_faults site) (sym end.site) e.later.0;
      tape = subst (λ site. g.V.Site.say_faults c.args.site ≤ g.V.Site.say_faults site) (sym end.site) e.later.1;
      clock = subst (λ clock. g.C.Clock.clock_faults c.args.clock ≤ g.C.Clock.clock_faults clock) (sym end.clock) e.ticks;
    }
