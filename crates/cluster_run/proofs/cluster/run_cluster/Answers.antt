use Rattle.std.proofs.Common.{◌≡◌, ◌⊎◌, ◌∙◌, inr, ℕ, List, Some, None, Err, refl, sym, ap, subst}
use Rattle.cluster_run.specs.Asked.{Asks, Job, job_of}
use Rattle.cluster_run.specs.Comes.AreUnfit.{for_input, for_logs}
use Rattle.cluster_run.specs.Comes.{AreUnfit, LeavesLogs, NotOpened, WasServed}
use Rattle.cluster_run.specs.Complete.{IsSound}
use Rattle.cluster_run.specs.Faults.{faults_of}
use Rattle.cluster_run.proofs.Ends.{same_keeps}
use Rattle.cluster_run.proofs.Serves.{same_job}
use Rattle.cluster_run.proofs.Sound.{rise_since, run_sound, unread_sound}
use Rattle.cluster_run.proofs.cluster.run_cluster.Goals as goal
use Rattle.command_words.specs.declared.words.RunOptions.{RunOptions}
use Rattle.engine_rounds.specs.Heard.{heard_of}
use Rattle.hub_store.specs.Trail.{Settled}
use Rattle.open_logs.specs.Spent.{AreRefused}
use Rattle.site_model.specs.Calls.{HasRisen}
use Rattle.site_model.specs.History.{Step, content_of}

pub returns-in-Ok-clause-comes : goal.returns-in-Ok-clause-comes
returns-in-Ok-clause-comes g c = λ tells.
    let e = c.run_input.ensures in
    let r = c.run_input.result in
    let options = c.args.options in
    let same = c.in-Ok.ensures.unchanged in
    let asks = (c.in-Ok.ensures.reads (e.tells tells)).0 in
    let own = subst (λ (s : List Step). Asks options.partitions options.nodes (λ file. content_of file s) (job_of c.in-Ok.input)) (sym same) asks in
    inr (subst (λ (s : List Step). NotOpened options (λ file. content_of file s) s (g.V.Site.history r.site) r.trail r.cause ⊎ WasServed options (λ file. content_of file s) (heard_of (g.C.Clock.given c.args.clock) (g.C.Clock.given r.clock) (g.C.Clock.latest r.clock)) (g.V.Site.tells r.site) s (g.V.Site.history r.site) r.trail r.cause) same (e.comes tells own))

-- by why they are unfit
left : (options : RunOptions) (old new : List Step) (trail : List Settled) (job : Job) → Asks options.partitions options.nodes (λ file. content_of file old) job
    → (AreRefused job.flows options.partitions job.digest (λ file. content_of file old) job.requests → LeavesLogs options.partitions old new trail) → AreUnfit options (λ file. content_of file old) → LeavesLogs options.partitions old new trail
left options old new trail job asks clean (for_input cause refused) = absurd (let wrong : None ≡ Some cause = sym asks.accepted ∙ refused in cc wrong)
left options old new trail job asks clean (for_logs other asked refused) =
    clean (subst (λ (j : Job). AreRefused j.flows options.partitions j.digest (λ file. content_of file old) j.requests) (same_job options.partitions options.nodes (λ file. content_of file old) other job asked asks) refused)

pub returns-in-Ok-clause-unfit : goal.returns-in-Ok-clause-unfit
returns-in-Ok-clause-unfit g c = λ tells unfit.
    let e = c.run_input.ensures in
    let r = c.run_input.result in
    let options = c.args.options in
    let same = c.in-Ok.ensures.unchanged in
    let job = job_of c.in-Ok.input in
    let asks = (c.in-Ok.ensures.reads (e.tells tells)).0 in
    left options (g.V.Site.history c.args.site) (g.V.Site.history r.site) r.trail job asks
    (subst (λ (s : List Step). AreRefused job.flows options.partitions job.digest (λ file. content_of file s) job.requests → LeavesLogs options.partitions s (g.V.Site.history r.site) r.trail) same (e.clean tells)) unfit

pub returns-in-Err-clause-untouched : goal.returns-in-Err-clause-untouched
returns-in-Err-clause-untouched g c =
    same_keeps c.args.options.partitions (g.V.Site.history c.args.site) (g.V.Site.history c.end_with.result.site) c.end_with.result.cause (ap g.V.Site.history c.end_with.ensures.site ∙ c.in-Err.ensures.unchanged)

pub returns-in-Ok-clause-complete : goal.returns-in-Ok-clause-complete
returns-in-Ok-clause-complete g c = λ tells fit none.
    let r = c.run_input.result in
    let read = c.in-Ok.ensures in
    let before = faults_of (g.V.Site.disk_faults c.args.site) (g.V.Site.say_faults c.args.site) (g.C.Clock.clock_faults c.args.clock) in
    let after = faults_of (g.V.Site.disk_faults r.site) (g.V.Site.say_faults r.site) (g.C.Clock.clock_faults r.clock) in
    let then = c.read_input.new.site in
    let mid = faults_of (g.V.Site.disk_faults then) (g.V.Site.say_faults then) (g.C.Clock.clock_faults c.args.clock) in
    let files : ℕ → List ℕ = λ file. content_of file (g.V.Site.history c.args.site) in
    run_sound c.args.options files (heard_of (g.C.Clock.given c.args.clock) (g.C.Clock.given r.clock) (g.C.Clock.latest r.clock)) (g.V.Site.tells r.site) (g.V.Site.history c.args.site) (g.V.Site.history r.site) r.trail r.cause before after
    (returns-in-Ok-clause-comes g c tells) (rise_since r.cause before mid after c.run_input.ensures.faults read.later read.say_faults (refl {a = g.C.Clock.clock_faults c.args.clock})) fit none

pub returns-in-Err-clause-complete : goal.returns-in-Err-clause-complete
returns-in-Err-clause-complete g c = λ tells fit none.
    let r = c.end_with.result in
    let end = c.end_with.ensures in
    let read = c.in-Err.ensures in
    let before = faults_of (g.V.Site.disk_faults c.args.site) (g.V.Site.say_faults c.args.site) (g.C.Clock.clock_faults c.args.clock) in
    let after = faults_of (g.V.Site.disk_faults r.site) (g.V.Site.say_faults r.site) (g.C.Clock.clock_faults r.clock) in
    let files : ℕ → List ℕ = λ file. content_of file (g.V.Site.history c.args.site) in
    subst IsSound (sym end.cause)
    (unread_sound c.args.options files _ before after (read.reads (subst g.V.Site.tells end.site tells)) read.input_cause
    (λ is. subst (λ site. HasRisen (g.V.Site.disk_faults c.args.site) (g.V.Site.disk_faults site)) (sym end.site) (read.fault (ap (λ x. Err x) is))) fit none)
