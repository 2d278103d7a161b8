use Rattle.std.proofs.Common.{List, ap, arith, inl, inr, subst, ℕ, ◌<◌, ◌≡◌, ◌≤◌}
use Rattle.engine_run.proofs.recorded.run_recorded.Goals as goal
use Rattle.cluster_run.specs.Faults.{faults_of}
use Rattle.engine_rounds.specs.Heard.{heard_of}
use Rattle.engine_run.specs.Complete.{EndsSoundly}
use Rattle.engine_run.specs.Promises.{Promises}
use Rattle.site_calls.specs.Events.{Event, Tells, replay}
use Rattle.site_calls.specs.Failures.{disk_failures, say_failures}
use Rattle.site_calls.specs.Site.{calls_of, disk_faults_of, say_faults_of}
use Rattle.site_model.specs.Calls.{HasRisen}
use Rattle.site_model.specs.History.{content_of}

-- no call was made before
pub returns-clause-promises : goal.returns-clause-promises
returns-clause-promises g c =
    let unseen = g.S.Start.unseen in
    let end = c.run.result in
    subst (λ (events : List Event). Promises c.args.words.now (Tells unseen (g.C.Calls.events (calls_of end.site))) (replay unseen events).steps (replay unseen (g.C.Calls.events (calls_of end.site))).steps
    (heard_of (g.K.Clock.given c.args.clock) (g.K.Clock.given end.clock) (g.K.Clock.latest end.clock)) end.trail end.cause)
    c.requires c.run.ensures.promises

pub returns-clause-complete : goal.returns-clause-complete
returns-clause-complete g c =
    let unseen = g.S.Start.unseen in
    let end = c.run.result in
    subst (λ (events : List Event). EndsSoundly c.args.words.now (Tells unseen (g.C.Calls.events (calls_of end.site))) (λ file. content_of file (replay unseen events).steps)
    (faults_of (disk_faults_of c.args.site) (say_faults_of c.args.site) (g.K.Clock.clock_faults c.args.clock)) (faults_of (disk_faults_of end.site) (say_faults_of end.site) (g.K.Clock.clock_faults end.clock)) end.cause)
    c.requires c.run.ensures.complete

-- a count that rose from none, and is no higher than that of the calls
has_call : (before none now calls : ℕ) → none ≡ 0 → before ≤ none → HasRisen before now → now ≤ calls → 0 < calls
has_call before none now calls zero within risen counted = elim risen [ inl more ↦ omega arith | inr full ↦ absurd (omega arith) ]

pub returns-clause-fault_call : goal.returns-clause-fault_call
returns-clause-fault_call g c is =
    has_call _ (disk_failures (g.C.Calls.events (calls_of c.args.site))) _ _ (ap disk_failures c.requires) c.args.site.disk_calls (c.run.ensures.faults.of_disk is) c.run.result.site.disk_calls

pub returns-clause-say_fault_call : goal.returns-clause-say_fault_call
returns-clause-say_fault_call g c is =
    has_call _ (say_failures (g.C.Calls.events (calls_of c.args.site))) _ _ (ap say_failures c.requires) c.args.site.say_calls (c.run.ensures.faults.of_tape is) c.run.result.site.say_calls
