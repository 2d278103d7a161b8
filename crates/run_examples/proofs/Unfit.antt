-- A run over a log of other flows isn't done.
use Rattle.std.proofs.Common.{◌≡◌, inl, inr, ℕ, List, Some, subst, arith}
use Rattle.cluster_run.proofs.Serves.{same_job}
use Rattle.cluster_run.specs.Asked.{Asks, Job}
use Rattle.cluster_run.specs.Causes.{cause_of_open, cause_of_recovery}
use Rattle.cluster_run.specs.Comes.{ComesTo}
use Rattle.dura_value.specs.Items.{Entry}
use Rattle.hub_store.specs.Trail.{Settled}
use Rattle.many_logs.specs.Placing.{of_partition}
use Rattle.many_logs.specs.Stands.{asked_at}
use Rattle.open_logs.specs.declared.error.OpenError.{OpenError}
use Rattle.open_logs.specs.declared.error.OpenError.TheVariants as refusals
use Rattle.part_items.specs.Examples.{empty_log}
use Rattle.part_items.specs.Logs.{Logs, logs_in, entries_in}
use Rattle.recover_core.specs.declared.error.RecoverError.{RecoverError}
use Rattle.recover_core.specs.declared.error.RecoverError.TheVariants as errors
use Rattle.run_causes.specs.declared.cause.Cause.TheVariants.{Done}
use Rattle.run_examples.proofs.LogsKept.{other_kept}
use Rattle.run_examples.proofs.Ready.{asks_here}
use Rattle.run_examples.specs.Calls.{by_steps, one_asked, unheard}
use Rattle.run_examples.specs.Directories.{directory}
use Rattle.run_inputs.specs.Examples.{requests_bytes}
use Rattle.site_model.specs.History.{Step, content_of}

undone_recovery : (error : RecoverError) → Done ≡ cause_of_recovery error → ⊥
undone_recovery (errors.Damaged file offset) is = cc is
undone_recovery (errors.OtherShape found asked) is = cc is
undone_recovery (errors.OtherFlows found given) is = cc is
undone_recovery (errors.Illegal partition position) is = cc is
undone_recovery (errors.Unclosed partition position src seq) is = cc is
undone_recovery errors.SiteFault is = cc is
undone_recovery errors.Memory is = cc is

undone : (error : OpenError) → Done ≡ cause_of_open error → ⊥
undone (refusals.Refused error) is = undone_recovery error is
undone (refusals.Spent partition number) is = cc is
undone (refusals.Clash name number) is = cc is

-- such a log keeps no entries that could be its own
none_theirs : (entries : List Entry) → entries_in (logs_in (asked_at 1 one_asked.digest 0) (directory requests_bytes empty_log)) ≡ Some entries → ⊥
none_theirs entries is = let wrong = subst (λ (logs : Logs). entries_in logs ≡ Some entries) other_kept is in cc wrong

pub never_done : (old new : List Step) (trail : List Settled) → (λ (file : ℕ). content_of file old) ≡ directory requests_bytes empty_log → ComesTo (by_steps 1) (λ file. content_of file old) unheard (Unit {0}) old new trail Done → ⊥
never_done old new trail held comes = elim comes [
  | inl read ↦ read.why
  | inr further ↦ elim further [
    | inl opened ↦ undone opened.error opened.cause_is
    | inr served ↦ (
        let asks = subst (λ (files : ℕ → List ℕ). Asks 1 1 files served.job) held served.asks in
        let same : served.job ≡ one_asked = same_job 1 1 (directory requests_bytes empty_log) served.job one_asked asks (asks_here empty_log) in
        let theirs = subst (λ (files : ℕ → List ℕ). entries_in (logs_in (asked_at 1 served.job.digest 0) files) ≡ Some (of_partition 0 served.served.run)) held (served.served.theirs tt 0 (omega arith)) in
        none_theirs (of_partition 0 served.served.run) (subst (λ (j : Job). entries_in (logs_in (asked_at 1 j.digest 0) (directory requests_bytes empty_log)) ≡ Some (of_partition 0 served.served.run)) same theirs)
        )
  ]
]
