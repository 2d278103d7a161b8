-- What is shown where nothing is said.
use Rattle.std.proofs.Common.{◌≡◌, ◌∙◌, inl, inr, ℕ, zero, suc, List, Result, Err, refl, sym, ap, subst}
use Rattle.std.specs.Prelude.{IfErr}
use Rattle.std.proofs.lemmas.Result.{IfErr-at_err}
use Rattle.dura_model.specs.Partition.{Partition, shown}
use Rattle.cluster_run.specs.Causes.{cause_of_recovery}
use Rattle.engine_run.specs.Showing.{ShowsAs, AreThere, RefusesAs}
use Rattle.flow_syntax.specs.Syntax.{Flows}
use Rattle.log_files.specs.Fronts.{AreSyncs, synced_to}
use Rattle.recover_core.specs.Recovering.{Refuses, AreOpened}
use Rattle.recover_core.specs.declared.error.RecoverError.{RecoverError}
use Rattle.recover_core.specs.declared.error.RecoverError.TheVariants as errors
use Rattle.recover_core.specs.declared.recovery.Opened.{Opened}
use Rattle.part_steps.specs.States.{parts_in}
use Rattle.run_causes.specs.declared.cause.Cause.{Cause}
use Rattle.run_causes.specs.declared.cause.Cause.TheVariants.{Done, Usage, BadFlows, BadRequests, Clash, BadPlan, TooLong, Waiting, Long, SiteFault, SayFault, ClockFault, Damaged, Illegal, Unclosed, OtherShape, OtherFlows, Memory, Full, Spent}
use Rattle.run_inputs.specs.Input.{HasFlows, IsFlowsCause, RefusesInput}
use Rattle.run_inputs.specs.Refusal.{flows_refusal}
use Rattle.site_model.specs.History.{Step, tape}
use Rattle.state_lines.specs.Fronts.{SaysTable, StopsInTable}
use Rattle.state_lines.specs.declared.error.ShowError.{ShowError}

-- syncs say nothing
tape_synced : (most : ℕ) (old : List Step) → tape (synced_to most old) ≡ tape old
tape_synced zero old = refl
tape_synced (suc most) old = tape_synced most old

pub syncs_tape : (count : ℕ) (old new : List Step) → AreSyncs count old new → tape new ≡ tape old
syncs_tape count old new (most, below, inl is) = ap tape is ∙ tape_synced most old
syncs_tape count old new (most, below, inr last) = ap tape last.1 ∙ tape_synced most old

-- flows that were refused
pub flows_shown : (files : ℕ → List ℕ) (count : ℕ) (old new : List ℕ) (cause : Cause) → IsFlowsCause cause → RefusesInput (flows_refusal files) cause → new ≡ old → ShowsAs files count old new cause
flows_shown files count old new Done is refuses same = absurd is
flows_shown files count old new Usage is refuses same = absurd is
flows_shown files count old new (BadFlows fault) is refuses same = (refuses, same)
flows_shown files count old new (BadRequests line) is refuses same = absurd is
flows_shown files count old new (Clash client number) is refuses same = absurd is
flows_shown files count old new (BadPlan place) is refuses same = absurd is
flows_shown files count old new (TooLong file) is refuses same = (refuses, same)
flows_shown files count old new (Waiting client number) is refuses same = absurd is
flows_shown files count old new (Long labels) is refuses same = absurd is
flows_shown files count old new SiteFault is refuses same = same
flows_shown files count old new SayFault is refuses same = absurd is
flows_shown files count old new ClockFault is refuses same = absurd is
flows_shown files count old new (Damaged file offset) is refuses same = absurd is
flows_shown files count old new (Illegal partition position) is refuses same = absurd is
flows_shown files count old new (Unclosed partition position src seq) is refuses same = absurd is
flows_shown files count old new (OtherShape found asked) is refuses same = absurd is
flows_shown files count old new (OtherFlows found given) is refuses same = absurd is
flows_shown files count old new Memory is refuses same = inl same
flows_shown files count old new (Full partition length) is refuses same = absurd is
flows_shown files count old new (Spent partition number) is refuses same = absurd is

-- logs that were refused
error_shown : (files : ℕ → List ℕ) (count : ℕ) (old new : List ℕ) (flows : Flows) (digest : ℕ) → HasFlows files flows digest → (error : RecoverError) → Refuses flows count digest files error → new ≡ old → ShowsAs files count old new (cause_of_recovery error)
error_shown files count old new flows digest has (errors.Damaged file offset) refuses same = ((flows, digest, has, refuses), same)
error_shown files count old new flows digest has (errors.OtherShape found asked) refuses same = ((flows, digest, has, refuses), same)
error_shown files count old new flows digest has (errors.OtherFlows found given) refuses same = ((flows, digest, has, refuses), same)
error_shown files count old new flows digest has (errors.Illegal partition position) refuses same = ((flows, digest, has, refuses), same)
error_shown files count old new flows digest has (errors.Unclosed partition position src seq) refuses same = ((flows, digest, has, refuses), same)
error_shown files count old new flows digest has errors.SiteFault refuses same = same
error_shown files count old new flows digest has errors.Memory refuses same = inl same

pub logs_shown : (files : ℕ → List ℕ) (count : ℕ) (old new : List ℕ) (flows : Flows) (digest : ℕ) (cause : Cause) → HasFlows files flows digest → RefusesAs flows count digest files cause → new ≡ old → ShowsAs files count old new cause
logs_shown files count old new flows digest cause has refuses same = subst (ShowsAs files count old new) (sym refuses.cause_is) (error_shown files count old new flows digest has refuses.error refuses.refuses same)

-- what was recovered is there
pub are_there : (files : ℕ → List ℕ) (count : ℕ) (flows : Flows) (digest : ℕ) (opened : Opened) → HasFlows files flows digest → AreOpened flows count digest files opened → AreThere files count flows (parts_in opened.states.items)
are_there files count flows digest opened has is = record { digest = digest; flows_in_file = has; logs = is.logs; kept = is.kept; none_left = is.none_left; made = is.states }

pub table_shown : (files : ℕ → List ℕ) (count many : ℕ) (flows own : Flows) (states : ℕ → Partition) (old mid now : List ℕ) → AreThere files count flows states → own ≡ flows → many ≡ count → mid ≡ old → SaysTable own (shown own many states) mid now
    → (f : Flows) × (p : ℕ → Partition) × AreThere files count f p × SaysTable f (shown f count p) old now
table_shown files count many flows own states old mid now there is long same says =
    (flows, states, there, subst (λ (t : List ℕ). SaysTable flows (shown flows count states) t now) same (subst (λ (n : ℕ). SaysTable flows (shown flows n states) mid now) long (subst (λ (f : Flows). SaysTable f (shown f many states) mid now) is says)))

-- ---- a table that stops

pub stopped : {T : Type 0} (r : Result T ShowError) (P : ShowError → Type 0) (found error : ShowError) → IfErr r P → r ≡ Err found → found ≡ error → P error
stopped r P found error stops is same = subst P same (IfErr-at_err P is stops)

pub stops_shown : (files : ℕ → List ℕ) (count many : ℕ) (flows own : Flows) (states : ℕ → Partition) (old mid now : List ℕ) (error : ShowError) → AreThere files count flows states → own ≡ flows → many ≡ count → mid ≡ old → StopsInTable own (shown own many states) error mid now
    → (f : Flows) × (p : ℕ → Partition) × AreThere files count f p × StopsInTable f (shown f count p) error old now
stops_shown files count many flows own states old mid now error there is long same stops = (
  flows,
  states,
  there,
  subst (λ (t : List ℕ). StopsInTable flows (shown flows count states) error t now) same
      (subst (λ (n : ℕ). StopsInTable flows (shown flows n states) error mid now) long (subst (λ (f : Flows). StopsInTable f (shown f many states) error mid now) is stops)),
)
