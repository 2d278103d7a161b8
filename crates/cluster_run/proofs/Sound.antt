-- A run ends soundly where its files are fit, and the outside doesn't fail.
use Rattle.std.proofs.Common.{◌≡◌, ◌≢◌, ◌≤◌, ◌∙◌, inl, inr, ℕ, List, Option, Some, None, refl, sym, ap, subst, arith}
use Rattle.cluster_run.specs.Asked.{Job}
use Rattle.cluster_run.specs.Causes.{cause_of_open}
use Rattle.cluster_run.specs.Comes.{ComesTo, NotOpened}
use Rattle.cluster_run.specs.Complete.{AreFit, HasRoom, IsSound, NoneRose}
use Rattle.cluster_run.specs.Faults.{Faults, FaultsRise}
use Rattle.cluster_run.proofs.Ends.{IsLateCause, input_no_clock, input_no_say, late_causes}
use Rattle.cluster_run.proofs.Serves.{same_job}
use Rattle.command_words.specs.declared.words.RunOptions.{RunOptions}
use Rattle.engine_rounds.specs.Heard.{Heard}
use Rattle.hub_store.specs.Trail.{Settled}
use Rattle.open_laws.proofs.Opens.{may_meet}
use Rattle.open_laws.specs.Standing.{MayMeet, StandFor}
use Rattle.open_logs.specs.declared.error.OpenError.{OpenError}
use Rattle.open_logs.specs.declared.error.OpenError.TheVariants as refusals
use Rattle.recover_core.specs.declared.error.RecoverError.TheVariants as errors
use Rattle.run_causes.specs.declared.cause.Cause.{Cause}
use Rattle.run_causes.specs.declared.cause.Cause.TheVariants.{Done, Usage, BadFlows, BadRequests, Clash, BadPlan, TooLong, Waiting, Long, SiteFault, SayFault, ClockFault, Damaged, Illegal, Unclosed, OtherShape, OtherFlows, Memory, Full, Spent}
use Rattle.run_inputs.specs.Input.{IsInputCause, RefusesInput}
use Rattle.run_inputs.specs.Refusal.{refusal_of}
use Rattle.site_model.proofs.Faults.{risen_later}
use Rattle.site_model.specs.Calls.{HasRisen}
use Rattle.site_model.specs.History.{Step}

-- ---- faults

-- a count that is the same, and could have risen, did not
not_risen : (before now : ℕ) → now ≡ before → HasRoom before → HasRisen before now → ⊥
not_risen before now same room (inl more) = omega (arith, same, more)
not_risen before now same room (inr last) = omega (arith, room, last)

-- what rose since a moment rose since an earlier one
pub rise_since : (cause : Cause) (old mid new : Faults) → FaultsRise cause mid new → old.disk ≤ mid.disk → mid.tape ≡ old.tape → mid.clock ≡ old.clock → FaultsRise cause old new
rise_since cause old mid new rise later tape clock = record {
  of_disk = λ is. risen_later old.disk mid.disk new.disk later rise.disk (rise.of_disk is);
  of_tape = λ is. subst (λ (n : ℕ). HasRisen n new.tape) tape (rise.of_tape is);
  of_clock = λ is. subst (λ (n : ℕ). HasRisen n new.clock) clock (rise.of_clock is);
  disk = let further = rise.disk in omega (arith, later, further);
  tape = subst (λ (n : ℕ). n ≤ new.tape) tape rise.tape;
  clock = subst (λ (n : ℕ). n ≤ new.clock) clock rise.clock;
}

-- It is no fault of the outside.
pub record IsNoFault (cause : Cause) : Type 0 where
  pub disk : cause ≢ SiteFault
  pub tape : cause ≢ SayFault
  pub clock : cause ≢ ClockFault

pub no_fault : (cause : Cause) (old new : Faults) → FaultsRise cause old new → NoneRose old new → IsNoFault cause
no_fault cause old new rise none = record {
  disk = λ is. not_risen old.disk new.disk (ap (λ (f : Faults). f.disk) none.same) none.disk (rise.of_disk is);
  tape = λ is. not_risen old.tape new.tape (ap (λ (f : Faults). f.tape) none.same) none.tape (rise.of_tape is);
  clock = λ is. not_risen old.clock new.clock (ap (λ (f : Faults). f.clock) none.same) none.clock (rise.of_clock is);
}

-- ---- causes

-- a call that went on
late_sound : (cause : Cause) → IsLateCause cause → IsNoFault cause → IsSound cause
late_sound Done late none = tt
late_sound (Waiting client number) late none = tt
late_sound (Long labels) late none = tt
late_sound (Full partition length) late none = tt
late_sound (Spent partition number) late none = tt
late_sound Memory late none = tt
late_sound SiteFault late none = none.disk refl
late_sound SayFault late none = none.tape refl
late_sound ClockFault late none = none.clock refl
late_sound Usage late none = absurd late
late_sound (BadFlows fault) late none = absurd late
late_sound (BadRequests line) late none = absurd late
late_sound (Clash client number) late none = absurd late
late_sound (BadPlan place) late none = absurd late
late_sound (TooLong file) late none = absurd late
late_sound (Damaged file offset) late none = absurd late
late_sound (Illegal partition position) late none = absurd late
late_sound (Unclosed partition position src seq) late none = absurd late
late_sound (OtherShape found asked) late none = absurd late
late_sound (OtherFlows found given) late none = absurd late

pub not_both : (refusal : Option Cause) (cause : Cause) → refusal ≡ None → refusal ≡ Some cause → ⊥
not_both refusal cause accepted refused = let wrong : None ≡ Some cause = sym accepted ∙ refused in cc wrong

-- input files that are accepted
input_sound : (refusal : Option Cause) → refusal ≡ None → (cause : Cause) → RefusesInput refusal cause → IsNoFault cause → IsSound cause
input_sound refusal accepted (BadFlows fault) why none = not_both refusal (BadFlows fault) accepted why
input_sound refusal accepted (BadRequests line) why none = not_both refusal (BadRequests line) accepted why
input_sound refusal accepted (Clash client number) why none = not_both refusal (Clash client number) accepted why
input_sound refusal accepted (BadPlan place) why none = not_both refusal (BadPlan place) accepted why
input_sound refusal accepted (TooLong file) why none = not_both refusal (TooLong file) accepted why
input_sound refusal accepted SiteFault why none = none.disk refl
input_sound refusal accepted Memory why none = tt
input_sound refusal accepted Done why none = absurd why
input_sound refusal accepted Usage why none = absurd why
input_sound refusal accepted (Waiting client number) why none = absurd why
input_sound refusal accepted (Long labels) why none = absurd why
input_sound refusal accepted SayFault why none = absurd why
input_sound refusal accepted ClockFault why none = absurd why
input_sound refusal accepted (Damaged file offset) why none = absurd why
input_sound refusal accepted (Illegal partition position) why none = absurd why
input_sound refusal accepted (Unclosed partition position src seq) why none = absurd why
input_sound refusal accepted (OtherShape found asked) why none = absurd why
input_sound refusal accepted (OtherFlows found given) why none = absurd why
input_sound refusal accepted (Full partition length) why none = absurd why
input_sound refusal accepted (Spent partition number) why none = absurd why

-- log files that stand for a run
open_sound : (error : OpenError) → MayMeet error → IsNoFault (cause_of_open error) → IsSound (cause_of_open error)
open_sound (refusals.Refused errors.SiteFault) may none = none.disk refl
open_sound (refusals.Refused errors.Memory) may none = tt
open_sound (refusals.Refused (errors.Damaged file offset)) may none = absurd may
open_sound (refusals.Refused (errors.OtherShape found asked)) may none = absurd may
open_sound (refusals.Refused (errors.OtherFlows found given)) may none = absurd may
open_sound (refusals.Refused (errors.Illegal partition position)) may none = absurd may
open_sound (refusals.Refused (errors.Unclosed partition position src seq)) may none = absurd may
open_sound (refusals.Spent partition number) may none = tt
open_sound (refusals.Clash client number) may none = absurd may

opened_sound : (options : RunOptions) (files : ℕ → List ℕ) (old new : List Step) (trail : List Settled) (cause : Cause) → NotOpened options files old new trail cause → AreFit options files → IsNoFault cause → IsSound cause
opened_sound options files old new trail cause opened fit none =
    let same = same_job options.partitions options.nodes files fit.job opened.job fit.asks opened.asks in
    let stand = subst (λ (j : Job). StandFor j.flows options.partitions j.digest files j.requests) same fit.stand in
    let may = may_meet opened.job.flows options.partitions opened.job.digest files opened.job.requests stand opened.error opened.why in
    subst IsSound (sym opened.cause_is) (open_sound opened.error may (subst IsNoFault opened.cause_is none))

-- ---- runs

-- of a run by what it came to
pub run_sound : (options : RunOptions) (files : ℕ → List ℕ) (heard : Heard) (tells : Type 0) (old new : List Step) (trail : List Settled) (cause : Cause) (before after : Faults) → ComesTo options files heard tells old new trail cause → FaultsRise cause before after → AreFit options files
    → NoneRose before after → IsSound cause
run_sound options files heard tells old new trail cause before after comes rise fit none =
    let no = no_fault cause before after rise none in
    elim comes [
      | inl read ↦ input_sound (refusal_of options.partitions options.nodes files) fit.asks.accepted cause read.why no
      | inr further ↦ elim further [
        | inl opened ↦ opened_sound options files old new trail cause opened fit no
        | inr served ↦ late_sound cause (late_causes served.came served.port cause served.went served.cause_by) no
      ]
    ]

-- of one whose input files weren't read
pub unread_sound : (options : RunOptions) (files : ℕ → List ℕ) (cause : Cause) (before after : Faults) → RefusesInput (refusal_of options.partitions options.nodes files) cause → IsInputCause cause → (cause ≡ SiteFault → HasRisen before.disk after.disk) → AreFit options files → NoneRose before after → IsSound cause
unread_sound options files cause before after why input fault fit none =
    input_sound (refusal_of options.partitions options.nodes files) fit.asks.accepted cause why (record {
      disk = λ is. not_risen before.disk after.disk (ap (λ (f : Faults). f.disk) none.same) none.disk (fault is);
      tape = input_no_say cause input;
      clock = input_no_clock cause input;
    })
