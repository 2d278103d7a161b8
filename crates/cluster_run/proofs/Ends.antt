-- What a cause tells of how a call came to its end.
use Rattle.std.proofs.Common.{◌≡◌, ◌≢◌, ◌⊎◌, ◌∙◌, inl, inr, ℕ, List, Option, Some, None, refl, sym, ap, subst, arith}
use Rattle.std.specs.Prelude.{IfSome}
use Rattle.client_port.specs.Ports.{Queue}
use Rattle.cluster_run.specs.Causes.{IsRefusal, IsRestOrMemory, WentBy, cause_of_halt, cause_of_open, cause_of_recovery}
use Rattle.cluster_run.specs.Comes.{ComesTo, KeepsFiles}
use Rattle.command_words.specs.declared.words.RunOptions.{RunOptions}
use Rattle.engine_rounds.specs.Heard.{Heard}
use Rattle.engine_rounds.specs.Served.{refusal_in}
use Rattle.engine_rounds.specs.declared.driving.End.TheVariants as ends
use Rattle.engine_rounds.specs.declared.serving.Came.{Came}
use Rattle.engine_rounds.specs.declared.serving.Came.TheVariants as cames
use Rattle.hub_store.specs.Trail.{Settled}
use Rattle.node_core.specs.declared.halt.Halt.{Halt}
use Rattle.node_core.specs.declared.halt.Halt.TheVariants as halts
use Rattle.open_logs.specs.Spent.{OnlySynced}
use Rattle.open_logs.specs.declared.error.OpenError.{OpenError}
use Rattle.open_logs.specs.declared.error.OpenError.TheVariants as refusals
use Rattle.recover_core.specs.declared.error.RecoverError.{RecoverError}
use Rattle.recover_core.specs.declared.error.RecoverError.TheVariants as errors
use Rattle.run_causes.specs.declared.cause.Cause.{Cause}
use Rattle.run_causes.specs.declared.cause.Cause.TheVariants.{Done, Usage, BadFlows, BadRequests, Clash, BadPlan, TooLong, Waiting, Long, SiteFault, SayFault, ClockFault, Damaged, Illegal, Unclosed, OtherShape, OtherFlows, Memory, Full, Spent}
use Rattle.run_inputs.specs.Input.{IsInputCause}
use Rattle.site_model.specs.History.{Step}

-- ---- which causes each has

-- a call that refused its logs
abbrev pub IsOpenCause : Cause → Type 0
IsOpenCause SiteFault = Unit {0}
IsOpenCause Memory = Unit {0}
IsOpenCause (Clash client number) = Unit {0}
IsOpenCause (Damaged file offset) = Unit {0}
IsOpenCause (Illegal partition position) = Unit {0}
IsOpenCause (Unclosed partition position src seq) = Unit {0}
IsOpenCause (OtherShape found asked) = Unit {0}
IsOpenCause (OtherFlows found given) = Unit {0}
IsOpenCause (Spent partition number) = Unit {0}
IsOpenCause other = ⊥

recovery_causes : (error : RecoverError) → IsOpenCause (cause_of_recovery error)
recovery_causes (errors.Damaged file offset) = tt
recovery_causes (errors.OtherShape found asked) = tt
recovery_causes (errors.OtherFlows found given) = tt
recovery_causes (errors.Illegal partition position) = tt
recovery_causes (errors.Unclosed partition position src seq) = tt
recovery_causes errors.SiteFault = tt
recovery_causes errors.Memory = tt

open_causes : (error : OpenError) → IsOpenCause (cause_of_open error)
open_causes (refusals.Refused error) = recovery_causes error
open_causes (refusals.Spent partition number) = tt
open_causes (refusals.Clash client number) = tt

-- and one that went on
abbrev pub IsLateCause : Cause → Type 0
IsLateCause Done = Unit {0}
IsLateCause (Waiting client number) = Unit {0}
IsLateCause (Long labels) = Unit {0}
IsLateCause (Full partition length) = Unit {0}
IsLateCause (Spent partition number) = Unit {0}
IsLateCause SiteFault = Unit {0}
IsLateCause SayFault = Unit {0}
IsLateCause ClockFault = Unit {0}
IsLateCause Memory = Unit {0}
IsLateCause other = ⊥

halt_causes : (halt : Halt) → IsLateCause (cause_of_halt halt)
halt_causes (halts.Full partition length) = tt
halt_causes (halts.Spent partition number) = tt
halt_causes halts.SiteFault = tt
halt_causes halts.SayFault = tt
halt_causes halts.ClockFault = tt
halt_causes halts.Memory = tt

rest_causes : (queues : List Queue) (cause : Cause) → IsRestOrMemory queues cause → IsLateCause cause
rest_causes queues Done rest = tt
rest_causes queues (Waiting client number) rest = tt
rest_causes queues Memory rest = tt
rest_causes queues Usage rest = absurd rest
rest_causes queues (BadFlows fault) rest = absurd rest
rest_causes queues (BadRequests line) rest = absurd rest
rest_causes queues (Clash client number) rest = absurd rest
rest_causes queues (BadPlan place) rest = absurd rest
rest_causes queues (TooLong file) rest = absurd rest
rest_causes queues (Long labels) rest = absurd rest
rest_causes queues SiteFault rest = absurd rest
rest_causes queues SayFault rest = absurd rest
rest_causes queues ClockFault rest = absurd rest
rest_causes queues (Damaged file offset) rest = absurd rest
rest_causes queues (Illegal partition position) rest = absurd rest
rest_causes queues (Unclosed partition position src seq) rest = absurd rest
rest_causes queues (OtherShape found asked) rest = absurd rest
rest_causes queues (OtherFlows found given) rest = absurd rest
rest_causes queues (Full partition length) rest = absurd rest
rest_causes queues (Spent partition number) rest = absurd rest

pub late_causes : (came : Came) (port : Option (List Queue)) (cause : Cause) → refusal_in came ≡ None → WentBy came port cause → IsLateCause cause
late_causes (cames.Refused error) port cause went by = absurd (cc went)
late_causes (cames.Halted halt) port cause went by = subst IsLateCause (sym by) (halt_causes halt)
late_causes (cames.Ended (ends.Long labels)) port cause went by = subst IsLateCause (sym by) tt
late_causes (cames.Ended ends.Rest) None cause went by = subst IsLateCause (sym by) tt
late_causes (cames.Ended ends.Rest) (Some queues) cause went by = rest_causes queues cause by

late_no_refusal : (cause : Cause) → IsLateCause cause → IsRefusal cause → ⊥
late_no_refusal Done late is = is
late_no_refusal (Waiting client number) late is = is
late_no_refusal (Long labels) late is = is
late_no_refusal (Full partition length) late is = is
late_no_refusal (Spent partition number) late is = is
late_no_refusal SiteFault late is = is
late_no_refusal SayFault late is = is
late_no_refusal ClockFault late is = is
late_no_refusal Memory late is = is
late_no_refusal Usage late is = late
late_no_refusal (BadFlows fault) late is = late
late_no_refusal (BadRequests line) late is = late
late_no_refusal (Clash client number) late is = late
late_no_refusal (BadPlan place) late is = late
late_no_refusal (TooLong file) late is = late
late_no_refusal (Damaged file offset) late is = late
late_no_refusal (Illegal partition position) late is = late
late_no_refusal (Unclosed partition position src seq) late is = late
late_no_refusal (OtherShape found asked) late is = late
late_no_refusal (OtherFlows found given) late is = late

late_keeps : (count : ℕ) (old new : List Step) (cause : Cause) → IsLateCause cause → KeepsFiles count old new cause
late_keeps count old new Done late = tt
late_keeps count old new (Waiting client number) late = tt
late_keeps count old new (Long labels) late = tt
late_keeps count old new (Full partition length) late = tt
late_keeps count old new (Spent partition number) late = tt
late_keeps count old new SiteFault late = tt
late_keeps count old new SayFault late = tt
late_keeps count old new ClockFault late = tt
late_keeps count old new Memory late = tt
late_keeps count old new Usage late = absurd late
late_keeps count old new (BadFlows fault) late = absurd late
late_keeps count old new (BadRequests line) late = absurd late
late_keeps count old new (Clash client number) late = absurd late
late_keeps count old new (BadPlan place) late = absurd late
late_keeps count old new (TooLong file) late = absurd late
late_keeps count old new (Damaged file offset) late = absurd late
late_keeps count old new (Illegal partition position) late = absurd late
late_keeps count old new (Unclosed partition position src seq) late = absurd late
late_keeps count old new (OtherShape found asked) late = absurd late
late_keeps count old new (OtherFlows found given) late = absurd late

recovery_keeps : (count : ℕ) (old new : List Step) (error : RecoverError) → OnlySynced count old new (refusals.Refused error) → KeepsFiles count old new (cause_of_recovery error)
recovery_keeps count old new (errors.Damaged file offset) syncs = syncs
recovery_keeps count old new (errors.OtherShape found asked) syncs = syncs
recovery_keeps count old new (errors.OtherFlows found given) syncs = syncs
recovery_keeps count old new (errors.Illegal partition position) syncs = syncs
recovery_keeps count old new (errors.Unclosed partition position src seq) syncs = syncs
recovery_keeps count old new errors.SiteFault syncs = tt
recovery_keeps count old new errors.Memory syncs = tt

open_keeps : (count : ℕ) (old new : List Step) (error : OpenError) → OnlySynced count old new error → KeepsFiles count old new (cause_of_open error)
open_keeps count old new (refusals.Refused error) syncs = recovery_keeps count old new error syncs
open_keeps count old new (refusals.Spent partition number) syncs = tt
open_keeps count old new (refusals.Clash client number) syncs = syncs

-- ---- of a call, however it came to its end

-- so it may not be for its words
pub no_usage : (came : Came) (port : Option (List Queue)) (cause : Cause) → WentBy came port cause → cause ≢ Usage
no_usage (cames.Refused error) port cause by is = subst IsOpenCause is (subst IsOpenCause (sym by) (open_causes error))
no_usage (cames.Halted halt) port cause by is = subst IsLateCause is (late_causes (cames.Halted halt) port cause refl by)
no_usage (cames.Ended end) port cause by is = subst IsLateCause is (late_causes (cames.Ended end) port cause refl by)

pub keeps_files : (count : ℕ) (old new : List Step) (came : Came) (port : Option (List Queue)) (cause : Cause) → WentBy came port cause → IfSome (refusal_in came) (OnlySynced count old new) → KeepsFiles count old new cause
keeps_files count old new (cames.Refused error) port cause by synced = subst (KeepsFiles count old new) (sym by) (open_keeps count old new error synced)
keeps_files count old new (cames.Halted halt) port cause by synced = late_keeps count old new cause (late_causes (cames.Halted halt) port cause refl by)
keeps_files count old new (cames.Ended end) port cause by synced = late_keeps count old new cause (late_causes (cames.Ended end) port cause refl by)

some_refusal : (error : OpenError) → Some error ≡ None → ⊥
some_refusal error is = cc is

-- a refusal is one of the logs
pub refusal_refused : (came : Came) (port : Option (List Queue)) (cause : Cause) → WentBy came port cause → IsRefusal cause → refusal_in came ≢ None
refusal_refused (cames.Refused error) port cause by is = some_refusal error
refusal_refused (cames.Halted halt) port cause by is = absurd (late_no_refusal cause (late_causes (cames.Halted halt) port cause refl by) is)
refusal_refused (cames.Ended end) port cause by is = absurd (late_no_refusal cause (late_causes (cames.Ended end) port cause refl by) is)

-- ---- faults

recovery_fault : (error : RecoverError) → cause_of_recovery error ≡ SiteFault → error ≡ errors.SiteFault
recovery_fault (errors.Damaged file offset) is = absurd (cc is)
recovery_fault (errors.OtherShape found asked) is = absurd (cc is)
recovery_fault (errors.OtherFlows found given) is = absurd (cc is)
recovery_fault (errors.Illegal partition position) is = absurd (cc is)
recovery_fault (errors.Unclosed partition position src seq) is = absurd (cc is)
recovery_fault errors.SiteFault is = refl
recovery_fault errors.Memory is = absurd (cc is)

open_fault : (error : OpenError) → cause_of_open error ≡ SiteFault → error ≡ refusals.Refused errors.SiteFault
open_fault (refusals.Refused error) is = ap (λ e. refusals.Refused e) (recovery_fault error is)
open_fault (refusals.Spent partition number) is = absurd (cc is)
open_fault (refusals.Clash client number) is = absurd (cc is)

-- what halts for the same cause is the same
abbrev pub halts_alike : Cause → Option Halt
halts_alike SiteFault = Some halts.SiteFault
halts_alike SayFault = Some halts.SayFault
halts_alike ClockFault = Some halts.ClockFault
halts_alike other = None

halt_fault : (halt fault : Halt) (cause : Cause) → halts_alike cause ≡ Some fault → cause_of_halt halt ≡ cause → halt ≡ fault
halt_fault (halts.Full partition length) fault cause alike is = absurd (let wrong : None ≡ Some fault = ap halts_alike is ∙ alike in cc wrong)
halt_fault (halts.Spent partition number) fault cause alike is = absurd (let wrong : None ≡ Some fault = ap halts_alike is ∙ alike in cc wrong)
halt_fault halts.SiteFault fault cause alike is = let same : Some halts.SiteFault ≡ Some fault = ap halts_alike is ∙ alike in cc same
halt_fault halts.SayFault fault cause alike is = let same : Some halts.SayFault ≡ Some fault = ap halts_alike is ∙ alike in cc same
halt_fault halts.ClockFault fault cause alike is = let same : Some halts.ClockFault ≡ Some fault = ap halts_alike is ∙ alike in cc same
halt_fault halts.Memory fault cause alike is = absurd (let wrong : None ≡ Some fault = ap halts_alike is ∙ alike in cc wrong)

-- the disk failed where logs were opened or later
pub site_fault : (came : Came) (port : Option (List Queue)) (cause : Cause) → WentBy came port cause → cause ≡ SiteFault → (came ≡ cames.Refused (refusals.Refused errors.SiteFault)) ⊎ (came ≡ cames.Halted halts.SiteFault)
site_fault (cames.Refused error) port cause by is = inl (ap (λ e. cames.Refused e) (open_fault error (sym by ∙ is)))
site_fault (cames.Halted halt) port cause by is = inr (ap (λ h. cames.Halted h) (halt_fault halt halts.SiteFault SiteFault refl (sym by ∙ is)))
site_fault (cames.Ended (ends.Long labels)) port cause by is = absurd (let wrong : Long labels ≡ SiteFault = sym by ∙ is in cc wrong)
site_fault (cames.Ended ends.Rest) None cause by is = absurd (let wrong : Memory ≡ SiteFault = sym by ∙ is in cc wrong)
site_fault (cames.Ended ends.Rest) (Some queues) cause by is = absurd (subst (IsRestOrMemory queues) is by)

pub say_fault : (came : Came) (port : Option (List Queue)) (cause : Cause) → WentBy came port cause → cause ≡ SayFault → came ≡ cames.Halted halts.SayFault
say_fault (cames.Refused error) port cause by is = absurd (subst IsOpenCause (sym by ∙ is) (open_causes error))
say_fault (cames.Halted halt) port cause by is = ap (λ h. cames.Halted h) (halt_fault halt halts.SayFault SayFault refl (sym by ∙ is))
say_fault (cames.Ended (ends.Long labels)) port cause by is = absurd (let wrong : Long labels ≡ SayFault = sym by ∙ is in cc wrong)
say_fault (cames.Ended ends.Rest) None cause by is = absurd (let wrong : Memory ≡ SayFault = sym by ∙ is in cc wrong)
say_fault (cames.Ended ends.Rest) (Some queues) cause by is = absurd (subst (IsRestOrMemory queues) is by)

pub clock_fault : (came : Came) (port : Option (List Queue)) (cause : Cause) → WentBy came port cause → cause ≡ ClockFault → came ≡ cames.Halted halts.ClockFault
clock_fault (cames.Refused error) port cause by is = absurd (subst IsOpenCause (sym by ∙ is) (open_causes error))
clock_fault (cames.Halted halt) port cause by is = ap (λ h. cames.Halted h) (halt_fault halt halts.ClockFault ClockFault refl (sym by ∙ is))
clock_fault (cames.Ended (ends.Long labels)) port cause by is = absurd (let wrong : Long labels ≡ ClockFault = sym by ∙ is in cc wrong)
clock_fault (cames.Ended ends.Rest) None cause by is = absurd (let wrong : Memory ≡ ClockFault = sym by ∙ is in cc wrong)
clock_fault (cames.Ended ends.Rest) (Some queues) cause by is = absurd (subst (IsRestOrMemory queues) is by)

-- ---- input files

pub input_no_usage : (cause : Cause) → IsInputCause cause → cause ≢ Usage
input_no_usage cause input is = subst IsInputCause is input

pub input_no_say : (cause : Cause) → IsInputCause cause → cause ≢ SayFault
input_no_say cause input is = subst IsInputCause is input

pub input_no_clock : (cause : Cause) → IsInputCause cause → cause ≢ ClockFault
input_no_clock cause input is = subst IsInputCause is input

-- nothing happened: so no file was touched
pub same_keeps : (count : ℕ) (old new : List Step) (cause : Cause) → new ≡ old → KeepsFiles count old new cause
same_keeps count old new (BadFlows fault) same = same
same_keeps count old new (BadRequests line) same = same
same_keeps count old new (BadPlan place) same = same
same_keeps count old new (TooLong file) same = same
same_keeps count old new (Clash client number) same = (0, omega arith, inl same)
same_keeps count old new (Damaged file offset) same = (0, omega arith, inl same)
same_keeps count old new (OtherShape found asked) same = (0, omega arith, inl same)
same_keeps count old new (OtherFlows found given) same = (0, omega arith, inl same)
same_keeps count old new (Illegal partition position) same = (0, omega arith, inl same)
same_keeps count old new (Unclosed partition position src seq) same = (0, omega arith, inl same)
same_keeps count old new Done same = tt
same_keeps count old new Usage same = tt
same_keeps count old new (Waiting client number) same = tt
same_keeps count old new (Long labels) same = tt
same_keeps count old new (Full partition length) same = tt
same_keeps count old new (Spent partition number) same = tt
same_keeps count old new SiteFault same = tt
same_keeps count old new SayFault same = tt
same_keeps count old new ClockFault same = tt
same_keeps count old new Memory same = tt

-- no run ends for its words
pub never_usage : (options : RunOptions) (files : ℕ → List ℕ) (heard : Heard) (tells : Type 0) (old new : List Step) (trail : List Settled) → ComesTo options files heard tells old new trail Usage → ⊥
never_usage options files heard tells old new trail comes =
    elim comes [
      | inl read ↦ read.why
      | inr further ↦ elim further [
        | inl opened ↦ no_usage (cames.Refused opened.error) None Usage opened.cause_is refl
        | inr served ↦ no_usage served.came served.port Usage served.cause_by refl
      ]
    ]
