-- The causes, by what the layers below answer.
use Rattle.std.specs.Prelude.{◌≡◌, ℕ, List, map, Option, Some, None}
use Rattle.client_order.specs.Unsaid.{AreAllSaid, IsFirstUnsaid}
use Rattle.client_port.specs.Ports.{Queue}
use Rattle.engine_rounds.specs.declared.driving.End.{End}
use Rattle.engine_rounds.specs.declared.driving.End.TheVariants as ends
use Rattle.engine_rounds.specs.declared.serving.Came.{Came}
use Rattle.engine_rounds.specs.declared.serving.Came.TheVariants as cames
use Rattle.node_core.specs.declared.halt.Halt.{Halt}
use Rattle.node_core.specs.declared.halt.Halt.TheVariants as halts
use Rattle.open_logs.specs.declared.error.OpenError.{OpenError}
use Rattle.open_logs.specs.declared.error.OpenError.TheVariants as refusals
use Rattle.recover_core.specs.declared.error.RecoverError.{RecoverError}
use Rattle.recover_core.specs.declared.error.RecoverError.TheVariants as errors
use Rattle.run_causes.specs.declared.cause.Cause.{Cause}
use Rattle.run_causes.specs.declared.cause.Cause.TheVariants.{Done, BadFlows, BadRequests, Clash, BadPlan, TooLong, Waiting, Long, SiteFault, SayFault, ClockFault, Damaged, Illegal, Unclosed, OtherShape, OtherFlows, Memory, Full, Spent}

-- why nothing was recovered
abbrev pub cause_of_recovery : RecoverError → Cause
cause_of_recovery (errors.Damaged file offset) = Damaged file offset
cause_of_recovery (errors.OtherShape found asked) = OtherShape found asked
cause_of_recovery (errors.OtherFlows found given) = OtherFlows found given
cause_of_recovery (errors.Illegal partition position) = Illegal partition position
cause_of_recovery (errors.Unclosed partition position src seq) = Unclosed partition position src seq
cause_of_recovery errors.SiteFault = SiteFault
cause_of_recovery errors.Memory = Memory

-- why no logs were opened
abbrev pub cause_of_open : OpenError → Cause
cause_of_open (refusals.Refused error) = cause_of_recovery error
cause_of_open (refusals.Spent partition number) = Spent partition number
cause_of_open (refusals.Clash client number) = Clash client number

-- why a call goes on no more
abbrev pub cause_of_halt : Halt → Cause
cause_of_halt (halts.Full partition length) = Full partition length
cause_of_halt (halts.Spent partition number) = Spent partition number
cause_of_halt halts.SiteFault = SiteFault
cause_of_halt halts.SayFault = SayFault
cause_of_halt halts.ClockFault = ClockFault
cause_of_halt halts.Memory = Memory

-- why a run may end where nothing is possible any more: all is said, or this is the first request whose answer isn't
abbrev pub IsRestCause : List Queue → (clients : List (List ℕ)) → Cause → Type 0
IsRestCause queues clients Done = AreAllSaid queues clients
IsRestCause queues clients (Waiting client number) = IsFirstUnsaid queues clients client number
IsRestCause queues clients other = ⊥

-- so it may, or memory ran out by then
abbrev pub IsRestOrMemory : List Queue → Cause → Type 0
IsRestOrMemory queues Memory = Unit {0}
IsRestOrMemory queues other = IsRestCause queues (map (λ q. q.client) queues) other

-- why rounds end, by what the port has said
abbrev pub EndsFor : End → (port : Option (List Queue)) → Cause → Type 0
EndsFor (ends.Long labels) port cause = cause ≡ Long labels
EndsFor ends.Rest None cause = cause ≡ Memory
EndsFor ends.Rest (Some queues) cause = IsRestOrMemory queues cause

-- why a call ended, by how it came to its end and by what its port has said
abbrev pub WentBy : Came → (port : Option (List Queue)) → Cause → Type 0
WentBy (cames.Refused error) port cause = cause ≡ cause_of_open error
WentBy (cames.Halted halt) port cause = cause ≡ cause_of_halt halt
WentBy (cames.Ended end) port cause = EndsFor end port cause

-- why files are refused
abbrev pub IsRefusal : Cause → Type 0
IsRefusal (BadFlows fault) = Unit {0}
IsRefusal (BadRequests line) = Unit {0}
IsRefusal (BadPlan place) = Unit {0}
IsRefusal (TooLong file) = Unit {0}
IsRefusal (Clash client number) = Unit {0}
IsRefusal (Damaged file offset) = Unit {0}
IsRefusal (OtherShape found asked) = Unit {0}
IsRefusal (OtherFlows found given) = Unit {0}
IsRefusal (Illegal partition position) = Unit {0}
IsRefusal (Unclosed partition position src seq) = Unit {0}
IsRefusal other = ⊥
