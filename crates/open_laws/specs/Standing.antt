-- Log files that stand for a run which goes together with requests.
use Rattle.std.specs.Prelude.{ℕ, List}
use Rattle.client_order.specs.Clashes.{taken_in, NoClash}
use Rattle.dura_model.specs.Steps.{Label}
use Rattle.flow_syntax.specs.Syntax.{Flows}
use Rattle.many_logs.specs.Placing.{placed}
use Rattle.many_logs.specs.Stands.{FilesStand}
use Rattle.open_logs.specs.declared.error.OpenError.{OpenError}
use Rattle.open_logs.specs.declared.error.OpenError.TheVariants.{Refused, Spent}
use Rattle.recover_core.specs.declared.error.RecoverError.TheVariants.{SiteFault, Memory}
use Rattle.request_reader.specs.Line.{Request}

-- The files stand for a run under these flows, of so many partitions; and no other request was taken in it under the client's name and the
-- number of one of these.
pub record StandFor (flows : Flows) (count digest : ℕ) (files : ℕ → List ℕ) (requests : List Request) : Type 0 where
  pub run : List Label
  pub stand : FilesStand flows count digest files run
  pub no_clash : NoClash (taken_in count (placed flows count stand.logs).states) requests

-- what opening such files may meet: the disk fails, memory runs out, or a partition's incarnations are used up
abbrev pub MayMeet : OpenError → Type 0
MayMeet (Refused SiteFault) = Unit {0}
MayMeet (Refused Memory) = Unit {0}
MayMeet (Spent partition number) = Unit {0}
MayMeet other = ⊥
