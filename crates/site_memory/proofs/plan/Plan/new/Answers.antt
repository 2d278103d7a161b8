use Rattle.std.proofs.Common.{refl}
use Rattle.site_memory.specs.declared.plan.Kind.TheVariants.{Length, Read, Write, Sync, Device, Say}
use Rattle.site_memory.proofs.plan.Plan.new.Goals as goal

pub returns : goal.returns
returns c Length = refl
returns c Read = refl
returns c Write = refl
returns c Sync = refl
returns c Device = refl
returns c Say = refl
