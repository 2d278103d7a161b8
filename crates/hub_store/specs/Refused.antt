-- Why a frame was not written, without the frame.
use Rattle.hub_store.specs.declared.refusal.BodyRefusal.{BodyRefusal}
use Rattle.hub_store.specs.declared.refusal.BodyRefusal.TheVariants as refusals
use Rattle.hub_store.specs.declared.refusal.Unwritten.{Unwritten}
use Rattle.hub_store.specs.declared.refusal.Unwritten.TheVariants.{Full, SiteFault, Memory}

abbrev pub refusal_of : Unwritten → BodyRefusal
refusal_of (Full partition length frame) = refusals.Full partition length
refusal_of SiteFault = refusals.SiteFault
refusal_of (Memory frame) = refusals.Memory
