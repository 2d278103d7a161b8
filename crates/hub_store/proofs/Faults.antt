-- A call of the store that is refused at its stage met a fault of the disk.
use Rattle.std.proofs.Common.{◌≡◌, ℕ, Bool, true, Result, Err}
use Rattle.hub_store.specs.Changes.{HasHalted}
use Rattle.hub_store.specs.declared.refusal.Refusal.{Refusal}
use Rattle.hub_store.specs.declared.refusal.Refusal.TheVariants.{NoFrame, SiteFault}
use Rattle.site_model.specs.Calls.{HasRisen}

pub faulted : {T : Type 0} (r : Result T Refusal) (e : Refusal) (There : Type 0) (before now : ℕ) (halted : Bool) → r ≡ Err e → (r ≡ Err NoFrame → There → ⊥) → There
    → (r ≡ Err SiteFault → halted ≡ true) → HasHalted before now halted → HasRisen before now
faulted r NoFrame There before now halted is none there fault has = absurd (none is there)
faulted r SiteFault There before now halted is none there fault has = has.risen (fault is)
