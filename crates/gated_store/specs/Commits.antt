-- An entry that takes nothing from others, and why it isn't committed.
use Rattle.std.specs.Prelude.{ℕ}
use Rattle.commit_gate.specs.Refused.{Names}
use Rattle.dura_value.specs.Items.{Identity, Item}
use Rattle.gated_store.specs.declared.refusal.BodyRefused.{BodyRefused}
use Rattle.gated_store.specs.declared.refusal.BodyRefused.TheVariants.{Full, Memory, SiteFault}
use Rattle.hub_store.specs.declared.refusal.BodyRefusal.{BodyRefusal}
use Rattle.hub_store.specs.declared.refusal.BodyRefusal.TheVariants as refusals

-- the item names no entry
abbrev pub NamesNone : Item → Type 0
NamesNone item = (e : Identity) → Names item e → ⊥

-- why a frame of a partition was not written, without the frame and what it sends
abbrev pub refusal_at : (partition : ℕ) → BodyRefused → BodyRefusal
refusal_at partition (Full length frame sending) = refusals.Full partition length
refusal_at partition (Memory frame sending) = refusals.Memory
refusal_at partition SiteFault = refusals.SiteFault
