-- A ledger that shows a recovered state fits what a store whose gate compares asks for when it begins.
use Rattle.std.proofs.Common.{◌≡◌, inl, inr, ℕ, ◌≤◌, List, [], length, map, None, sym, subst, ◌∙◌, arith}
use Rattle.std.specs.List.{Contains}
use Rattle.std.proofs.lemmas.Bool.{cases_lt}
use Rattle.std.proofs.lemmas.List.{length-map, get_or_past}
use Rattle.commit_gate.specs.Ledgers.{Ledger}
use Rattle.commit_gate.specs.Unlost.{IsUnlost}
use Rattle.commit_gate.specs.Views.{nobody, readers_in, floors_in, whole_of}
use Rattle.commit_gate.specs.declared.ledger.Ledger as declared
use Rattle.dura_model.specs.Partition.{Partition}
use Rattle.dura_model.specs.Sends as model
use Rattle.dura_value.specs.Items.{Identity, Entry, Floor}
use Rattle.dura_value.specs.Views.{identity_of}
use Rattle.gated_store.specs.Kept.{LedgerFits}
use Rattle.state_ledgers.specs.Ledger.{made_by, NoneReadPast, IsLedgerOf}

-- who read each stream, past the count too
all_read : (count : ℕ) (p : Partition) (past : List ℕ) (ledger : declared.Ledger) → NoneReadPast count p → IsLedgerOf count p past ledger → readers_in ledger ≡ model.readers_in p
all_read count p past ledger none is = λ i source. each source i
  where
    each : (source : ℕ) → readers_in ledger source ≡ model.readers_in p source
    each source = elim (cases_lt source count) [
      | inl low ↦ is.read source low
      | inr high ↦
          let list = map identity_of ledger.readers.items in
          let behind : length list ≤ source = omega (arith, length-map ledger.readers.items identity_of, is.sized.readers, high) in
          get_or_past list source nobody behind ∙ sym (none source high)
    ]

-- no entry was given up, whatever is shown of it
pub none_lost : (ledger : declared.Ledger) (shown : Ledger) → floors_in ledger ≡ [] → IsUnlost shown (floors_in ledger)
none_lost ledger shown none = λ position incarnation at floor there younger. let (k, low, is) = subst (λ (l : List Floor). Contains l floor) none there in absurd (omega (arith, low))

pub fits_first : (ledgers : ℕ → List Entry → Ledger) (readers : ℕ → ℕ → Identity) (count partition : ℕ) (p : Partition) (past : List ℕ) (ledger : declared.Ledger)
    → ledgers partition [] ≡ made_by past p → readers partition ≡ model.readers_in p → NoneReadPast count p → IsLedgerOf count p past ledger → LedgerFits ledgers readers count partition [] None ledger
fits_first ledgers readers count partition p past ledger made read none is = record {
  sized = is.sized;
  settled = is.settled ∙ sym made;
  comes = is.whole;
  read = all_read count p past ledger none is ∙ sym read;
  unlost = none_lost ledger (whole_of ledger) is.nothing_lost;
}
