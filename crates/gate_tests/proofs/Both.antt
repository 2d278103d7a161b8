-- What holds of two ledgers holds of all.
use Rattle.std.proofs.Common.{◌≡◌, ℕ, zero, suc, [], ◌∷◌, Some, subst}
use Rattle.std.specs.List.{slice_get}
use Rattle.commit_gate.specs.Unlost.{AreUnlost, IsUnlost}
use Rattle.commit_gate.specs.Views.{ledger_of, floors_in}
use Rattle.commit_gate.specs.declared.ledger.Ledger.{Ledger}

abbrev Holds : Ledger → Type 0
Holds ledger = IsUnlost (ledger_of ledger) (floors_in ledger)

both : (one other : Ledger) → Holds one → Holds other → (partition : ℕ) (ledger : Ledger) → slice_get (one ∷ other ∷ []) partition ≡ Some ledger → Holds ledger
both one other first second zero ledger is = let same : one ≡ ledger = cc is in subst Holds same first
both one other first second (suc zero) ledger is = let same : other ≡ ledger = cc is in subst Holds same second
both one other first second (suc (suc more)) ledger is = absurd (cc is)

pub both_unlost : (one other : Ledger) → Holds one → Holds other → AreUnlost (one ∷ other ∷ [])
both_unlost = both
