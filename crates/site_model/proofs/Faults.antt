-- Counts of faults that only rise.
use Rattle.std.proofs.Common.{inl, inr, ℕ, ◌≤◌, arith}
use Rattle.std.proofs.lemmas.Bool.{cases_lt}
use Rattle.site_model.specs.Calls.{HasRisen}

pub risen_later : (before mid now : ℕ) → before ≤ mid → mid ≤ now → HasRisen mid now → HasRisen before now
risen_later before mid now first second (inl rose) = inl (omega arith)
risen_later before mid now first second (inr full) = elim (cases_lt before mid) [ inl rose ↦ inl (omega arith) | inr same ↦ inr (omega arith) ]
