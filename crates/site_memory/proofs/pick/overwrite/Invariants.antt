use Rattle.std.proofs.Common.{◌≡◌, ◌⊎◌, ℕ, ◌<◌, ◌≤◌, get_or}
use Rattle.site_memory.proofs.pick.overwrite.Given as goal

abbrev pub invariant-loop-i : goal.invariant-loop-i
invariant-loop-i l = record {
  inside : (k : ℕ) → l.at ≤ k → k < l.end → k < l.i → get_or l.image k 0 ≡ l.byte;
  outside : (k : ℕ) → (k < l.at) ⊎ (l.end ≤ k) → get_or l.image k 0 ≡ get_or l.initial.image k 0;
}
